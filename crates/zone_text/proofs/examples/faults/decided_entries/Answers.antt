use Rattle.zone_text.proofs.Common.{arith, before_line_feed, cut_by, cutting, from_line_feed, front_of, inl, lit≤, of_statement, refl, refused, stated, states_one, undecided, units_by, units_first, x}
use Rattle.zone_text.proofs.Tokens.Cuttings.{cut_is_read}
use Rattle.zone_text.proofs.ExampleRecords.{at_spells, sixty, states_ns}
use Rattle.zone_text.proofs.Tokens.Cuttings.{cut_not_broken}
use Rattle.zone_text.proofs.examples.faults.decided_entries.Goals as goal

pub returns : goal.returns
unfolding units_by units_first before_line_feed from_line_feed front_of cut_by cutting
returns c =
    undecided _ (inl (cut_is_read _ _ refl)) (λ fault good. cut_not_broken _ _ _ fault (cut_is_read _ _ refl) good.breaks) (stated (states_one _ _ (states_ns x _ _ x x 1 60 _ refl (x, (refl, at_spells x (omega arith))) ((60, record { time = sixty; short = lit≤ tt }), tt) refl refl sixty (omega arith) (omega arith) (lit≤ tt)) refl refl (refused _ (of_statement refl) refl refl)))
