use Rattle.zone_text.proofs.Common.{arith, before_line_feed, cut_by, cutting, from_line_feed, front_of, lit≤, refl, stated, states_one, units_by, units_first, whole, x}
use Rattle.zone_text.proofs.Tokens.Cuttings.{cut_is_read}
use Rattle.zone_text.proofs.ExampleRecords.{at_spells, sixty, states_ns}
use Rattle.zone_text.proofs.examples.entries.an_entry_may_take_several_lines.Goals as goal

pub returns : goal.returns
unfolding units_by units_first before_line_feed from_line_feed front_of cut_by cutting
returns c =
    whole _ (cut_is_read _ _ refl) (stated (states_one _ _ (states_ns x _ _ x x 1 60 _ refl (x, (refl, at_spells x (omega arith))) ((60, record { time = sixty; short = lit≤ tt }), tt) refl refl sixty (omega arith) (omega arith) (lit≤ tt)) refl refl (stated (states_one _ _ (states_ns x _ _ x x 1 60 _ refl (x, (refl, at_spells x (omega arith))) tt refl refl sixty (omega arith) (omega arith) (lit≤ tt)) refl refl (refl, refl)))))
