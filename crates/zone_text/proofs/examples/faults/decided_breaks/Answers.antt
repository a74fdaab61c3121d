use Rattle.zone_text.proofs.Common.{after_two_digits, arith, before_line_feed, closing_stays, cut_by, cutting, decided, escape_open, escape_stays, from_line_feed, front_of, inr, lit≤, refl, stated, states_one, two_digits, undecided, units_by, units_first, x}
use Rattle.zone_text.proofs.Tokens.Cuttings.{broken_is_read}
use Rattle.zone_text.proofs.ExampleRecords.{at_spells, sixty, states_ns}
use Rattle.zone_text.proofs.Tokens.ForGood.{stays_for_good, ends_not_for_good}
use Rattle.zone_text.proofs.examples.faults.decided_breaks.Goals as goal

pub returns : goal.returns
unfolding units_by units_first before_line_feed from_line_feed front_of cut_by cutting
returns c =
    record {
      parenthesis = decided _ _ (stays_for_good _ _ _ (broken_is_read _ _ _ refl) _ refl (closing_stays _ refl)) (stated (states_one _ _ (states_ns x _ _ x x 1 60 _ refl (x, (refl, at_spells x (omega arith))) ((60, record { time = sixty; short = lit≤ tt }), tt) refl refl sixty (omega arith) (omega arith) (lit≤ tt)) refl refl (refl, refl)));
      lost_escape = decided _ _ (stays_for_good _ _ _ (broken_is_read _ _ _ refl) _ refl (escape_stays (two_digits _ _ _ _ refl refl refl refl))) (refl, refl);
      cut_off_escape = undecided _ (inr (_, broken_is_read _ _ _ refl)) (ends_not_for_good _ _ _ refl (escape_open (after_two_digits _ _ refl refl refl))) (refl, refl);
    }
