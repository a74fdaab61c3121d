use Rattle.zone_text.proofs.Common.{arith, before_line_feed, broken, cut_by, cutting, from_line_feed, front_of, lit≤, refl, stated, states_one, units_by, units_first, x}
use Rattle.zone_text.proofs.Tokens.Cuttings.{broken_is_read}
use Rattle.zone_text.proofs.ExampleRecords.{at_spells, sixty, states_ns}
use Rattle.zone_text.proofs.examples.faults.breaks_come_first.Goals as goal

pub returns : goal.returns
unfolding units_by units_first before_line_feed from_line_feed front_of cut_by cutting
returns c =
    record {
      escape = broken _ _ (broken_is_read _ _ _ refl) (refl, refl);
      parenthesis = broken _ _ (broken_is_read _ _ _ refl) (stated (states_one _ _ (states_ns x _ _ x x 1 60 _ refl (x, (refl, at_spells x (omega arith))) ((60, record { time = sixty; short = lit≤ tt }), tt) refl refl sixty (omega arith) (omega arith) (lit≤ tt)) refl refl (refl, refl)));
      quote = broken _ _ (broken_is_read _ _ _ refl) (stated (states_one _ _ (states_ns x _ _ x x 1 60 _ refl (x, (refl, at_spells x (omega arith))) ((60, record { time = sixty; short = lit≤ tt }), tt) refl refl sixty (omega arith) (omega arith) (lit≤ tt)) refl refl (refl, refl)));
      open_at_the_end = broken _ _ (broken_is_read _ _ _ refl) (refl, refl);
    }
