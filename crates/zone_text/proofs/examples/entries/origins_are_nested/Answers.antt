use Rattle.zone_text.proofs.Common.{arith, before_line_feed, cut_by, cutting, from_line_feed, front_of, lit≤, refl, stated, states_none, states_one, under, units_by, units_first, whole, x}
use Rattle.zone_text.proofs.Tokens.Cuttings.{cut_is_read}
use Rattle.zone_text.proofs.ExampleRecords.{at_spells, a_spells, b_spells, sixty, states_ns}
use Rattle.zone_text.proofs.examples.entries.origins_are_nested.Goals as goal

pub returns : goal.returns
unfolding units_by units_first before_line_feed from_line_feed front_of cut_by cutting
returns c =
    whole _ (cut_is_read _ _ refl) (stated (states_none (under 97 x, (x, (refl, a_spells))) (stated (states_none (under 98 (under 97 x), (under 97 x, ((x, (refl, a_spells)), b_spells))) (stated (states_one _ _ (states_ns x _ _ (under 98 (under 97 x)) (under 98 (under 97 x)) 1 60 _ refl (under 98 (under 97 x), ((under 97 x, ((x, (refl, a_spells)), b_spells)), at_spells (under 98 (under 97 x)) (omega arith))) ((60, record { time = sixty; short = lit≤ tt }), tt) refl (under 97 x, ((x, (refl, a_spells)), b_spells)) sixty (omega arith) (omega arith) (lit≤ tt)) refl refl (refl, refl)))))))
