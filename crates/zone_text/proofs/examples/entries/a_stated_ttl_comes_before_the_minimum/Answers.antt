use Rattle.zone_text.proofs.Common.{arith, before_line_feed, cut_by, cutting, from_line_feed, front_of, lit≤, refl, rules, stated, states_none, states_one, units_by, units_first, whole, x}
use Rattle.zone_text.proofs.Tokens.Cuttings.{cut_is_read}
use Rattle.zone_text.proofs.ExampleRecords.{at_spells, sixty, states_soa, states_ns_below}
use Rattle.zone_text.proofs.examples.entries.a_stated_ttl_comes_before_the_minimum.Goals as goal

pub returns : goal.returns
unfolding units_by units_first before_line_feed from_line_feed front_of cut_by cutting
returns c =
    record {
      by_a_record = whole _ (cut_is_read _ _ refl)
          (stated (states_one _ _ (states_soa _ _ 60 _ refl (x, (refl, at_spells x (omega arith))) ((60, record { time = sixty; short = lit≤ tt }), tt) refl refl sixty (lit≤ tt)) refl refl
          (stated (states_one _ _ (states_ns_below _ _ 60 _ refl (x, (refl, at_spells x (omega arith))) tt refl refl sixty (lit≤ tt)) refl refl (refl, refl)))));
      by_a_directive = whole _ (cut_is_read _ _ refl)
          (stated (states_one _ _ (states_soa _ _ 60 _ refl (x, (refl, at_spells x (omega arith))) ((60, record { time = sixty; short = lit≤ tt }), tt) refl refl sixty (lit≤ tt)) refl refl
          (stated (states_none (300, record { time = search rules; short = lit≤ tt })
          (stated (states_one _ _ (states_ns_below _ _ 300 _ refl (x, (refl, at_spells x (omega arith))) tt refl refl (search rules) (lit≤ tt)) refl refl (refl, refl)))))));
    }
