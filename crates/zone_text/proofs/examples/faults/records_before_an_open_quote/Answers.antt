use Rattle.zone_text.proofs.Common.{arith, before_line_feed, broken, cut_by, cutting, from_line_feed, front_of, lit≤, refl, rules, stated, states_one, under, units_by, units_first, x}
use Rattle.zone_text.proofs.Tokens.Cuttings.{broken_is_read}
use Rattle.zone_text.proofs.ExampleRecords.{at_spells, a_spells, sixty, states_soa, states_address}
use Rattle.zone_text.proofs.examples.faults.records_before_an_open_quote.Goals as goal

pub returns : goal.returns
unfolding units_by units_first before_line_feed from_line_feed front_of cut_by cutting
returns c =
    broken _ _ (broken_is_read _ _ _ refl)
    (stated (states_one _ _ (states_soa _ _ 60 _ refl (x, (refl, at_spells x (omega arith))) ((60, record { time = sixty; short = lit≤ tt }), tt) refl refl sixty (lit≤ tt)) refl refl
    (stated (states_one _ _ (states_address _ _ (under 97 x) 60 _ refl (x, (refl, a_spells)) ((60, record { time = sixty; short = lit≤ tt }), tt) refl refl sixty (omega arith) (lit≤ tt)) refl refl
    (stated (states_one _ _ (states_address _ _ (under 97 x) 61 _ refl (x, (refl, a_spells)) ((61, record { time = search rules; short = lit≤ tt }), tt) refl refl (search rules) (omega arith) (lit≤ tt)) refl refl (refl, refl)))))))
