use Rattle.zone_text.proofs.Common.{[], arith, before_line_feed, codes, cut_by, cutting, from_line_feed, front_of, inl, inr, lit<, lit≤, refl, stated, states_one, units_by, units_first, whole, x}
use Rattle.zone_text.proofs.Tokens.Cuttings.{cut_is_read}
use Rattle.zone_text.proofs.ExampleRecords.{at_spells, ns_has_no_minimum, five, states_soa, states_ns_below, states_minimum, minimum_five}
use Rattle.zone_text.proofs.examples.entries.the_minimum_is_the_last_choice.Goals as goal

pub returns : goal.returns
unfolding units_by units_first before_line_feed from_line_feed front_of cut_by cutting
returns c =
    whole _ (cut_is_read _ _ refl)
    (stated (states_one _ _ (states_soa [] _ 5 [] refl (x, (refl, at_spells x (omega arith))) tt refl refl (inl (states_minimum (codes "5") 5 [] _ [] five (lit< tt) minimum_five refl (x, (refl, at_spells x (omega arith))) tt refl refl)) (lit≤ tt)) refl refl
    (stated (states_one _ _ (states_ns_below _ _ 5 [] refl (x, (refl, at_spells x (omega arith))) tt refl refl (inr (λ seconds states. ns_has_no_minimum c.kind_word_is_unique.ensures _ _ [] _ seconds refl states, inl (states_minimum (codes "5") 5 [] _ [] five (lit< tt) minimum_five refl (x, (refl, at_spells x (omega arith))) tt refl refl))) (lit≤ tt)) refl refl (refl, refl)))))
