use Rattle.zone_text.proofs.Common.{[], arith, before_line_feed, codes, cut_by, cutting, from_line_feed, front_of, inl, lit<, long, of_ttl, refl, refused, rules, units_by, units_first, whole, x}
use Rattle.zone_text.proofs.Tokens.Cuttings.{cut_is_read}
use Rattle.zone_text.proofs.ExampleRecords.{at_spells, states_minimum, minimum_too_long}
use Rattle.zone_text.proofs.examples.faults.a_minimum_that_is_no_ttl.Goals as goal

pub returns : goal.returns
unfolding units_by units_first before_line_feed from_line_feed front_of cut_by cutting
returns c =
    let states = states_minimum (codes "2147483648") 2147483648 [] _ [] (search rules) (lit< tt) minimum_too_long refl (x, (refl, at_spells x (omega arith))) tt refl refl in
    whole _ (cut_is_read _ _ refl) (refused _ (of_ttl states.0 states.1 states.2 (long 2147483648 (inl states) (lit< tt))) refl refl)
