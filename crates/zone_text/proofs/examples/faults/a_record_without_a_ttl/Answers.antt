use Rattle.zone_text.proofs.Common.{[], arith, before_line_feed, codes, cut_by, cutting, from_line_feed, front_of, inl, inr, none, of_ttl, refl, refused, units_by, units_first, whole, x, ◌∷◌}
use Rattle.zone_text.proofs.Tokens.Cuttings.{cut_is_read}
use Rattle.zone_text.proofs.ExampleRecords.{at_spells, is_ns, n_x_spells, ns_has_no_minimum, ns_kind, states_server}
use Rattle.zone_rdata.specs.Spelling.{bare}
use Rattle.zone_text.proofs.Entries.Lines.{contents_by}
use Rattle.zone_text.proofs.examples.faults.a_record_without_a_ttl.Goals as goal

pub returns : goal.returns
unfolding units_by units_first before_line_feed from_line_feed front_of cut_by cutting
returns c =
    whole _ (cut_is_read _ _ refl)
    (refused _ (of_ttl x _
    (contents_by x [] _ x x 1 2 [] (codes "NS") (bare (codes "n.x.") ∷ []) _ refl (x, (refl, at_spells x (omega arith))) tt refl refl is_ns ns_kind (states_server x 1 (codes "n.x.") (λ e. absurd cc) (n_x_spells x)))
    (none (λ seconds has. elim has [ inl states ↦ ns_has_no_minimum c.kind_word_is_unique.ensures [] _ [] _ seconds refl states | inr others ↦ others.1 ]))) refl refl)
