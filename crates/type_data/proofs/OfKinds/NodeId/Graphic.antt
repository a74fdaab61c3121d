-- Node identifiers that are printed stand on a line as they are, of octets that a
-- terminal shows.
unfoldable use Rattle.base64.specs.Rfc4648.{encode_symbols}
use Rattle.type_data.proofs.Common.{AllByRecursion, AllByRecursion-back, AllByRecursion-front, AreOctets, List, [], arith, encode_lower, flat_map, length, map, refl, subst, sym, ℕ, ◌<◌, ◌∷◌, ◌≡◌}
use Rattle.type_data.proofs.Printed.Graphic.{IsGraphicText, graphic_hex, graphic_join}
use Rattle.type_data.specs.Kinds.NodeId.{PrintsNodeId}

groups_graphic : (groups : List (List ℕ)) → AllByRecursion (λ group. length group ≡ 2) groups → AreOctets (flat_map (λ group. group) groups) → AllByRecursion IsGraphicText (map encode_lower groups)
groups_graphic [] two each = tt
groups_graphic (group ∷ groups) two each = (
  graphic_hex group (omega (arith, two.0)) (AllByRecursion-front (λ c. c < 256) group (flat_map (λ g. g) groups) each),
  groups_graphic groups two.1 (AllByRecursion-back (λ c. c < 256) group (flat_map (λ g. g) groups) each),
)

some_groups : (groups : List (List ℕ)) → 0 < length groups → 0 < length (map encode_lower groups)
some_groups [] some = absurd (omega arith)
some_groups (group ∷ groups) some = omega arith

pub node_id_graphic : (text octets : List ℕ) → PrintsNodeId text octets → IsGraphicText text
node_id_graphic text octets p =
    subst IsGraphicText (sym p.printed) (graphic_join 58 (map encode_lower p.groups) refl (some_groups p.groups (omega (arith, p.four))) (groups_graphic p.groups p.two (subst AreOctets p.whole p.each)))
