-- Identifiers of hardware that are printed stand on a line as they are, of octets that a
-- terminal shows.
unfoldable use Rattle.base64.specs.Rfc4648.{encode_symbols}
use Rattle.type_data.proofs.Common.{AllByRecursion, AreOctets, List, [], arith, encode_lower, length, map, refl, subst, sym, ℕ, ◌<◌, ◌∷◌}
use Rattle.type_data.proofs.Printed.Graphic.{IsGraphicText, graphic_hex, graphic_join}
use Rattle.type_data.specs.Kinds.Eui.{PrintsEui}

pairs_graphic : (octets : List ℕ) → AreOctets octets → AllByRecursion IsGraphicText (map (λ c. encode_lower (c ∷ [])) octets)
pairs_graphic [] each = tt
pairs_graphic (c ∷ octets) each = (graphic_hex (c ∷ []) (omega arith) (each.0, tt), pairs_graphic octets each.1)

some_pairs : (octets : List ℕ) → 0 < length octets → 0 < length (map (λ c. encode_lower (c ∷ [])) octets)
some_pairs [] some = absurd (omega arith)
some_pairs (c ∷ octets) some = omega arith

pub eui_graphic : (count : ℕ) (text octets : List ℕ) → 0 < count → PrintsEui count text octets → IsGraphicText text
eui_graphic count text octets some p =
    subst IsGraphicText (sym p.printed) (graphic_join 45 (map (λ c. encode_lower (c ∷ [])) octets) refl (some_pairs octets (omega (arith, some, p.counted))) (pairs_graphic octets p.each))
