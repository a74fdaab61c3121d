-- Domain names that are printed stand on a line as they are, of octets that a
-- terminal shows.
unfoldable use Rattle.base64.specs.Rfc4648.{encode_symbols}
use Rattle.zone_name.specs.Name.{IsCasedLabel}
use Rattle.zone_name.specs.Text.{is_printed, is_special, label_text, name_text, octet_text}
use Rattle.type_data.proofs.Common.{AllByRecursion, AllByRecursion-append, AreOctets, Bool, Labels, List, [], arith, false, flat_map, if◌then◌else◌, nat_tests, refl, subst, sym, true, ℕ, ◌%◌, ◌+◌, ◌/◌, ◌<◌, ◌∷◌, ◌≡◌}
use Rattle.type_data.proofs.Printed.Graphic.{AreGraphic, IsGraphic, IsGraphicText}
use Rattle.type_data.proofs.OfKinds.Name.ReadAgain.{name_printed_stands}
use Rattle.type_data.specs.Kinds.Name.{PrintsName}

octet_graphic : (special printed : Bool) (c : ℕ) → c < 256 → is_special c ≡ special → is_printed c ≡ printed → AreGraphic (if special then 92 ∷ c ∷ [] else (if printed then c ∷ [] else 92 ∷ (48 + c / 100) ∷ (48 + c / 10 % 10) ∷ (48 + c % 10) ∷ []))
octet_graphic true printed c low s p = grind (arith, nat_tests)
octet_graphic false true c low s p = grind (arith, nat_tests)
octet_graphic false false c low s p = (omega arith, (omega arith, (omega arith, (omega arith, tt))))

octets_graphic : (label : List ℕ) → AreOctets label → AreGraphic (flat_map octet_text label)
octets_graphic [] low = tt
octets_graphic (c ∷ label) low = AllByRecursion-append IsGraphic (octet_text c) (flat_map octet_text label) (octet_graphic (is_special c) (is_printed c) c low.0 refl refl) (octets_graphic label low.1)

labels_graphic : (labels : Labels) → AllByRecursion IsCasedLabel labels → AreGraphic (flat_map label_text labels)
labels_graphic [] each = tt
labels_graphic (label ∷ labels) each =
    AllByRecursion-append IsGraphic (label_text label) (flat_map label_text labels)
    (AllByRecursion-append IsGraphic (flat_map octet_text label) (46 ∷ []) (octets_graphic label each.0.each) ((omega arith, omega arith), tt)) (labels_graphic labels each.1)

name_text_graphic : (labels : Labels) → AllByRecursion IsCasedLabel labels → AreGraphic (name_text labels)
name_text_graphic [] each = ((omega arith, omega arith), tt)
name_text_graphic (label ∷ labels) each = labels_graphic (label ∷ labels) each

pub name_graphic : (text octets : List ℕ) → PrintsName text octets → IsGraphicText text
name_graphic text octets p = record { stands = name_printed_stands text octets p; graphic = subst AreGraphic (sym p.2) (name_text_graphic p.0 p.1.each) }
