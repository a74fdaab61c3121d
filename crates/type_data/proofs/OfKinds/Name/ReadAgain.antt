-- A name that is printed is spelled under every origin, and stands as a bare item.
use Rattle.std.proofs.Common.{map}
use Rattle.type_data.proofs.Common.{AllByRecursion, AreOctets, IsUnit, Labels, List, Option, Some, SpellsCased, [], append-nil, append_assoc, arith, flat_map, length-map, refl, subst, sym, written_octets, written_text, ℕ, ◌++◌, ◌∷◌, ◌≡◌}
use Rattle.zone_name.proofs.Texts.Bare.{StandsBare, bare_append, bare_octet, bare_octets}
use Rattle.zone_name.proofs.Texts.Lawful.{printed_octet, printed_text, value_by, written_is}
use Rattle.zone_name.specs.Name.{IsCasedLabel, IsCasedName}
use Rattle.zone_name.specs.Spelling.{IsWrittenLabel, absolute, dotted, is_dot, kept, root}
use Rattle.zone_name.specs.Text.{is_printed, is_special, label_text, name_text, octet_text}
use Rattle.type_data.specs.Kinds.Name.{PrintsName, StatesName}

label_written : (label : List ℕ) → AreOctets label → AllByRecursion (IsUnit is_dot) (map printed_octet label) × (written_text (map printed_octet label) ≡ flat_map octet_text label) × (written_octets (map printed_octet label) ≡ label)
label_written [] each = (tt, refl, refl)
label_written (c ∷ label) each =
    let more = label_written label each.1 in
    ((written_is (is_special c) (is_printed c) c each.0 refl, more.0), cc (printed_text (is_special c) (is_printed c) c, more.1), cc (value_by (is_special c) (is_printed c) c, more.2))

name_written : (labels : Labels) → AllByRecursion IsCasedLabel labels → AllByRecursion IsWrittenLabel (map (map printed_octet) labels) × (dotted (map (map printed_octet) labels) ≡ flat_map label_text labels) × (kept (map (map printed_octet) labels) ≡ labels)
name_written [] each = (tt, refl, refl)
name_written (label ∷ labels) each =
    let first = label_written label each.0.each in
    let more = name_written labels each.1 in
    let some = each.0.some in
    ((record { some = omega (arith, some, length-map label printed_octet); each = first.0 }, more.0), cc (first.1, more.1), cc (first.2, more.2))

spelled : (origin : Option Labels) (labels : Labels) → IsCasedName labels → SpellsCased origin (name_text labels) labels
spelled origin [] name = record { written = root refl refl; name = name }
spelled origin (label ∷ labels) name =
    let is = name_written (label ∷ labels) name.each in
    record { written = absolute (map (map printed_octet) (label ∷ labels)) (record { some = omega arith; each = is.0 }) (sym is.1) (sym is.2); name = name }

pub name_printed_states : (origin : Labels) (text octets : List ℕ) → PrintsName text octets → StatesName origin text octets
name_printed_states origin text octets printed =
    (printed.0, subst (λ t. SpellsCased (Some origin) t printed.0) (sym printed.2) (spelled (Some origin) printed.0 printed.1), printed.3)

-- ---- outside quotes

label_stands : (label : List ℕ) → AreOctets label → StandsBare (label_text label)
label_stands [] each = bare_octets (46 ∷ []) (omega arith) (refl, tt)
label_stands (c ∷ label) each =
    subst StandsBare (sym (append_assoc (octet_text c) (flat_map octet_text label) (46 ∷ []))) (bare_append (octet_text c) (label_text label) (bare_octet c each.0) (label_stands label each.1))

labels_stand : (label : List ℕ) (labels : Labels) → IsCasedLabel label → AllByRecursion IsCasedLabel labels → StandsBare (label_text label ++ flat_map label_text labels)
labels_stand label [] is each = subst StandsBare (sym (append-nil (label_text label))) (label_stands label is.each)
labels_stand label (next ∷ labels) is each = bare_append (label_text label) (flat_map label_text (next ∷ labels)) (label_stands label is.each) (labels_stand next labels each.0 each.1)

name_stands : (labels : Labels) → IsCasedName labels → StandsBare (name_text labels)
name_stands [] is = bare_octets (46 ∷ []) (omega arith) (refl, tt)
name_stands (label ∷ labels) is = labels_stand label labels is.each.0 is.each.1

pub name_printed_stands : (text octets : List ℕ) → PrintsName text octets → StandsBare text
name_printed_stands text octets printed = subst StandsBare (sym printed.2) (name_stands printed.0 printed.1)
