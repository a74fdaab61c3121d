-- Domain names that are printed aren't the mark of the generic form.
use Rattle.type_data.proofs.Common.{List, [], ap, append-nil, append_assoc, arith, flat_map, refl, sym, ℕ, ◌++◌, ◌∙◌, ◌∷◌, ◌≡◌}
use Rattle.zone_name.specs.Common.{Labels}
use Rattle.zone_name.specs.Text.{label_text, name_text, octet_text}
use Rattle.type_data.specs.PrintedData.{PrintsBare}
use Rattle.type_data.specs.declared.field.BareKind.TheVariants.{Name}
use Rattle.type_data.proofs.Printed.Marks.{marked, no_other}

labels_end : (label : List ℕ) (labels : Labels) → (front : List ℕ) × (flat_map label_text (label ∷ labels) ≡ front ++ 46 ∷ [])
labels_end label [] = (flat_map octet_text label, append-nil (label_text label))
labels_end label (next ∷ labels) =
    let more = labels_end next labels in
    (label_text label ++ more.0, ap (λ t. label_text label ++ t) more.1 ∙ sym (append_assoc (label_text label) more.0 (46 ∷ [])))

-- a name ends with a dot
name_ends : (labels : Labels) → (front : List ℕ) × (name_text labels ≡ front ++ 46 ∷ [])
name_ends [] = ([], refl)
name_ends (label ∷ labels) = labels_end label labels

pub no_name : (octets : List ℕ) → PrintsBare Name marked octets → ⊥
no_name octets printed =
    let ends = name_ends printed.0 in
    no_other 46 ends.0 [] (omega arith) (omega arith) (printed.2 ∙ ends.1)
