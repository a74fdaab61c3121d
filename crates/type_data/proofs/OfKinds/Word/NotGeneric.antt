-- Numbers and types by their mnemonics that are printed aren't the mark of the generic form.
use Rattle.type_data.proofs.Common.{Bool, IsDecimal, IsMnemonic, IsWordAmong, List, Named, [], ap, arith, by_mnemonic, by_number, bytes_eq, bytes_eq-Decides, certificate_types, codes, each_mnemonic, false≢true, folded_label, length, length-append, length-map, list_all, not, not-true, refl, registered_types, subst, sym, true, ℕ, ◌++◌, ◌∙◌, ◌∷◌, ◌≡◌, ◌≢◌, ◌≤◌, early_types, late_types, signed_types}
use Rattle.zone_name.specs.Name.{folded_octet}
use Rattle.type_data.proofs.OfKinds.Number.Printed.{certificate_printed_states, type_printed_states}
use Rattle.type_data.specs.PrintedData.{PrintsBare}
use Rattle.type_data.specs.Table.{same}
use Rattle.type_data.specs.declared.field.BareKind.TheVariants.{CertificateType, RecordType}
use Rattle.type_data.proofs.Printed.Marks.{marked, no_digits}

is_unlike : List ℕ → Bool
is_unlike m = not (bytes_eq (folded_label m) marked)

no_mnemonic : (rows : List Named) → list_all (λ (row : Named). is_unlike row.mnemonic) rows ≡ true → (n : ℕ) → IsMnemonic rows marked n → ⊥
unfolding is_unlike
no_mnemonic rows all n is =
    let other = not-true _ (each_mnemonic (λ _ m. is_unlike m) rows all n is.name is.row) in
    false≢true (sym other ∙ (bytes_eq-Decides (folded_label is.name) marked).1 (sym is.same))

no_number_after : (name : List ℕ) (n : ℕ) (front digits : List ℕ) → length name ≢ 1 → length name ≤ 4 → marked ≡ front ++ digits → folded_label front ≡ folded_label name → IsDecimal digits n → ⊥
no_number_after name n [] digits a b e f is = no_digits n (subst (λ t. IsDecimal t n) (sym e) is)
no_number_after name n (x ∷ []) digits a b e f is = a (omega (arith, ap length f, length-map name folded_octet))
no_number_after name n (x ∷ y ∷ front) digits a b e f is = (let some = is.some in omega (arith, some, ap length e, length-append front digits))

no_word : (rows : List Named) (name : List ℕ) → list_all (λ (row : Named). is_unlike row.mnemonic) rows ≡ true → length name ≢ 1 → length name ≤ 4 → (n : ℕ) → IsWordAmong rows name marked n → ⊥
no_word rows name all a b n (by_mnemonic is) = no_mnemonic rows all n is
no_word rows name all a b n (by_number is) = no_number_after name n is.front is.digits a b is.parts is.named is.number

pub no_certificate : (octets : List ℕ) → PrintsBare CertificateType marked octets → ⊥
unfolding is_unlike
no_certificate octets printed =
    let states = certificate_printed_states marked octets printed in
    no_word certificate_types [] refl (omega arith) (omega arith) states.number states.stated

all_unlike : list_all (λ (row : Named). is_unlike row.mnemonic) registered_types ≡ true
unfolding is_unlike early_types late_types signed_types
all_unlike = refl

pub no_type : (octets : List ℕ) → PrintsBare RecordType marked octets → ⊥
no_type octets printed =
    let states = type_printed_states marked octets printed in
    no_word registered_types (codes "TYPE") all_unlike (omega arith) (omega arith) states.number states.stated.named
