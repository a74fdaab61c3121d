-- Texts whose escapes are undone: their octets are appended one by one.
use Rattle.type_data.proofs.Common.{AllByRecursion, AllByRecursion-append, BeginsWithUnit, ComesToBadEscape, IsUnit, List, Unescaped, Written, [], ap, append-nil, append_assoc, flat_map_more, map_push, no_octet, octet_of, refl, sym, written_octets, written_text, ℕ, ◌++◌, ◌∙◌, ◌∷◌, ◌≡◌}
use Rattle.zone_name.proofs.Spelling.Units.{at_backslash, at_end, units_first_only}
use Rattle.zone_name.specs.Machine.Units.{Units}
use Rattle.zone_name.specs.Spelling.{text_of}

-- the octets of the units up to a place of the text are appended
pub record HaveWritten (text rest old new : List ℕ) : Type 0 where
  pub units : List Written
  pub each : AllByRecursion (IsUnit no_octet) units
  pub parts : text ≡ written_text units ++ rest
  pub written : new ≡ old ++ written_octets units

pub more_written : (text rest after old mid new : List ℕ) (c : ℕ) → HaveWritten text rest old mid → BeginsWithUnit no_octet rest c after → new ≡ mid ++ (c ∷ []) → HaveWritten text after old new
more_written text rest after old mid new c have begins grown = record {
  units = have.units ++ begins.unit ∷ [];
  each = AllByRecursion-append (IsUnit no_octet) have.units (begins.unit ∷ []) have.each (begins.is_unit, tt);
  parts = have.parts ∙ ap (λ t. written_text have.units ++ t) begins.parts ∙ sym (append_assoc (written_text have.units) (text_of begins.unit) after) ∙ ap (λ t. t ++ after) (flat_map_more text_of [] have.units begins.unit);
  written = grown ∙ ap (λ t. t ++ c ∷ []) have.written ∙ append_assoc old (written_octets have.units) (c ∷ []) ∙ ap (λ (d : ℕ). old ++ (written_octets have.units ++ d ∷ [])) (sym begins.value) ∙ ap (λ t. old ++ t) (sym (map_push octet_of have.units begins.unit));
}

-- a text is written for one list of octets
pub unescaped_once : (text a b : List ℕ) → Unescaped text a → Unescaped text b → a ≡ b
unescaped_once text a b these those =
    let first = units_first_only no_octet text these.units [] refl (these.parts ∙ sym (append-nil (written_text these.units))) these.each (at_end refl) in
    let second = units_first_only no_octet text those.units [] refl (those.parts ∙ sym (append-nil (written_text those.units))) those.each (at_end refl) in
    let same : these.units ≡ those.units = ap (λ (found : Units). found.units) (sym first ∙ second) in
    these.value ∙ ap written_octets same ∙ sym those.value

-- and none where a backslash begins no escape
pub unescaped_or_bad : (text octets : List ℕ) → Unescaped text octets → ComesToBadEscape text → ⊥
unescaped_or_bad text octets these bad =
    let first = units_first_only no_octet text these.units [] refl (these.parts ∙ sym (append-nil (written_text these.units))) these.each (at_end refl) in
    let second = units_first_only no_octet text bad.units bad.rest refl bad.parts bad.each (at_backslash bad.bad) in
    let ends : [] ≡ bad.rest = ap (λ (found : Units). found.rest) (sym first ∙ second) in
    cc (ends, bad.bad.1)
