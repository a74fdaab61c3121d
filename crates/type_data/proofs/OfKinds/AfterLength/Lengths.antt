-- Octets that are appended after their length.
use Rattle.type_data.proofs.Common.{AppendsStated, List, WordsFault, [], ap, append_assoc, arith, length, refl, sym, with_length, ℕ, ◌++◌, ◌∙◌, ◌∷◌, ◌≡◌, ◌≤◌}
use Rattle.type_data.specs.Kinds.AfterLength.{FailsAfterLength, StatesAfterLength, of_no_octets, of_too_many}

pub appended_after_length : (StandsFor : List ℕ → List ℕ → Type 0) (text old mid new : List ℕ) (len : ℕ) → mid ≡ old ++ len ∷ [] → (more : AppendsStated (StandsFor text) mid new) → len ≡ length more.octets → length more.octets ≤ 255 → AppendsStated (StatesAfterLength StandsFor text) old new
appended_after_length StandsFor text old mid new len grown more same short = record {
  octets = len ∷ more.octets;
  stated = record { value = more.octets; stands = more.stated; short = short; written = ap (λ n. n ∷ more.octets) same };
  written = more.written ∙ ap (λ o. o ++ more.octets) grown ∙ append_assoc old (len ∷ []) more.octets;
}

pub after_length_once : (StandsFor : List ℕ → List ℕ → Type 0) → ((text a b : List ℕ) → StandsFor text a → StandsFor text b → a ≡ b) → (text a b : List ℕ) → StatesAfterLength StandsFor text a → StatesAfterLength StandsFor text b → a ≡ b
after_length_once StandsFor once text a b x y = x.written ∙ ap with_length (once text x.value y.value x.stands y.stands) ∙ sym y.written

pub after_length_or_fault : (own : WordsFault) (StandsFor : List ℕ → List ℕ → Type 0) → ((text a b : List ℕ) → StandsFor text a → StandsFor text b → a ≡ b) → (text octets : List ℕ) (fault : WordsFault) → StatesAfterLength StandsFor text octets → FailsAfterLength own StandsFor text fault → ⊥
after_length_or_fault own StandsFor once text octets _ x (of_no_octets none) = none x.value x.stands
after_length_or_fault own StandsFor once text octets _ x (of_too_many value stands many) = let short = x.short in omega (arith, ap length (once text value x.value stands x.stands))

pub after_length_fault_once : (own : WordsFault) (StandsFor : List ℕ → List ℕ → Type 0) (text : List ℕ) (a b : WordsFault) → FailsAfterLength own StandsFor text a → FailsAfterLength own StandsFor text b → a ≡ b
after_length_fault_once own StandsFor text _ _ (of_no_octets none) (of_no_octets nothing) = refl
after_length_fault_once own StandsFor text _ _ (of_no_octets none) (of_too_many value stands many) = absurd (none value stands)
after_length_fault_once own StandsFor text _ _ (of_too_many value stands many) (of_no_octets none) = absurd (none value stands)
after_length_fault_once own StandsFor text _ _ (of_too_many value stands many) (of_too_many other stands_too many_too) = refl
