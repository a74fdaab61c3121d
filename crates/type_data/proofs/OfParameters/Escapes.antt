-- Why a text whose escapes are undone is no value.
use Rattle.type_data.proofs.Common.{ComesToBadEscape, FailsEscaped, List, NothingIs, StatesPath, Unescaped, WordsFault, [], arith, length, refl, subst, sym, wrong, ℕ, ◌∷◌, ◌≡◌}
use Rattle.type_data.proofs.UnescapedTexts.{unescaped_or_bad}
use Rattle.type_data.specs.Parameters.Machine.Parts.{nothing}
use Rattle.type_data.specs.declared.fault.WordsFault.TheVariants as faults

pub path_empty : (text : List ℕ) → length text ≡ 0 → FailsEscaped StatesPath text faults.NotAValue
path_empty [] e = nothing [] (record { units = []; each = tt; parts = refl; value = refl }) (λ octets is. omega (arith, is.1))
path_empty (c ∷ text) e = absurd (omega (arith, e))

pub path_wrong : (Stated : List ℕ → List ℕ → Type 0) (text : List ℕ) (fault : WordsFault) → (fault ≡ faults.BadEscape) × ComesToBadEscape text → FailsEscaped Stated text fault
path_wrong Stated text fault is = subst (FailsEscaped Stated text) (sym is.0) (wrong (λ octets states. unescaped_or_bad text octets states is.1))

pub path_nothing : (Stated : List ℕ → List ℕ → Type 0) (text spelt : List ℕ) (fault : WordsFault) → Unescaped text spelt → fault ≡ faults.NotAValue → NothingIs (Stated text) → FailsEscaped Stated text fault
path_nothing Stated text spelt fault is e none = subst (FailsEscaped Stated text) (sym e) (nothing spelt is none)
