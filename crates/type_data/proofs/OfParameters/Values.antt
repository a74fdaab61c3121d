-- Why a text is no value of a key.
use Rattle.type_data.proofs.Common.{FailsEscaped, FailsValue, HasEscapes, Key, List, NothingIs, StatesValue, WordsFault, bad_escape, subst, sym, wrong, ℕ, ◌≡◌}
use Rattle.type_data.specs.Parameters.Machine.Parts.{nothing}
use Rattle.type_data.specs.Parameters.Value.{no_value}
use Rattle.type_data.specs.declared.fault.WordsFault.TheVariants as faults

pub plain_fails : (key : Key) (text : List ℕ) (fault : WordsFault) → (HasEscapes key → ⊥) → (fault ≡ faults.NotAValue) × NothingIs (StatesValue key text) → FailsValue key text fault
plain_fails key text fault plain is = subst (FailsValue key text) (sym is.0) (no_value (λ has. absurd (plain has)) is.1)

pub escaped_fails : (key : Key) (text : List ℕ) (fault : WordsFault) → HasEscapes key → FailsEscaped (StatesValue key) text fault → FailsValue key text fault
escaped_fails key text _ has (wrong none) = bad_escape has none
escaped_fails key text _ has (nothing spelt is none) = no_value (λ has. (spelt, is)) none
