-- What is told of a line, and what is appended for it.
use Rattle.std.proofs.Common.{◌≡◌, ℕ, List, ◌++◌, Result, Ok, Err, is_ok, if◌then◌else◌, refl}
use Rattle.std.specs.Prelude.{OnOk}
use Rattle.words_print.proofs.Read.{many_not_in_words}
use Rattle.words_print.specs.Machine.Found.{StatesInFew}
use Rattle.words_print.specs.Shown.{HasTooManyItems, IsRecordInWords, StatesItsClass}
use Rattle.words_print.specs.declared.class_stated.ClassStated.{ClassStated}
use Rattle.words_print.specs.declared.class_stated.ClassStated.TheVariants.{No, Untold, Yes}
use Rattle.type_data.specs.Fault.{AppendsStated}

pub not_told : (answer : ClassStated) (wanted shown : List ℕ) → (answer ≡ Yes → ⊥) → (answer ≡ No → StatesItsClass shown → ⊥) → (answer ≡ Untold → HasTooManyItems shown) → StatesInFew wanted → IsRecordInWords wanted shown → ⊥
not_told Yes wanted shown other none many few record_is = other refl
not_told No wanted shown other none many few record_is = none refl record_is.states
not_told Untold wanted shown other none many few record_is = many_not_in_words wanted shown few (many refl) record_is

pub appended : {E : Type 0} (r : Result (Unit {0}) E) (Is : List ℕ → Type 0) (old new more : List ℕ) → new ≡ (if is_ok r then old ++ more else old) → Is more → OnOk r (AppendsStated Is old new)
appended (Ok done) Is old new more new_is is = record { octets = more; written = new_is; stated = is }
appended (Err refused) Is old new more new_is is = tt
