-- The keys that a list has.
use Rattle.type_data.proofs.Common.{AllZip, AscendAbove, Bool, IsKeyText, IsNonDecreasing, IsPermutation, IsTrue, List, ListsKeys, NothingIs, ap, arith, false, listed, subst, sym, ℕ, ◌∙◌, ◌≡◌}
use Rattle.type_data.proofs.OfParameters.Ascending.{rise_weaker, rise_by_place, rise_once}
use Rattle.type_data.proofs.OfParameters.Keys.{key_once}
use Rattle.type_data.proofs.OfParameters.Lists.{zip_once}
use Rattle.type_data.specs.Parameters.Keys.{number_of}

pub stated_once : (text : List ℕ) (a b : List ℕ) → AllZip IsKeyText (listed text) a → AllZip IsKeyText (listed text) b → a ≡ b
stated_once text a b x y = zip_once IsKeyText (λ text a b x y. x.numbered ∙ ap number_of (key_once text x.key y.key x.spelt y.spelt) ∙ sym y.numbered) (listed text) a b x y

pub lists_keys_once : (text a b : List ℕ) → ListsKeys text a → ListsKeys text b → a ≡ b
lists_keys_once text a b x y =
    let same = stated_once text y.stated x.stated y.each x.each in
    rise_once x.stated a b x.same (subst (λ t. IsPermutation t b) same y.same) (rise_weaker 0 a x.ascend) (rise_weaker 0 b y.ascend)

-- sorted numbers that don't ascend strictly are those of no list
pub no_keys_listed : (text stated sorted : List ℕ) → AllZip IsKeyText (listed text) stated → IsPermutation stated sorted → IsNonDecreasing sorted → (AscendAbove 0 sorted → ⊥) → NothingIs (ListsKeys text)
no_keys_listed text stated sorted each same rises stops numbers is =
    let e = stated_once text is.stated stated is.each each in
    let found = rise_once stated numbers sorted (subst (λ t. IsPermutation t numbers) e is.same) same (rise_weaker 0 numbers is.ascend) (rise_by_place sorted rises) in
    stops (subst (AscendAbove 0) found is.ascend)

-- what the test of such numbers says
pub not_ascending : (numbers given : List ℕ) (r : Bool) → r ≡ false → given ≡ numbers → (AscendAbove 0 given → IsTrue r) → AscendAbove 0 numbers → ⊥
not_ascending numbers given r failed same tested ascend =
    let is : IsTrue r = tested (subst (AscendAbove 0) (sym same) ascend) in
    grind arith
