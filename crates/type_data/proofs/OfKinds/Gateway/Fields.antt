-- Fields that depend on the items before them, and what their items state.
use Rattle.type_data.proofs.Common.{All-from_recursion, AllPass-from_list_all, Bool, IfNone, IfSome, IsCapped, IsDecimal, List, None, NothingIs, Option, Some, WordsFault, [], address_kind, ap, arith, decimal_value, digits_number, eqb-true, false, is_one, key_kind, list_all, list_all-from_AllPass, min, option_map, recursion_from_All, refl, sym, true, ℕ, ◌<◌, ◌==◌, ◌∙◌, ◌∷◌, ◌≡◌}
use Rattle.zone_name.specs.Spelling.{is_digit}
use Rattle.type_data.proofs.OfKinds.Number.Read.{decimal_once}
use Rattle.type_data.specs.Kinds.Gateway.{FailsUpTo, StatesUpTo, no_digits, too_great}
use Rattle.type_data.specs.Kinds.Number.Machine.{IsOver}
use Rattle.type_data.specs.Table.{amtrelay_by, ipseckey_by}

-- ---- numbers up to a greatest

pub up_to_once : (most : ℕ) (octets_of : ℕ → List ℕ) (text a b : List ℕ) → StatesUpTo most octets_of text a → StatesUpTo most octets_of text b → a ≡ b
up_to_once most octets_of text a b p q = p.value ∙ ap octets_of (decimal_once text p.number q.number p.stated q.stated) ∙ sym q.value

pub up_to_or_fault : (most : ℕ) (octets_of : ℕ → List ℕ) (text octets : List ℕ) (fault : WordsFault) → StatesUpTo most octets_of text octets → FailsUpTo most text fault → ⊥
up_to_or_fault most octets_of text octets fault p (no_digits none) = none p.number p.stated
up_to_or_fault most octets_of text octets fault p (too_great n is over) =
    let same : p.number ≡ n = decimal_once text p.number n p.stated is in
    let few = p.few in
    omega arith

pub up_to_fault_once : (most : ℕ) (text : List ℕ) (a b : WordsFault) → FailsUpTo most text a → FailsUpTo most text b → a ≡ b
up_to_fault_once most text _ _ (no_digits none) (no_digits none_too) = refl
up_to_fault_once most text _ _ (no_digits none) (too_great n is over) = absurd (none n is)
up_to_fault_once most text _ _ (too_great n is over) (no_digits none) = absurd (none n is)
up_to_fault_once most text _ _ (too_great n is over) (too_great m is_too over_too) = refl

-- a number that is read up to 2 ^ 32
pub capped_over : (text : List ℕ) (most : ℕ) (number : Option ℕ) (fault : WordsFault) → most < 4294967296 → IfSome number (IsCapped (IsDecimal text)) → IfNone number (NothingIs (IsDecimal text)) → IsOver most number fault → FailsUpTo most text fault
capped_over text most None fault small found none over = rw over (no_digits none)
capped_over text most (Some n) fault small found none over =
    rw over.0 (too_great found.0 found.1.0 (let e = found.1.1 in let more = over.1 in omega arith))

-- ---- the number of an item

pub of_digits : (text : List ℕ) (n : ℕ) → IsDecimal text n → digits_number text ≡ Some n
of_digits [] n is = absurd (omega (arith, is.some))
of_digits (c ∷ text) n is = rw (list_all-from_AllPass is_digit (c ∷ text) (All-from_recursion (λ d. is_digit d ≡ true) (c ∷ text) is.digits)) (ap Some (sym is.value))

of_others : (text : List ℕ) (all : Bool) → list_all is_digit text ≡ all → NothingIs (IsDecimal text) → digits_number text ≡ None
of_others [] all is none = refl
of_others (c ∷ text) false is none = rw is refl
of_others (c ∷ text) true is none =
    absurd (none (decimal_value (c ∷ text)) (record { some = omega arith; digits = recursion_from_All (λ d. is_digit d ≡ true) (c ∷ text) (AllPass-from_list_all is_digit (c ∷ text) is); value = refl }))

pub number_read : (text : List ℕ) (number : Option ℕ) → IfSome number (IsCapped (IsDecimal text)) → IfNone number (NothingIs (IsDecimal text)) → number ≡ option_map (min 4294967296) (digits_number text)
number_read text None found none = rw (of_others text (list_all is_digit text) refl none) refl
number_read text (Some n) found none = rw (of_digits text found.0 found.1.0) (ap Some found.1.1)

-- ---- a number up to 2 ^ 32 has the kinds of the number itself

small_test : (n k : ℕ) → k < 4294967296 → (min 4294967296 n == k) ≡ (n == k)
small_test n k small = grind (arith, eqb-true)

pub address_of_capped : (number : Option ℕ) → address_kind (option_map (min 4294967296) number) ≡ address_kind number
address_of_capped None = refl
address_of_capped (Some n) = rw (small_test n 0 (omega arith), small_test n 1 (omega arith), small_test n 2 (omega arith)) refl

pub key_of_capped : (number : Option ℕ) → key_kind (option_map (min 4294967296) number) ≡ key_kind number
key_of_capped None = refl
key_of_capped (Some n) = rw (small_test n 0 (omega arith)) refl

pub one_of_capped : (number : Option ℕ) → is_one (option_map (min 4294967296) number) ≡ is_one number
one_of_capped None = refl
one_of_capped (Some n) = small_test n 1 (omega arith)

-- and so have the fields that they give
pub ipseckey_of_capped : (gateway algorithm g a : Option ℕ) → g ≡ option_map (min 4294967296) gateway → a ≡ option_map (min 4294967296) algorithm → ipseckey_by g a ≡ ipseckey_by gateway algorithm
ipseckey_of_capped gateway algorithm g a g_is a_is =
    let kind : address_kind g ≡ address_kind gateway = ap address_kind g_is ∙ address_of_capped gateway in
    let key : key_kind a ≡ key_kind algorithm = ap key_kind a_is ∙ key_of_capped algorithm in
    rw (kind, key) refl

pub amtrelay_of_capped : (discovery relay d r : Option ℕ) → d ≡ option_map (min 4294967296) discovery → r ≡ option_map (min 4294967296) relay → amtrelay_by d r ≡ amtrelay_by discovery relay
amtrelay_of_capped discovery relay d r d_is r_is =
    let optional : is_one d ≡ is_one discovery = ap is_one d_is ∙ one_of_capped discovery in
    let kind : address_kind r ≡ address_kind relay = ap address_kind r_is ∙ address_of_capped relay in
    rw (optional, kind) refl
