-- What is found in a table of rows, and what holds of each row.
use Rattle.zone_rdata.proofs.Common.{[], ◌≡◌, ℕ, ◌<◌, List, ◌∷◌, length, map, Bool, true, not, ◌&&◌, ◌||◌, ◌==◌, nat_le, bytes_eq, Option, Some, None, refl, ap, subst, arith, AllByRecursion, find, list_all, option_map, eqb-true, eq-eqb, and_parts, or_cases, not-true, nat_tests, bytes_eq-Decides, folded_label, Field, IsLayout, IsSized, StringsLast, fields_in, layout, is_strings, Named, NamedType, in_every, in_one, ascend, ascends, mnemonic_among, number_among, types, IsMnemonic}
use Rattle.std.proofs.lemmas.Option.{cond_some}
use Rattle.zone_rdata.specs.declared.field.Field.TheVariants as fields

-- ---- the first element that passes a test

-- it passes the test
pub found_passes : {X : Type 0} (q : X → Bool) (xs : List X) (x : X) → find q xs ≡ Some x → q x ≡ true
found_passes q [] x e = absurd cc
found_passes q (y ∷ ys) x e = grind (arith, found_passes q ys x)

-- what holds of each element holds of it
pub found_each : {X : Type 0} (p q : X → Bool) (xs : List X) (x : X) → list_all p xs ≡ true → find q xs ≡ Some x → p x ≡ true
found_each p q [] x all e = absurd cc
found_each p q (y ∷ ys) x all e = grind (arith, and_parts, found_each p q ys x)

-- where there is none, none passes
pub none_passes : {X : Type 0} (q : X → Bool) (xs : List X) → find q xs ≡ None → list_all (λ x. not (q x)) xs ≡ true
none_passes q [] e = refl
none_passes q (y ∷ ys) e = grind (arith, none_passes q ys)

pub find_mapped : {X Y : Type 0} (f : X → Y) (q : Y → Bool) (xs : List X) → find q (map f xs) ≡ option_map f (find (λ x. q (f x)) xs)
find_mapped f q [] = refl
find_mapped f q (x ∷ xs) = grind (arith, find_mapped f q xs)

-- ---- mnemonics

mnemonic_by : (p : ℕ → List ℕ → Bool) (n : ℕ) (word : List ℕ) (found : Option Named) → ((row : Named) → found ≡ Some row → (p row.number row.mnemonic ≡ true) × ((n == row.number) ≡ true)) → option_map (λ row. row.mnemonic) found ≡ Some word → p n word ≡ true
mnemonic_by p n word None each e = absurd (let t : ⊥ = cc in t)
mnemonic_by p n word (Some row) each e =
    let facts = each row refl in
    grind arith

-- what holds of each row holds of a number and its mnemonic
pub each_mnemonic : (p : ℕ → List ℕ → Bool) (rows : List Named) → list_all (λ row. p row.number row.mnemonic) rows ≡ true → (n : ℕ) (word : List ℕ) → mnemonic_among rows n ≡ Some word → p n word ≡ true
each_mnemonic p rows all n word e = grind (arith, mnemonic_by, found_each, found_passes)

-- rows whose numbers ascend from above one are above it
found_above : (low : ℕ) (rows : List Named) (q : Named → Bool) (x : Named) → ascend low rows ≡ true → find q rows ≡ Some x → low < x.number
found_above low [] q x up e = absurd cc
found_above low (row ∷ rows) q x up e = grind (arith, and_parts, nat_tests, found_above row.number rows q x)

ascends_from : (low : ℕ) (rows : List Named) → ascend low rows ≡ true → ascends rows ≡ true
ascends_from low rows up = grind (arith, and_parts)

-- a row is the one of its number
own_row : (rows : List Named) (q : Named → Bool) (x : Named) → ascends rows ≡ true → find q rows ≡ Some x → find (λ row. x.number == row.number) rows ≡ Some x
own_row [] q x up e = absurd cc
own_row (row ∷ rows) q x up e = grind (arith, found_above row.number rows q x, eqb-true, eq-eqb, ascends_from, own_row rows q x)

-- the row of a word has a number of which the word is the mnemonic
pub row_is : (rows : List Named) → ascends rows ≡ true → (word : List ℕ) (row : Named) → find (λ row. bytes_eq (folded_label word) (folded_label row.mnemonic)) rows ≡ Some row → IsMnemonic rows word row.number
row_is rows up word row e = record {
  name = row.mnemonic;
  row = ap (option_map (λ row. row.mnemonic)) (own_row rows (λ row. bytes_eq (folded_label word) (folded_label row.mnemonic)) row up e);
  same = (bytes_eq-Decides (folded_label word) (folded_label row.mnemonic)).0 (found_passes (λ row. bytes_eq (folded_label word) (folded_label row.mnemonic)) rows row e);
}

-- and so has the number that a word finds
pub number_is : (rows : List Named) → ascends rows ≡ true → (word : List ℕ) (n : ℕ) → number_among rows word ≡ Some n → IsMnemonic rows word n
number_is rows up word n = grind (arith, bytes_eq, row_is)

-- a word of no row is no mnemonic
pub no_row : (rows : List Named) (word : List ℕ) → find (λ row. bytes_eq (folded_label word) (folded_label row.mnemonic)) rows ≡ None → (n : ℕ) → IsMnemonic rows word n → ⊥
no_row rows word e n x = grind (arith, each_mnemonic (λ _ name. not (bytes_eq (folded_label word) (folded_label name))) rows (none_passes (λ row. bytes_eq (folded_label word) (folded_label row.mnemonic)) rows e) n x.name x.row, bytes_eq-Decides)

-- ---- layouts

abbrev pub fields_of_row : NamedType → List Field
fields_of_row (in_every number mnemonic fields) = fields
fields_of_row (in_one number mnemonic fields) = fields

fields_by : (p : List Field → Bool) (class : ℕ) (fields : List Field) (found : Option NamedType) → ((row : NamedType) → found ≡ Some row → p (fields_of_row row) ≡ true) → fields_in class found ≡ Some fields → p fields ≡ true
fields_by p class fields None each e = absurd cc
fields_by p class fields (Some (in_every number mnemonic own)) each e = let same : own ≡ fields = cc in subst (λ t. p t ≡ true) same (each (in_every number mnemonic own) refl)
fields_by p class fields (Some (in_one number mnemonic own)) each e = subst (λ t. p t ≡ true) (cond_some (class == 1) own fields e).1 (each (in_one number mnemonic own) refl)

-- what holds of the fields of each type holds of each layout
pub each_layout : (p : List Field → Bool) → list_all (λ row. p (fields_of_row row)) types ≡ true → (class kind : ℕ) (fields : List Field) → layout class kind ≡ Some fields → p fields ≡ true
each_layout p all class kind fields = grind (arith, fields_by, found_each)

abbrev strings_last : List Field → Bool
strings_last [] = true
strings_last (f ∷ []) = true
strings_last (f ∷ g ∷ row) = not (is_strings f) && strings_last (g ∷ row)

abbrev is_sized : Field → Bool
is_sized (fields.Octets n) = n == 4 || n == 16
is_sized f = true

abbrev is_layout : List Field → Bool
is_layout row = nat_le (length row) 7 && (strings_last row && list_all is_sized row)

last_is : (row : List Field) → strings_last row ≡ true → StringsLast row
last_is (f ∷ g ∷ row) e = grind (arith, and_parts, not-true, last_is (g ∷ row))
last_is row e = tt

sized_is : (f : Field) → is_sized f ≡ true → IsSized f
sized_is f e = grind (arith, or_cases, eqb-true)

each_sized : (row : List Field) → list_all is_sized row ≡ true → AllByRecursion IsSized row
each_sized [] e = tt
each_sized (f ∷ row) e = grind (arith, and_parts, sized_is, each_sized row)

-- what every layout of the table is
pub table_row : (class kind : ℕ) (row : List Field) → layout class kind ≡ Some row → IsLayout row
table_row class kind row e =
    let is = each_layout is_layout refl class kind row e in
    grind (arith, and_parts, nat_le, nat_tests, last_is, each_sized)
