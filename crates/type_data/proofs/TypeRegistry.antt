-- The registered types in three parts, and the further types among them: the type of a number is that
-- of its row.
use Rattle.type_data.proofs.Common.{Bool, drop, further_type, list_all, take, type_registry, ◌++◌, FurtherType, List, None, Option, RegisteredType, Some, [], and_parts, ap, arith, eqb-true, false, find, find_mapped, further_in, in_words, ltb-true, map, name_only, nat_lt, nat_tests, option_map, refl, registered_of, sym, true, ℕ, ◌<◌, ◌==◌, ◌∙◌, ◌∷◌, ◌≡◌, ◌≤◌, early_types, late_types, signed_types, registered_type}
use Rattle.std.specs.Prelude.{filter_map, if◌then◌else◌, option_and_then}
use Rattle.zone_rdata.specs.Table.{ascend, ascends}
use Rattle.type_data.specs.Table.{named}
use Rattle.type_data.specs.declared.table.RegisteredType as code

abbrev has_number : ℕ → RegisteredType → Bool
has_number n row = n == (named row).number

abbrev row_numbered : ℕ → List RegisteredType → Option RegisteredType
row_numbered n rows = find (has_number n) rows

abbrev further_numbered : ℕ → List RegisteredType → Option FurtherType
further_numbered n rows = find (λ (f : FurtherType). n == f.number) (filter_map further_in rows)

is_apart : (n k : ℕ) → n < k → (n == k) ≡ false
is_apart n k less = grind (arith, nat_tests)

-- rows above a number have none of it
none_below : (low n : ℕ) → n ≤ low → (rows : List RegisteredType) → ascend low (map named rows) ≡ true → further_numbered n rows ≡ None
none_below low n le [] up = refl
none_below low n le (in_words f ∷ rows) up =
    let both = and_parts (nat_lt low f.number) (ascend f.number (map named rows)) up in
    let above : low < f.number = ltb-true low f.number both.0 in
    let less : n < f.number = omega arith in
    let later : n ≤ f.number = omega arith in
    ap (λ is. if is then Some f else further_numbered n rows) (is_apart n f.number less) ∙ none_below f.number n later rows both.1
none_below low n le (name_only k mnemonic ∷ rows) up =
    let both = and_parts (nat_lt low k) (ascend k (map named rows)) up in
    let above : low < k = ltb-true low k both.0 in
    let later : n ≤ k = omega arith in
    none_below k n later rows both.1

-- what stands where a row has the number or not
at_further : (is : Bool) (f : FurtherType) (row : Option RegisteredType) (found : Option FurtherType) → option_and_then further_in row ≡ found → option_and_then further_in (if is then Some (in_words f) else row) ≡ (if is then Some f else found)
at_further true f row found e = refl
at_further false f row found e = e

at_name : (is : Bool) (k : ℕ) (mnemonic : List ℕ) (row : Option RegisteredType) (found : Option FurtherType) → (is ≡ true → found ≡ None) → option_and_then further_in row ≡ found → option_and_then further_in (if is then Some (name_only k mnemonic) else row) ≡ found
at_name true k mnemonic row found none e = sym (none refl)
at_name false k mnemonic row found none e = e

further_there : (low n : ℕ) (rows : List RegisteredType) → ascend low (map named rows) ≡ true → option_and_then further_in (row_numbered n rows) ≡ further_numbered n rows
further_there low n [] up = refl
further_there low n (in_words f ∷ rows) up =
    let both = and_parts (nat_lt low f.number) (ascend f.number (map named rows)) up in
    at_further (n == f.number) f (row_numbered n rows) (further_numbered n rows) (further_there f.number n rows both.1)
further_there low n (name_only k mnemonic ∷ rows) up =
    let both = and_parts (nat_lt low k) (ascend k (map named rows)) up in
    at_name (n == k) k mnemonic (row_numbered n rows) (further_numbered n rows)
    (λ e. let own : n ≡ k = eqb-true n k e in let later : n ≤ k = omega arith in none_below k n later rows both.1)
    (further_there k n rows both.1)

further_there_first : (n : ℕ) (rows : List RegisteredType) → ascends (map named rows) ≡ true → option_and_then further_in (row_numbered n rows) ≡ further_numbered n rows
further_there_first n [] up = refl
further_there_first n (in_words f ∷ rows) up = at_further (n == f.number) f (row_numbered n rows) (further_numbered n rows) (further_there f.number n rows up)
further_there_first n (name_only k mnemonic ∷ rows) up =
    at_name (n == k) k mnemonic (row_numbered n rows) (further_numbered n rows)
    (λ e. let own : n ≡ k = eqb-true n k e in let later : n ≤ k = omega arith in none_below k n later rows up)
    (further_there k n rows up)

-- ---- what is computed over the registered types

ascend_all : ascends (map named type_registry) ≡ true
unfolding early_types late_types signed_types
ascend_all = refl

pub early_ascend : ascends (map named early_types) ≡ true
unfolding early_types
early_ascend = refl

pub signed_ascend : ascends (map named signed_types) ≡ true
unfolding signed_types
signed_ascend = refl

pub late_ascend : ascends (map named late_types) ≡ true
unfolding late_types
late_ascend = refl

abbrev are_below : ℕ → List RegisteredType → Bool
are_below most rows = list_all (λ (row : RegisteredType). nat_lt (named row).number most) rows

abbrev are_above : ℕ → List RegisteredType → Bool
are_above least rows = list_all (λ (row : RegisteredType). nat_lt least (named row).number) rows

early_below : are_below 43 early_types ≡ true
unfolding early_types
early_below = refl

signed_above : are_above 42 signed_types ≡ true
unfolding signed_types
signed_above = refl

signed_below : are_below 53 signed_types ≡ true
unfolding signed_types
signed_below = refl

late_above : are_above 52 late_types ≡ true
unfolding late_types
late_above = refl

-- ---- the further type of a registered type

pub further_there_of : (n : ℕ) → option_and_then further_in (registered_type n) ≡ further_type n
further_there_of n = further_there_first n type_registry ascend_all

-- ---- the registered types in three parts, by their numbers

none_from : (n low : ℕ) → low ≤ n → (rows : List RegisteredType) → are_below low rows ≡ true → row_numbered n rows ≡ None
none_from n low le [] all = refl
none_from n low le (row ∷ rows) all =
    let both = and_parts (nat_lt (named row).number low) (are_below low rows) all in
    let less : (named row).number < low = ltb-true (named row).number low both.0 in
    let apart : (n == (named row).number) ≡ false = grind (arith, nat_tests) in
    ap (λ is. if is then Some row else row_numbered n rows) apart ∙ none_from n low le rows both.1

none_up_to : (n low : ℕ) → n ≤ low → (rows : List RegisteredType) → are_above low rows ≡ true → row_numbered n rows ≡ None
none_up_to n low le [] all = refl
none_up_to n low le (row ∷ rows) all =
    let both = and_parts (nat_lt low (named row).number) (are_above low rows) all in
    let more : low < (named row).number = ltb-true low (named row).number both.0 in
    let less : n < (named row).number = omega arith in
    ap (λ is. if is then Some row else row_numbered n rows) (is_apart n (named row).number less) ∙ none_up_to n low le rows both.1

in_back : (is : Bool) (row : RegisteredType) (front all back : Option RegisteredType) → (front ≡ None → all ≡ back) → (if is then Some row else front) ≡ None → (if is then Some row else all) ≡ back
in_back true row front all back goes e = absurd cc
in_back false row front all back goes e = goes e

skipped : (n : ℕ) (front back : List RegisteredType) → row_numbered n front ≡ None → row_numbered n (front ++ back) ≡ row_numbered n back
skipped n [] back e = refl
skipped n (row ∷ front) back e = in_back (n == (named row).number) row (row_numbered n front) (row_numbered n (front ++ back)) (row_numbered n back) (skipped n front back) e

unmet : (n : ℕ) (front back : List RegisteredType) → row_numbered n back ≡ None → row_numbered n (front ++ back) ≡ row_numbered n front
unmet n [] back e = e
unmet n (row ∷ front) back e = ap (λ all. if n == (named row).number then Some row else all) (unmet n front back e)

pub early_found : (n : ℕ) → n < 43 → row_numbered n early_types ≡ registered_type n
early_found n few =
    let no_late = none_up_to n 52 (omega arith) late_types late_above in
    let no_signed = none_up_to n 42 (omega arith) signed_types signed_above in
    sym (unmet n early_types (signed_types ++ late_types) (unmet n signed_types late_types no_late ∙ no_signed))

pub signed_found : (n : ℕ) → 43 ≤ n → n < 53 → row_numbered n signed_types ≡ registered_type n
signed_found n many few =
    let no_late = none_up_to n 52 (omega arith) late_types late_above in
    let no_early = none_from n 43 many early_types early_below in
    sym (skipped n early_types (signed_types ++ late_types) no_early ∙ unmet n signed_types late_types no_late)

pub late_found : (n : ℕ) → 53 ≤ n → row_numbered n late_types ≡ registered_type n
late_found n many =
    let no_early = none_from n 43 (omega arith) early_types early_below in
    let no_signed = none_from n 53 many signed_types signed_below in
    sym (skipped n early_types (signed_types ++ late_types) no_early ∙ skipped n signed_types late_types no_signed)

-- ---- the rows of the code are those of a part

pub row_there : (rows : List code.RegisteredType) (part : List RegisteredType) → map registered_of rows ≡ part → (n : ℕ) (found : Option code.RegisteredType) → found ≡ find (λ (row : code.RegisteredType). n == (named (registered_of row)).number) rows → option_map registered_of found ≡ row_numbered n part
row_there rows part are n found is =
    ap (option_map registered_of) is ∙ sym (find_mapped registered_of (has_number n) rows) ∙ ap (row_numbered n) are

names_mapped : (rows : List code.RegisteredType) → map (λ (row : code.RegisteredType). named (registered_of row)) rows ≡ map named (map registered_of rows)
names_mapped [] = refl
names_mapped (row ∷ rows) = ap (λ names. named (registered_of row) ∷ names) (names_mapped rows)

pub names_there : (rows : List code.RegisteredType) (part : List RegisteredType) → map registered_of rows ≡ part → map (λ (row : code.RegisteredType). named (registered_of row)) rows ≡ map named part
names_there rows part are = names_mapped rows ∙ ap (map named) are

pub ascending_there : (rows : List code.RegisteredType) (part : List RegisteredType) → map registered_of rows ≡ part → ascends (map named part) ≡ true → ascends (map (λ (row : code.RegisteredType). named (registered_of row)) rows) ≡ true
ascending_there rows part are up = ap ascends (names_there rows part are) ∙ up
