-- The fields of each row of the table: only the last may be printed for all octets that are left, and
-- there are nine at most.
use Rattle.type_data.proofs.Common.{Bool, FurtherType, List, NamedField, Some, [], and_parts, ap, arith, found_each, further_type, further_types, length, list_all, ltb-true, nat_lt, not, not-true, refl, sym, true, ◌&&◌, ◌==◌, ◌∙◌, ◌∷◌, ◌≡◌, ◌≤◌, early_types, late_types, signed_types}
use Rattle.type_data.specs.Machine.PrintedFields.{OnlyLastPrintsAll, prints_all}
use Rattle.type_data.specs.Table.{Fields, same}

-- ---- what is computed over the table

abbrev pub passes : (List NamedField → Bool) → Fields → Bool
passes test (same fields) = test fields
passes test fields = true

pub passed : (test : List NamedField → Bool) → list_all (λ (f : FurtherType). passes test f.fields) further_types ≡ true → (further : FurtherType) → further_type further.number ≡ Some further → (fields : List NamedField) → further.fields ≡ same fields → test fields ≡ true
passed test all further row fields e =
    ap (passes test) (sym e) ∙ found_each (λ (f : FurtherType). passes test f.fields) (λ (f : FurtherType). further.number == f.number) further_types further all row

-- ---- the last field

abbrev only_last : List NamedField → Bool
only_last [] = true
only_last (f ∷ []) = true
only_last (f ∷ g ∷ fields) = not (prints_all f.kind) && only_last (g ∷ fields)

only_last_is : (fields : List NamedField) → only_last fields ≡ true → OnlyLastPrintsAll fields
only_last_is [] e = tt
only_last_is (f ∷ []) e = tt
only_last_is (f ∷ g ∷ fields) e =
    let both = and_parts (not (prints_all f.kind)) (only_last (g ∷ fields)) e in
    (not-true (prints_all f.kind) both.0, only_last_is (g ∷ fields) both.1)

each_only_last : list_all (λ (f : FurtherType). passes only_last f.fields) further_types ≡ true
unfolding early_types late_types signed_types
each_only_last = refl

pub only_last_prints_all : (further : FurtherType) → further_type further.number ≡ Some further → (fields : List NamedField) → further.fields ≡ same fields → OnlyLastPrintsAll fields
only_last_prints_all further row fields e = only_last_is fields (passed only_last each_only_last further row fields e)

-- ---- how many fields

abbrev are_few : List NamedField → Bool
are_few fields = nat_lt (length fields) 10

each_are_few : list_all (λ (f : FurtherType). passes are_few f.fields) further_types ≡ true
unfolding early_types late_types signed_types
each_are_few = refl

pub nine_fields : (further : FurtherType) → further_type further.number ≡ Some further → (fields : List NamedField) → further.fields ≡ same fields → length fields ≤ 9
nine_fields further row fields e = let few = ltb-true (length fields) 10 (passed are_few each_are_few further row fields e) in omega (arith, few)
