-- Words of further types are words of registered types, and no further type has a layout.
use Rattle.type_data.proofs.Common.{Bool, IfNone, IfSome, IsCapped, NothingIs, drop, inl, subst, inr, ◌||◌, ◌⊎◌, FurtherType, IsFurtherWord, IsGeneric, IsKindWord, IsMnemonic, IsNumbered, IsWordAmong, List, Named, NamedType, None, Option, RawItem, Some, ap, by_mnemonic, by_number, bytes_eq, bytes_eq-Decides, codes, each_mnemonic, false, false≢true, find, find_mapped, folded_label, folded_octet, found_each, further_names, further_type, further_types, list_all, map-append, mnemonic_among, named, not, not-true, option_map, refl, registered_types, sym, take, true, type_names, types, ℕ, ◌++◌, ◌==◌, ◌∙◌, ◌∷◌, ◌≡◌, early_types, late_types, signed_types, map}
unfoldable use Rattle.zone_rdata.proofs.Words.OneWord.{is_number, own_numbers, unlike}
use Rattle.zone_rdata.specs.Layout.{fields_in, layout}
use Rattle.zone_rdata.specs.Spelling.{States, StatesFor, in_octets, in_words}
use Rattle.type_data.proofs.OfKinds.Word.Once.{word_of_type_once}
use Rattle.type_data.specs.Table.{named as named_type}

is_same : Option (List ℕ) → List ℕ → Bool
is_same None word = false
is_same (Some m) word = bytes_eq m word

the_same : (found : Option (List ℕ)) (word : List ℕ) → is_same found word ≡ true → found ≡ Some word
unfolding is_same
the_same None word e = absurd (false≢true e)
the_same (Some m) word e = ap Some ((bytes_eq-Decides m word).0 e)

-- the mnemonics are those of registered types
abbrev AreRegistered : List Named → Type 0
AreRegistered rows = list_all (λ (row : Named). is_same (mnemonic_among registered_types row.number) row.mnemonic) rows ≡ true

registered_row : (rows : List Named) → AreRegistered rows → (n : ℕ) (name : List ℕ) → mnemonic_among rows n ≡ Some name → mnemonic_among registered_types n ≡ Some name
registered_row rows all n name row = the_same (mnemonic_among registered_types n) name (each_mnemonic (λ n name. is_same (mnemonic_among registered_types n) name) rows all n name row)

registered_mnemonic : (rows : List Named) → AreRegistered rows → (word : List ℕ) (n : ℕ) → IsMnemonic rows word n → IsMnemonic registered_types word n
registered_mnemonic rows all word n is = record {
  name = is.name;
  row = registered_row rows all n is.name is.row;
  same = is.same;
}

abbrev pub IsRegistered : List ℕ → ℕ → Type 0
IsRegistered = IsWordAmong registered_types (codes "TYPE")

registered_word : (rows : List Named) → AreRegistered rows → (word : List ℕ) (n : ℕ) → IsWordAmong rows (codes "TYPE") word n → IsRegistered word n
registered_word rows all word n (by_mnemonic is) = by_mnemonic (registered_mnemonic rows all word n is)
registered_word rows all word n (by_number is) = by_number is

further_registered : AreRegistered further_names
unfolding is_same early_types late_types signed_types
further_registered = refl

kinds_registered : AreRegistered type_names
unfolding is_same early_types late_types signed_types
kinds_registered = refl

pub registered_name : (n : ℕ) (name : List ℕ) → mnemonic_among further_names n ≡ Some name → mnemonic_among registered_types n ≡ Some name
registered_name = registered_row further_names further_registered

pub registered_further : (word : List ℕ) (n : ℕ) → IsWordAmong further_names (codes "TYPE") word n → IsRegistered word n
registered_further = registered_word further_names further_registered

pub same_number : (word : List ℕ) (n : ℕ) (f : FurtherType) → IsKindWord word n → IsFurtherWord word f → n ≡ f.number
same_number word n f kind further = word_of_type_once word n f.number (registered_word type_names kinds_registered word n kind) (registered_further word f.number further.named)

-- ---- the registered types in three parts, of which each has its words

abbrev pub early_names : List Named
early_names = map named_type early_types

abbrev pub signed_names : List Named
signed_names = map named_type signed_types

abbrev pub late_names : List Named
late_names = map named_type late_types

early_registered : AreRegistered early_names
unfolding is_same early_types late_types signed_types
early_registered = refl

signed_registered : AreRegistered signed_names
unfolding is_same early_types late_types signed_types
signed_registered = refl

late_registered : AreRegistered late_names
unfolding is_same early_types late_types signed_types
late_registered = refl

abbrev is_in_a_part : ℕ → List ℕ → Bool
is_in_a_part n name = is_same (mnemonic_among early_names n) name || (is_same (mnemonic_among signed_names n) name || is_same (mnemonic_among late_names n) name)

either : (a b : Bool) → (a || b) ≡ true → (a ≡ true) ⊎ (b ≡ true)
either true b e = inl refl
either false b e = inr e

each_in_a_part : list_all (λ (row : Named). is_in_a_part row.number row.mnemonic) registered_types ≡ true
unfolding is_same early_types late_types signed_types
each_in_a_part = refl

in_a_part : (n : ℕ) (name : List ℕ) → mnemonic_among registered_types n ≡ Some name → (mnemonic_among early_names n ≡ Some name) ⊎ ((mnemonic_among signed_names n ≡ Some name) ⊎ (mnemonic_among late_names n ≡ Some name))
in_a_part n name row =
    elim (either (is_same (mnemonic_among early_names n) name) (is_same (mnemonic_among signed_names n) name || is_same (mnemonic_among late_names n) name) (each_mnemonic is_in_a_part registered_types each_in_a_part n name row)) [
      | inl e ↦ inl (the_same (mnemonic_among early_names n) name e)
      | inr others ↦ inr (elim (either (is_same (mnemonic_among signed_names n) name) (is_same (mnemonic_among late_names n) name) others) [
        | inl e ↦ inl (the_same (mnemonic_among signed_names n) name e)
        | inr e ↦ inr (the_same (mnemonic_among late_names n) name e)
      ])
    ]

abbrev NotIn : List Named → List ℕ → Type 0
NotIn rows word = (n : ℕ) → IsWordAmong rows (codes "TYPE") word n → ⊥

-- a word of no part is that of no registered type
in_none : (word : List ℕ) → NotIn early_names word → NotIn signed_names word → NotIn late_names word → (n : ℕ) → IsRegistered word n → ⊥
in_none word early signed last n (by_number is) = early n (by_number is)
in_none word early signed last n (by_mnemonic is) =
    elim (in_a_part n is.name is.row) [
      | inl row ↦ early n (by_mnemonic (record { name = is.name; row = row; same = is.same }))
      | inr others ↦ elim others [
        | inl row ↦ signed n (by_mnemonic (record { name = is.name; row = row; same = is.same }))
        | inr row ↦ last n (by_mnemonic (record { name = is.name; row = row; same = is.same }))
      ]
    ]

-- the rows of the code are those of a part
found_there : (part : List Named) → AreRegistered part → (word : List ℕ) (n : ℕ) (rows : List Named) → rows ≡ part → IsCapped (IsWordAmong rows (codes "TYPE") word) n → IsCapped (IsRegistered word) n
found_there part all word n rows is capped = (capped.0, (registered_word part all word capped.0 (subst (λ r. IsWordAmong r (codes "TYPE") word capped.0) is capped.1.0), capped.1.1))

pub early_found : (word : List ℕ) (n : ℕ) (rows : List Named) → rows ≡ early_names → IsCapped (IsWordAmong rows (codes "TYPE") word) n → IsCapped (IsRegistered word) n
early_found = found_there early_names early_registered

pub signed_found : (word : List ℕ) (n : ℕ) (rows : List Named) → rows ≡ signed_names → IsCapped (IsWordAmong rows (codes "TYPE") word) n → IsCapped (IsRegistered word) n
signed_found = found_there signed_names signed_registered

pub late_found : (word : List ℕ) (r : Option ℕ) (rows : List Named) → rows ≡ late_names → IfSome r (IsCapped (IsWordAmong rows (codes "TYPE") word)) → IfSome r (IsCapped (IsRegistered word))
late_found word None rows is found = tt
late_found word (Some n) rows is found = found_there late_names late_registered word n rows is found

abbrev none_there : (part rows : List Named) (word : List ℕ) → rows ≡ part → NothingIs (IsWordAmong rows (codes "TYPE") word) → NotIn part word
none_there part rows word same none n is = none n (subst (λ r. IsWordAmong r (codes "TYPE") word n) (sym same) is)

pub found_in_none : (word : List ℕ) (r : Option ℕ) (early signed last : List Named) → early ≡ early_names → signed ≡ signed_names → last ≡ late_names → NothingIs (IsWordAmong early (codes "TYPE") word) → NothingIs (IsWordAmong signed (codes "TYPE") word) → IfNone r (NothingIs (IsWordAmong last (codes "TYPE") word)) → IfNone r (NothingIs (IsRegistered word))
found_in_none word None early signed last e s l no_early no_signed no_last = in_none word (none_there early_names early word e no_early) (none_there signed_names signed word s no_signed) (none_there late_names last word l no_last)
found_in_none word (Some n) early signed last e s l no_early no_signed no_last = tt

-- ---- no further type has a layout

is_missing : {X : Type 0} → Option X → Bool
is_missing None = true
is_missing (Some x) = false

missing : {X : Type 0} (found : Option X) → is_missing found ≡ true → found ≡ None
unfolding is_missing
missing None e = refl
missing (Some x) e = absurd (false≢true e)

abbrev row_numbered : ℕ → Option NamedType
row_numbered n = find (λ (row : NamedType). n == (named row).number) types

none_laid_out : list_all (λ (g : FurtherType). is_missing (row_numbered g.number)) further_types ≡ true
unfolding is_missing early_types late_types signed_types
none_laid_out = refl

no_row : (f : FurtherType) → further_type f.number ≡ Some f → row_numbered f.number ≡ None
no_row f e = missing (row_numbered f.number) (found_each (λ (g : FurtherType). is_missing (row_numbered g.number)) (λ (g : FurtherType). f.number == g.number) further_types f none_laid_out e)

in_form : (origin : List (List ℕ)) (laid : _) (items : List RawItem) (octets : List ℕ) → laid ≡ None → StatesFor origin laid items octets → IsGeneric items
in_form origin laid items octets none (in_words fields values some words spell are short) = absurd (let bad : None ≡ Some fields = sym none ∙ some in cc)
in_form origin laid items octets none (in_octets stated) = (stated.1.form.item ∷ stated.1.digits, stated.1.form.parts)

-- data of a further type stands in the generic form
pub generic_data : (origin : List (List ℕ)) (word : List ℕ) (class kind : ℕ) (items : List RawItem) (octets : List ℕ) (f : FurtherType) → IsKindWord word kind → IsFurtherWord word f → States origin class kind items octets → IsGeneric items
generic_data origin word class kind items octets f is further states =
    in_form origin (layout class kind) items octets (ap (layout class) (same_number word kind f is further) ∙ (ap (fields_in class) (no_row f further.row))) states.stated

-- ---- its word is no mnemonic

pub none_like_type : list_all (λ (row : Named). not (bytes_eq (take 4 (folded_label row.mnemonic)) (codes "type"))) further_names ≡ true
unfolding early_types late_types signed_types
none_like_type = refl

further_or_numbered : (word : List ℕ) (a b : ℕ) → IsMnemonic further_names word a → IsNumbered (codes "TYPE") word b → ⊥
further_or_numbered word a b x y =
    let other = not-true _ (each_mnemonic (λ _ m. not (bytes_eq (take 4 (folded_label m)) (codes "type"))) further_names none_like_type a x.name x.row) in
    let whole : folded_label x.name ≡ folded_label y.front ++ folded_label y.digits = sym x.same ∙ ap folded_label y.parts ∙ map-append folded_octet y.front y.digits in
    let front : take 4 (folded_label x.name) ≡ codes "type" = ap (take 4) (whole ∙ ap (λ t. t ++ folded_label y.digits) y.named) in
    false≢true (sym other ∙ (bytes_eq-Decides (take 4 (folded_label x.name)) (codes "type")).1 front)

no_type_name : (n : ℕ) (name : List ℕ) → row_numbered n ≡ None → mnemonic_among type_names n ≡ Some name → ⊥
no_type_name n name none some =
    let empty : mnemonic_among type_names n ≡ None = ap (option_map (λ (row : Named). row.mnemonic)) (find_mapped named (λ (row : Named). n == row.number) types ∙ ap (option_map named) none) in
    let bad : None ≡ Some name = sym empty ∙ some in
    cc bad

pub no_mnemonic : (word : List ℕ) (kind n : ℕ) (f : FurtherType) → IsKindWord word kind → IsFurtherWord word f → IsMnemonic further_names word n → ⊥
no_mnemonic word kind n f (by_number is) further mnemonic = further_or_numbered word n kind mnemonic is
no_mnemonic word kind n f (by_mnemonic is) further mnemonic = no_type_name kind is.name (ap row_numbered (same_number word kind f (by_mnemonic is) further) ∙ no_row f further.row) is.row
