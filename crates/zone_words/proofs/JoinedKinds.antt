-- Further types as the reader of plain master files knows them: by number alone, without a layout.
use Rattle.zone_words.proofs.Common.{Bool, FurtherType, IsFurtherWord, IsKindWord, IsMnemonic, IsNumbered, IsWordAmong, List, Named, None, Option, Some, ap, arith, by_mnemonic, by_number, bytes_eq, codes, each_mnemonic, false, false≢true, find, folded_label, found_each, further_names, further_type, further_types, is_some, named, nat_lt, nat_tests, not, not-true, option_map, own_numbers, is_number, unlike, refl, sym, true, type_names, types, word_once, ℕ, ◌++◌, ◌<◌, ◌==◌, ◌∙◌, ◌≡◌, list_all}
unfoldable use Rattle.type_data.specs.Table.{early_types, late_types, signed_types}
use Rattle.std.specs.Prelude.{decimal}
use Rattle.type_data.proofs.FurtherWords.{numbered}
use Rattle.zone_rdata.proofs.Items.GenericLaws.{decimal-is}
use Rattle.zone_rdata.proofs.Words.OneWord.{kind_word_once}
use Rattle.zone_rdata.specs.Layout.{fields_in, layout}
use Rattle.zone_rdata.specs.Table.{NamedType}

-- ---- a word of a further type is that of its number for the reader

-- the number of folded text among rows
abbrev found_in : List Named → List ℕ → Bool
found_in rows folded = is_some (option_map (λ row. row.number) (find (λ (row : Named). bytes_eq folded (folded_label row.mnemonic)) rows))

none_laid_out : list_all (λ (row : Named). not (found_in type_names (folded_label row.mnemonic))) further_names ≡ true
unfolding early_types late_types signed_types
none_laid_out = refl

no_type_name : (word : List ℕ) (n m : ℕ) → IsMnemonic further_names word n → IsMnemonic type_names word m → ⊥
no_type_name word n m x y =
    let not_there = not-true _ (each_mnemonic (λ _ name. not (found_in type_names (folded_label name))) further_names none_laid_out n x.name x.row) in
    let there = each_mnemonic (λ _ name. found_in type_names (folded_label name)) type_names refl m y.name y.row in
    false≢true (sym not_there ∙ ap (found_in type_names) (sym x.same ∙ y.same) ∙ there)

word_by_number : (word : List ℕ) (n m : ℕ) → IsMnemonic further_names word n → IsNumbered (codes "TYPE") word m → n ≡ m
unfolding is_number own_numbers unlike early_types late_types signed_types
word_by_number word n m x y = word_once further_names (codes "TYPE") refl refl word n m (by_mnemonic x) (by_number y)

pub further_kind : (word : List ℕ) (further : FurtherType) (n : ℕ) → IsFurtherWord word further → IsKindWord word n → n ≡ further.number
further_kind word further n is kind = by_word is.named kind
  where
    by_word : IsWordAmong further_names (codes "TYPE") word further.number → IsKindWord word n → n ≡ further.number
    by_word (by_mnemonic x) (by_mnemonic y) = absurd (no_type_name word further.number n x y)
    by_word (by_mnemonic x) (by_number y) = sym (word_by_number word further.number n x y)
    by_word (by_number x) other = kind_word_once word n further.number other (by_number x)

-- ---- the rows of further types

abbrev type_of : ℕ → Option NamedType
type_of n = find (λ (t : NamedType). n == (named t).number) types

each_without_type : list_all (λ (f : FurtherType). not (is_some (type_of f.number))) further_types ≡ true
unfolding early_types late_types signed_types
each_without_type = refl

each_is_no_start : list_all (λ (f : FurtherType). not (f.number == 6)) further_types ≡ true
unfolding early_types late_types signed_types
each_is_no_start = refl

module _ (further : FurtherType) (row : further_type further.number ≡ Some further) where
  abbrev is_row : FurtherType → Bool
  is_row f = further.number == f.number

  none_found : (found : Option NamedType) → is_some found ≡ false → found ≡ None
  none_found None e = refl
  none_found (Some t) e = absurd (false≢true (sym e))

  no_type : type_of further.number ≡ None
  no_type = none_found (type_of further.number) (not-true _ (found_each (λ (f : FurtherType). not (is_some (type_of f.number))) is_row further_types further each_without_type row))

  pub no_layout : (class : ℕ) → layout class further.number ≡ None
  no_layout class = ap (fields_in class) no_type

  pub no_start : (further.number == 6) ≡ false
  no_start = not-true _ (found_each (λ (f : FurtherType). not (f.number == 6)) is_row further_types further each_is_no_start row)

  pub short_number : further.number < 65536
  short_number = (numbered further.number further row).1

  -- `TYPE` and the number is its word
  pub type_numbered : IsNumbered (codes "TYPE") (codes "TYPE" ++ decimal further.number) further.number
  type_numbered = record {
    front = codes "TYPE";
    digits = decimal further.number;
    parts = refl;
    named = refl;
    number = decimal-is further.number (let s = short_number in omega arith);
  }
