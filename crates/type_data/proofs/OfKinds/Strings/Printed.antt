-- Character-strings as they are printed.
use Rattle.type_data.proofs.Common.{AllZip, List, RawItem, [], ap, append-nil, append_assoc, arith, flat_map, length, map, nil_from_length, refl, slice_index, sym, with_length, ℕ, ◌++◌, ◌<◌, ◌∙◌, ◌∷◌, ◌≡◌, AllByRecursion, AllByRecursion-append}
use Rattle.zone_rdata.proofs.Octets.Sent.{frame_same, frames_push}
use Rattle.zone_rdata.specs.Item.{quoted}
use Rattle.zone_rdata.specs.Strings.{IsString, SpellsString, inside_text, string_text}
use Rattle.zone_rdata.specs.Text.{written_item}
use Rattle.type_data.proofs.OfKinds.AfterLength.Printed.{AfterLength, counted_front, counted_octets, counted_small}
use Rattle.type_data.specs.Kinds.Strings.{IsAString, PrintsString, PrintsStrings, StatesStrings}
use Rattle.type_data.specs.Printed.{NoFront, NoItems, PrintsAll, PrintsFront, after_blanks}

string_after : AfterLength IsAString
string_after words part states = (states.1.string, states.1.value)

pub string_front : (octets rest old new value : List ℕ) → octets ≡ with_length value ++ rest → ((i : ℕ) → slice_index octets i < 256) → new ≡ old ++ string_text value → PrintsFront PrintsString IsAString octets rest old new
string_front octets rest old new value whole low appended =
    let is : IsString value = record { short = counted_small octets value rest whole low; each = counted_octets octets value rest whole low } in
    counted_front PrintsString IsAString octets rest old new value (string_text value) string_after whole (record { string = value; is = is; printed = refl; value = refl }) appended

-- ---- one after another

abbrev pub as_item : List ℕ → RawItem
as_item string = quoted (inside_text string)

-- the strings before the rest are printed
pub record HavePrinted (octets rest old new : List ℕ) : Type 0 where
  pub strings : List (List ℕ)
  pub each : AllByRecursion IsString strings
  pub front : octets ≡ flat_map with_length strings ++ rest
  pub appended : new ≡ old ++ after_blanks (map as_item strings)

pub none_printed : (octets old : List ℕ) → HavePrinted octets octets old old
none_printed octets old = record { strings = []; each = tt; front = refl; appended = sym (append-nil old) }

items_more : (strings : List (List ℕ)) (string : List ℕ) → after_blanks (map as_item (strings ++ string ∷ [])) ≡ after_blanks (map as_item strings) ++ 32 ∷ string_text string
items_more [] string = append-nil (32 ∷ string_text string)
items_more (s ∷ strings) string =
    ap (λ t. (32 ∷ string_text s) ++ t) (items_more strings string) ∙ sym (append_assoc (32 ∷ string_text s) (after_blanks (map as_item strings)) (32 ∷ string_text string))

pub one_more_printed : (octets rest after old mid blank new : List ℕ) → HavePrinted octets rest old mid → blank ≡ mid ++ 32 ∷ [] → PrintsFront PrintsString IsAString rest after blank new → HavePrinted octets after old new
one_more_printed octets rest after old mid blank new have spaced front =
    let p = front.printed in
    let cut : rest ≡ with_length p.string ++ after = front.whole ∙ ap (λ o. o ++ after) p.value in
    record {
      strings = have.strings ++ p.string ∷ [];
      each = AllByRecursion-append IsString have.strings (p.string ∷ []) have.each (p.is, tt);
      front = have.front ∙ ap (λ r. flat_map with_length have.strings ++ r) cut ∙ frames_push have.strings p.string after;
      appended =
          front.appended ∙ ap (λ b. b ++ front.text) spaced ∙ ap (λ t. (mid ++ 32 ∷ []) ++ t) p.printed ∙ append_assoc mid (32 ∷ []) (string_text p.string)
          ∙ ap (λ m. m ++ 32 ∷ string_text p.string) have.appended ∙ append_assoc old (after_blanks (map as_item have.strings)) (32 ∷ string_text p.string)
          ∙ ap (λ t. old ++ t) (sym (items_more have.strings p.string));
    }

some_strings : (octets : List ℕ) (strings : List (List ℕ)) → 0 < length octets → octets ≡ flat_map with_length strings ++ [] → 0 < length strings
some_strings octets [] some front = absurd (omega (arith, some, ap length front))
some_strings octets (s ∷ strings) some front = omega arith

pub all_printed : (octets rest old new : List ℕ) → 0 < length octets → length rest ≡ 0 → HavePrinted octets rest old new → PrintsAll PrintsStrings octets old new
all_printed octets rest old new some empty have =
    let front : octets ≡ flat_map with_length have.strings ++ [] = have.front ∙ ap (λ r. flat_map with_length have.strings ++ r) (nil_from_length rest empty) in
    record {
      items = map as_item have.strings;
      printed = record { strings = have.strings; are = record { some = some_strings octets have.strings some front; each = have.each }; printed = refl; value = front ∙ append-nil (flat_map with_length have.strings) };
      appended = have.appended;
    }

-- ---- octets that are no strings

-- items state the string that stands after those before
follow : (before others : List (List ℕ)) (items : List RawItem) (rest : List ℕ) → 0 < length rest → flat_map with_length before ++ rest ≡ flat_map with_length others → AllZip SpellsString items others → NoFront IsAString rest → ⊥
follow [] [] items rest some same each none = omega (arith, some, ap length same)
follow [] (o ∷ others) [] rest some same each none = each
follow [] (o ∷ others) (item ∷ items) rest some same each none =
    none (with_length o) (flat_map with_length others) (written_item item) same (item, record { string = o; spelt = each.0; value = refl }, refl)
follow (b ∷ before) [] items rest some same each none = omega (arith, ap length same)
follow (b ∷ before) (o ∷ others) [] rest some same each none = each
follow (b ∷ before) (o ∷ others) (item ∷ items) rest some same each none =
    let cut = frame_same b o (flat_map with_length before ++ rest) (flat_map with_length others) (sym (append_assoc (with_length b) (flat_map with_length before) rest) ∙ same) in
    follow before others items rest some cut.1 each.1 none

pub bad_strings : (octets rest old new : List ℕ) → 0 < length rest → HavePrinted octets rest old new → NoFront IsAString rest → NoItems StatesStrings octets
bad_strings octets rest old new some have none items states =
    follow have.strings states.strings items rest some (sym have.front ∙ states.value) states.spelt.each none

no_string_items : (items : List RawItem) (strings : List (List ℕ)) → 0 < length items → AllZip SpellsString items strings → 0 < length (flat_map with_length strings)
no_string_items [] strings some each = absurd (omega arith)
no_string_items (item ∷ items) [] some each = absurd each
no_string_items (item ∷ items) (s ∷ strings) some each = omega arith

pub no_strings : (octets : List ℕ) → length octets ≡ 0 → NoItems StatesStrings octets
no_strings octets empty items states = omega (arith, empty, ap length states.value, no_string_items items states.strings states.spelt.some states.spelt.each)
