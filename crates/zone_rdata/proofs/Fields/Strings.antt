-- One or more character-strings, up to the end of the data.
use Rattle.zone_rdata.proofs.Common.{[], List, ap, append_assoc, arith, drop, inl, inr, length, length-append, map, refl, sym, take, ℕ, ◌++◌, ◌<◌, ◌∙◌, ◌∷◌, ◌≡◌, ◌⊎◌, AllByRecursion, flat_map, cases_lt, append-nil, drop_all, length-map, take_all, Labels, with_length, AllByRecursion-append, Fault, strings, string_item, AreStrings, FirstStringFault, SpellEachString, SpellsStrings, StringsFault, strings_of, IsGeneric, RawItem, AppendsPrefix, AppendsValue, BeginsWithNone, AreWithLengths, IsString, Decided, each_or_not, rules, common_steps, BadRdata, Strings, after}
use Rattle.zone_rdata.proofs.Common.{BeginsWithValue, FieldValue, OneString, field_octets, flat_map-append, string}
use Rattle.zone_rdata.proofs.Fields.FieldLaws.{AreLow, AreLowItems, FieldChoice, FrontChoice, appends_plain, found_front, front_of}
use Rattle.zone_rdata.proofs.Octets.Sent.{frame_same, frames_push}
use Rattle.zone_rdata.proofs.Octets.StringFields.{strings_back}
use Rattle.zone_rdata.proofs.Strings.StringLaws.{fault-once, printed_spells, printed_stands, string-never_both, string-once}
use Rattle.zone_rdata.proofs.Strings.Units.{string_or_fault}
use Rattle.zone_rdata.proofs.Texts.Standing.{IsPrintedItem}
use Rattle.zone_rdata.proofs.Words.OneWord.{same_or_not}

-- ---- its octets
pub low_each : (many : List (List ℕ)) → AllByRecursion IsString many → AreLow (flat_map with_length many)
low_each [] each = tt
low_each (text ∷ many) each = AllByRecursion-append (λ c. c < 256) (with_length text) (flat_map with_length many) (omega (arith, each.0.short), each.0.each) (low_each many each.1)

pub back : (many : List (List ℕ)) (rest : List ℕ) → rest ≡ [] → strings_of (flat_map with_length many ++ rest) ≡ many
back many rest last = grind (arith, ℕ, append-nil, strings_back)

-- ---- strings up to the end of octets
pub appends_strings : (octets rest old new : List ℕ) → AreWithLengths octets → AppendsPrefix (length octets) octets rest old new → AppendsValue Strings octets rest old new
appends_strings octets rest old new framed grows = grind (arith, appends_plain Strings octets rest old new (length octets) (strings framed.0), take_all, drop_all)

pub none_strings : (octets : List ℕ) → (AreWithLengths octets → ⊥) → BeginsWithNone Strings octets
none_strings octets none v rest b = none (search rules)

pub record Framed (octets rest : List ℕ) : Type 0 where
  pub many : List (List ℕ)
  pub each : AllByRecursion IsString many
  pub parts : octets ≡ flat_map with_length many ++ rest
  pub low : AreLow rest

pub some_frames : (many : List (List ℕ)) → 0 < length (flat_map with_length many) → 0 < length many
some_frames many h = grind (arith, common_steps)

frames_some : (many : List (List ℕ)) → 0 < length many → 0 < length (flat_map with_length many)
frames_some [] h = absurd (omega arith)
frames_some (x ∷ many) h = omega arith

strings_first : (many whole : List (List ℕ)) (rest : List ℕ) → flat_map with_length many ++ rest ≡ flat_map with_length whole → (more : List (List ℕ)) × (rest ≡ flat_map with_length more)
strings_first [] whole rest e = (whole, e)
strings_first (x ∷ many) [] rest e = absurd (omega (arith, ap length e))
strings_first (x ∷ many) (y ∷ whole) rest e = strings_first many whole rest (grind (arith, append_assoc, frame_same x y))

short_by : (more : List (List ℕ)) (c : ℕ) (following : List ℕ) → c ∷ following ≡ flat_map with_length more → length following < c → ⊥
short_by [] c following e few = absurd (omega (arith, ap length e))
short_by (x ∷ more) c following e few = grind (arith, length-append)

pub framed_short : (octets rest : List ℕ) (c count : ℕ) (following : List ℕ) → Framed octets rest → rest ≡ c ∷ following → count ≡ c → length following < count → AreWithLengths octets → ⊥
framed_short octets rest c count following so_far e same few framed = grind (arith, strings_first, short_by)

string_or_not : (text : List ℕ) → Decided (IsString text)
string_or_not text = grind (arith, cases_lt 255 (length text), each_or_not (λ c. c < 256) (λ c. grind (arith, cases_lt c 256)) text)

pub framed_or_not : (octets : List ℕ) → AreWithLengths octets ⊎ (AreWithLengths octets → ⊥)
framed_or_not octets =
    let many = strings_of octets in
    grind (arith, same_or_not octets (flat_map with_length many), strings_back, cases_lt 0 (length many), each_or_not IsString string_or_not many)

pub front : (octets : List ℕ) → AreWithLengths octets ⊎ (AreWithLengths octets → ⊥) → FrontChoice Strings octets
front octets (inl framed) = found_front Strings octets (drop (length octets) octets) (take (length octets) octets) (appends_strings octets (drop (length octets) octets) [] (take (length octets) octets) framed (front_of (length octets) octets (omega arith)))
front octets (inr none) = inr (none_strings octets none)

-- ---- strings that are pushed one by one

string_pushed : (octets rest old new : List ℕ) (v : FieldValue) → BeginsWithValue OneString octets v rest → new ≡ old ++ field_octets v → (text : List ℕ) × IsString text × (octets ≡ with_length text ++ rest) × (new ≡ old ++ with_length text)
string_pushed octets rest old new (string text) b e = (text, b.held, b.parts ∙ ap (λ f. f ++ rest) b.sent, e)
string_pushed octets rest old new v b e = absurd (grind arith)

-- the strings that were pushed so far
pub record PushedStrings (octets rest old new : List ℕ) : Type 0 where
  pub many : List (List ℕ)
  pub each : AllByRecursion IsString many
  pub some : 0 < length many
  pub parts : octets ≡ flat_map with_length many ++ rest
  pub written : new ≡ old ++ flat_map with_length many

pub first_pushed : (octets rest old new : List ℕ) → AppendsValue OneString octets rest old new → PushedStrings octets rest old new
first_pushed octets rest old new h =
    let s = string_pushed octets rest old new h.value h.begins h.written in
    record { many = s.0 ∷ []; each = (s.1, tt); some = omega arith; parts = grind (arith, s.2, append-nil); written = grind (arith, s.3, append-nil) }

pub more_pushed : (octets rest after old new newer : List ℕ) → PushedStrings octets rest old new → AppendsValue OneString rest after new newer → PushedStrings octets after old newer
more_pushed octets rest after old new newer so_far h =
    let s = string_pushed rest after new newer h.value h.begins h.written in
    record { many = so_far.many ++ s.0 ∷ []; each = AllByRecursion-append IsString so_far.many (s.0 ∷ []) so_far.each (s.1, tt); some = omega (arith, length-append so_far.many (s.0 ∷ [])); parts = so_far.parts ∙ ap (λ t. flat_map with_length so_far.many ++ t) s.2 ∙ frames_push so_far.many s.0 after; written = grind (arith, so_far.written, s.3, append_assoc, append-nil, flat_map-append) }

pub all_pushed : (octets rest old new : List ℕ) → length rest ≡ 0 → PushedStrings octets rest old new → AppendsValue Strings octets rest old new
all_pushed octets [] old new none h = record {
  value = strings h.many;
  begins = record { held = record { some = h.some; each = h.each }; front = flat_map with_length h.many; sent = refl; parts = h.parts; last = λ e. refl };
  written = h.written;
}
all_pushed octets (c ∷ rest) old new none h = absurd (omega (arith, none))

strings_rest : (many whole : List (List ℕ)) (rest : List ℕ) → AllByRecursion IsString whole → flat_map with_length many ++ rest ≡ flat_map with_length whole → (more : List (List ℕ)) × AllByRecursion IsString more × (rest ≡ flat_map with_length more)
strings_rest [] whole rest each e = (whole, each, e)
strings_rest (x ∷ many) [] rest each e = absurd (omega (arith, ap length e))
strings_rest (x ∷ many) (y ∷ whole) rest each e = strings_rest many whole rest each.1 (grind (arith, append_assoc, frame_same x y))

-- octets that begin with no string are not strings
begun : (rest : List ℕ) (more : List (List ℕ)) → 0 < length rest → AllByRecursion IsString more → rest ≡ flat_map with_length more → BeginsWithNone OneString rest → ⊥
begun rest [] some each e none = omega (arith, some, ap length e)
begun rest (x ∷ more) some each e none = none (string x) (flat_map with_length more) (record { held = each.0; front = with_length x; sent = refl; parts = e; last = λ h. absurd cc })

pub none_first : (octets : List ℕ) → BeginsWithNone OneString octets → BeginsWithNone Strings octets
none_first octets none v rest b =
    let framed : AreWithLengths octets = search rules in
    begun octets framed.0 (omega (arith, frames_some framed.0 framed.1.some, ap length framed.2)) framed.1.each framed.2 none

pub none_next : (octets rest old new : List ℕ) → 0 < length rest → PushedStrings octets rest old new → BeginsWithNone OneString rest → BeginsWithNone Strings octets
none_next octets rest old new some so_far none v after b =
    let framed : AreWithLengths octets = search rules in
    let more = strings_rest so_far.many framed.0 rest framed.1.each (sym so_far.parts ∙ framed.2) in
    begun rest more.0 some more.1 more.2 none

pub ruleset pushed_strings = (first_pushed, more_pushed, all_pushed, none_first, none_next)

-- ---- the items that spell strings
pub each_held : (items : List RawItem) (many : List (List ℕ)) → SpellEachString items many → AllByRecursion IsString many × (length many ≡ length items)
each_held (item ∷ items) (octets ∷ many) h = grind (arith, each_held items many h.1)
each_held items many h = grind arith

pub each_once : (items : List RawItem) (a b : Labels) → SpellEachString items a → SpellEachString items b → a ≡ b
each_once [] a b h k = grind arith
each_once (item ∷ items) [] b h k = absurd h
each_once (item ∷ items) (x ∷ a) (y ∷ b) h k = ap (λ z. z ∷ a) (string-once item x y h.0 k.0) ∙ ap (λ z. y ∷ z) (each_once items a b h.1 k.1)
each_once items a b h k = absurd k

pub each_never : (items : List RawItem) (many : List (List ℕ)) (fault : Fault) → SpellEachString items many → FirstStringFault items fault → ⊥
each_never [] many fault h bad = bad
each_never (item ∷ items) [] fault h bad = h
each_never (item ∷ items) (octets ∷ many) fault h (inl bad) = string-never_both item octets fault h.0 bad
each_never (item ∷ items) (octets ∷ many) fault h (inr more) = each_never items many fault h.1 more.2

pub never : (items : List RawItem) (many : List (List ℕ)) (fault : Fault) → SpellsStrings items many → StringsFault items fault → ⊥
never [] many fault h bad = omega (arith, h.some)
never (item ∷ items) many fault h bad = each_never (item ∷ items) many fault h.each bad

first_once : (items : List RawItem) (a b : Fault) → FirstStringFault items a → FirstStringFault items b → a ≡ b
first_once [] a b x y = absurd x
first_once (item ∷ items) a b (inl x) (inl y) = fault-once item a b x y
first_once (item ∷ items) a b (inl x) (inr y) = absurd (string-never_both item y.0 a y.1 x)
first_once (item ∷ items) a b (inr x) (inl y) = absurd (string-never_both item x.0 b x.1 y)
first_once (item ∷ items) a b (inr x) (inr y) = first_once items a b x.2 y.2

pub fault_once : (items : List RawItem) (a b : Fault) → StringsFault items a → StringsFault items b → a ≡ b
fault_once [] a b x y = x ∙ sym y
fault_once (item ∷ items) a b x y = first_once (item ∷ items) a b x y

abbrev StringsChoice : List RawItem → Type 0
StringsChoice items = ((many : List (List ℕ)) × SpellEachString items many) ⊎ ((fault : Fault) × FirstStringFault items fault)

each_or_fault : (items : List RawItem) → AreLowItems items → StringsChoice items
each_or_fault [] low = inl ([], tt)
each_or_fault (item ∷ items) low = elim (string_or_fault item low.0) [
  | inr bad ↦ inr (bad.0, inl bad.1)
  | inl found ↦ elim (each_or_fault items low.1) [ inl more ↦ inl (found.0 ∷ more.0, (found.1, more.1)) | inr bad ↦ inr (bad.0, inr (found.0, found.1, bad.1)) ]
]

pub spelt_or_fault : (origin : Labels) (items : List RawItem) → AreLowItems items → FieldChoice origin Strings items
spelt_or_fault origin [] low = inr (BadRdata, refl)
spelt_or_fault origin (item ∷ items) low = elim (each_or_fault (item ∷ items) low) [ inl found ↦ inl (strings found.0, record { some = omega arith; each = found.1 }) | inr bad ↦ inr (bad.0, bad.1) ]

-- ---- the items that are printed
each_printed : (many : List (List ℕ)) → AllByRecursion IsString many → SpellEachString (map string_item many) many
each_printed [] each = tt
each_printed (octets ∷ many) each = (printed_spells octets each.0, each_printed many each.1)

pub printed : (many : List (List ℕ)) (rest : List RawItem) → AreStrings many → rest ≡ [] → SpellsStrings (map string_item many ++ rest) many × ([] ≡ rest)
printed many rest h last = grind (arith, append-nil, length-map, each_printed)

pub unmarked : (many : List (List ℕ)) (rest : List RawItem) → AreStrings many → IsGeneric (map string_item many ++ rest) → ⊥
unmarked [] rest h g = omega (arith, h.some)
unmarked (octets ∷ many) rest h g = cc g.1

pub stand_each : (many : List (List ℕ)) → AllByRecursion IsString many → AllByRecursion IsPrintedItem (map string_item many)
stand_each [] each = tt
stand_each (octets ∷ many) each = (printed_stands octets each.0, stand_each many each.1)
