-- What an entry is or isn't: a record of a further type, under an origin.
use Rattle.std.proofs.lemmas.Bool.{cases_eq}
use Rattle.zone_name.proofs.Spelling.Answered.{one_verdict_cased}
use Rattle.zone_name.specs.Name.{IsCasedName}
use Rattle.zone_rdata.proofs.Choices.{Choice, Decided, each_or_not}
use Rattle.zone_rdata.proofs.Numbers.TimeLaws.{one_time, time_or_not}
use Rattle.zone_rdata.proofs.Words.OneWord.{class_or_not, word_or_not}
use Rattle.zone_rdata.specs.Item.{bare, quoted}
use Rattle.zone_rdata.specs.Limits.{greatest_ttl}
use Rattle.zone_rdata.specs.Number.{IsTime}
use Rattle.zone_text.specs.Outcome.{AreOctetItems}
use Rattle.zone_text.specs.Records.{HasValue}
use Rattle.zone_text.specs.Statements.{class, ttl}
use Rattle.zone_words.proofs.Common.{AllByRecursion, AreOnOneLine, Bool, Entry, FurtherType, HasClass, IsCasedOrigin, IsClass, IsClassWord, IsFurtherRecord, IsFurtherWord, Labels, List, MatchOption, NamesOrigin, None, Option, Parts, RawItem, Some, SpellsCased-faultless, Word, [], ap, arith, cases_lt, class_word, class_word_once, codes, directive, false, false≢true, further_names, further_type, if◌then◌else◌, in_class, includes, inl, inr, is_blank, latest, line_feeds_in, origin_items, owned, parts_in, refl, sets_origin, sets_ttl, statement_by, statement_of, subst, sym, true, unknown, unowned, ⊤, ℕ, ◌<◌, ◌==◌, ◌∙◌, ◌∷◌, ◌≡◌, ◌≤◌, ◌⊎◌}
use Rattle.type_data.proofs.FurtherWords.{IsWord, further_ascend, further_number_once, further_word_once, numbered}
use Rattle.zone_words.proofs.Origins.{origin_once}

-- ---- the origin

-- the items after `$ORIGIN`
abbrev LowOrigin : Option (List RawItem) → Type 0
LowOrigin None = ⊤
LowOrigin (Some items) = AreOctetItems items

low_directive : (a b c : Bool) (items : List RawItem) → AreOctetItems items → LowOrigin (origin_items (if a then sets_origin items else if b then sets_ttl items else if c then includes else unknown))
low_directive true b c items low = low
low_directive false true c items low = tt
low_directive false false true items low = tt
low_directive false false false items low = tt

low_by_octet : (a b : Bool) (item : RawItem) (items : List RawItem) → AreOctetItems items → LowOrigin (origin_items (if a then directive item items else if b then unowned (item ∷ items) else owned item items))
low_by_octet true b (quoted text) items low = tt
low_by_octet true b (bare text) items low = low_directive _ _ _ items low
low_by_octet false true item items low = tt
low_by_octet false false item items low = tt

low_origin : (first : Option ℕ) (items : List RawItem) → AreOctetItems items → LowOrigin (origin_items (statement_by first items))
low_origin first [] low = tt
low_origin None (item ∷ items) low = tt
low_origin (Some c) (item ∷ items) low = low_by_octet (c == 36) (is_blank c) item items low.1

-- one that is a name, or none
abbrev pub OriginChoice : (Labels → Type 0) → Type 0
OriginChoice Is = ((name : Labels) × (Is name × IsCasedName name)) ⊎ ((name : Labels) → Is name → ⊥)

named_or_not : (above : Labels) → IsCasedName above → (items : List RawItem) → AreOctetItems items → OriginChoice (NamesOrigin above items)
named_or_not above is [] low = inr (λ name h. h)
named_or_not above is (quoted text ∷ items) low = inr (λ name h. h)
named_or_not above is (bare text ∷ other ∷ items) low = inr (λ name h. h)
named_or_not above is (bare text ∷ []) low = elim ((one_verdict_cased (Some above) text is low.0).one_of) [
  | inl found ↦ inl (found.0, (found.1, found.1.name))
  | inr wrong ↦ inr (λ name h. SpellsCased-faultless (Some above) text name wrong.0 h wrong.1)
]

next_by : (origin : Labels) (before : List Entry) (items : List RawItem) → AreOctetItems items → OriginChoice (IsCasedOrigin origin before) → OriginChoice (λ name. (above : Labels) × IsCasedOrigin origin before above × NamesOrigin above items name)
next_by origin before items low (inr none) = inr (λ name h. none h.0 h.1)
next_by origin before items low (inl found) = elim (named_or_not found.0 found.1.1 items low) [
  | inl named ↦ inl (named.0, ((found.0, found.1.0, named.1.0), named.1.1))
  | inr none ↦ inr (λ name h. none name (subst (λ above. NamesOrigin above items name) (origin_once origin before h.0 found.0 h.1 found.1.0) h.2))
]

origin_by : (origin : Labels) (before : List Entry) (stated : Option (List RawItem)) → LowOrigin stated → OriginChoice (IsCasedOrigin origin before) → OriginChoice (λ name. MatchOption stated (IsCasedOrigin origin before name) (λ items. (above : Labels) × IsCasedOrigin origin before above × NamesOrigin above items name))
origin_by origin before None low held = held
origin_by origin before (Some items) low held = next_by origin before items low held

-- entries whose items are octets
abbrev pub AreLowEntries : List Entry → Type 0
AreLowEntries entries = AllByRecursion (λ (entry : Entry). AreOctetItems entry.items) entries

pub origin_or_not : (origin : Labels) → IsCasedName origin → (before : List Entry) → AreLowEntries before → OriginChoice (IsCasedOrigin origin before)
origin_or_not origin is [] low = inl (origin, (refl, is))
origin_or_not origin is (entry ∷ before) low = origin_by origin before (origin_items (statement_of entry)) (low_origin entry.first entry.items low.0) (origin_or_not origin is before low.1)

-- ---- the words before the type

ttl_by : (text : List ℕ) → Choice (IsTime text) → Decided (HasValue (ttl text))
ttl_by text (inr none) = inr (λ h. none h.0 h.1.time)
ttl_by text (inl found) = elim (cases_lt greatest_ttl found.0) [
  | inl over ↦ inr (λ h. omega (arith, one_time text h.0 found.0 h.1.time found.1, h.1.short, over))
  | inr short ↦ inl (found.0, record { time = found.1; short = short })
]

holds_by : (n : ℕ) → (n < 65536) ⊎ (65536 ≤ n) → Decided (n ≡ 0) → Decided (n ≡ 254) → Decided (n ≡ 255) → Decided (IsClass n)
holds_by n (inr over) a b c = inr (λ is. omega (arith, over, is.short))
holds_by n (inl short) (inl e) b c = inr (λ is. is.not_zero e)
holds_by n (inl short) (inr a) (inl e) c = inr (λ is. is.not_none e)
holds_by n (inl short) (inr a) (inr b) (inl e) = inr (λ is. is.not_any e)
holds_by n (inl short) (inr a) (inr b) (inr c) = inl (record { short = short; not_zero = a; not_none = b; not_any = c })

class_by : (text : List ℕ) → Choice (IsClassWord text) → Decided (HasValue (class text))
class_by text (inr none) = inr (λ h. none h.0 h.1.0)
class_by text (inl found) = elim (holds_by found.0 (cases_lt found.0 65536) (cases_eq found.0 0) (cases_eq found.0 254) (cases_eq found.0 255)) [
  | inl is ↦ inl (found.0, (found.1, is))
  | inr none ↦ inr (λ h. none (subst IsClass (class_word_once text h.0 found.0 h.1.0 found.1) h.1.1))
]

value_or_not : (word : Word) → Decided (HasValue word)
value_or_not (ttl text) = ttl_by text (time_or_not text)
value_or_not (class text) = class_by text (class_or_not text)

-- ---- the type's word

further_by : (word : List ℕ) (n : ℕ) → IsWord word n → (found : Option FurtherType) → further_type n ≡ found → Choice (IsFurtherWord word)
further_by word n is None e = inr (λ f p. absurd (let same : further_type n ≡ Some f = ap further_type (further_number_once word n f.number is p.named) ∙ p.row in let bad : None ≡ Some f = sym e ∙ same in cc bad))
further_by word n is (Some f) e = let own : n ≡ f.number = (numbered n f e).0 in inl (f, record { named = subst (IsWord word) own is; row = ap further_type (sym own) ∙ e })

pub further_or_not : (word : List ℕ) → Choice (IsFurtherWord word)
further_or_not word = elim (word_or_not further_names (codes "TYPE") further_ascend word) [
  | inr none ↦ inr (λ f p. none f.number p.named)
  | inl found ↦ further_by word found.0 found.1 (further_type found.0) refl
]

-- ---- the class

internet_or_not : (word : Option (List ℕ)) → Decided (MatchOption word (in_class ≡ 1) (λ text. IsClassWord text in_class))
internet_or_not None = inl refl
internet_or_not (Some text) = elim (class_or_not text) [
  | inr none ↦ inr (none in_class)
  | inl found ↦ elim (cases_eq found.0 in_class) [
    | inl same ↦ inl (subst (IsClassWord text) same found.1)
    | inr other ↦ inr (λ h. other (class_word_once text found.0 in_class found.1 h))
  ]
]

if_alone : (alone : Bool) (Holds : Type 0) → Decided Holds → Decided (alone ≡ true → Holds)
if_alone false Holds held = inl (λ e. absurd (false≢true e))
if_alone true Holds (inl held) = inl (λ e. held)
if_alone true Holds (inr none) = inr (λ h. none (h refl))

-- ---- a record of a further type

abbrev pub RecordChoice : List Entry → Entry → Type 0
RecordChoice before entry =
    ((word : List ℕ) × (items : List RawItem) × (further : FurtherType) × IsFurtherRecord before entry word items further)
    ⊎ ((word : List ℕ) (items : List RawItem) (further : FurtherType) → IsFurtherRecord before entry word items further → ⊥)

module _ (before : List Entry) (entry : Entry) (parts : Parts) (split : parts_in (statement_of entry) ≡ Some parts) where
  parts_same : (word : List ℕ) (items : List RawItem) (further : FurtherType) → (is : IsFurtherRecord before entry word items further) → is.parts ≡ parts
  parts_same word items further is = let p : Some is.parts ≡ Some parts = sym is.split ∙ split in cc p

  rest_same : (word : List ℕ) (items : List RawItem) (further : FurtherType) → IsFurtherRecord before entry word items further → bare word ∷ items ≡ parts.rest
  rest_same word items further is = sym is.from_type ∙ ap (λ (p : Parts). p.rest) (parts_same word items further is)

  word_same : (word other : List ℕ) (items others : List RawItem) (further : FurtherType) → parts.rest ≡ bare word ∷ items → IsFurtherRecord before entry other others further → other ≡ word
  word_same word other items others further from is =
      let r : bare other ∷ others ≡ bare word ∷ items = rest_same other others further is ∙ from in
      let h : bare other ≡ bare word = cc r in
      cc h

  named_there : (word other : List ℕ) (items others : List RawItem) (further : FurtherType) → parts.rest ≡ bare word ∷ items → IsFurtherRecord before entry other others further → IsFurtherWord word further
  named_there word other items others further from is = subst (λ w. IsFurtherWord w further) (word_same word other items others further from is) is.named

  by_class : (word : List ℕ) (items : List RawItem) (further : FurtherType) → parts.rest ≡ bare word ∷ items → AllByRecursion HasValue parts.words → IsFurtherWord word further → Decided (further.in_internet_alone ≡ true → HasClass before entry in_class) → RecordChoice before entry
  by_class word items further from values named (inl holds) = inl (word, items, further, record { parts = parts; split = split; values = values; from_type = from; named = named; class = holds })
  by_class word items further from values named (inr none) =
      inr (λ other others as_well is. none (subst (λ (f : FurtherType). f.in_internet_alone ≡ true → HasClass before entry in_class) (further_word_once word as_well further (named_there word other items others as_well from is) named) is.class))

  by_word : (word : List ℕ) (items : List RawItem) → parts.rest ≡ bare word ∷ items → AllByRecursion HasValue parts.words → Choice (IsFurtherWord word) → RecordChoice before entry
  by_word word items from values (inr none) = inr (λ other others further is. none further (named_there word other items others further from is))
  by_word word items from values (inl found) = by_class word items found.0 from values found.1 (if_alone found.0.in_internet_alone (HasClass before entry in_class) (internet_or_not (latest class_word (entry ∷ before))))

  by_rest : (rest : List RawItem) → parts.rest ≡ rest → Decided (AllByRecursion HasValue parts.words) → RecordChoice before entry
  by_rest rest from (inr none) = inr (λ word items further is. none (subst (λ (p : Parts). AllByRecursion HasValue p.words) (parts_same word items further is) is.values))
  by_rest [] from (inl values) = inr (λ word items further is. absurd (let r : bare word ∷ items ≡ [] = rest_same word items further is ∙ from in cc r))
  by_rest (quoted text ∷ rest) from (inl values) = inr (λ word items further is. absurd (let r : bare word ∷ items ≡ quoted text ∷ rest = rest_same word items further is ∙ from in let h : bare word ≡ quoted text = cc r in cc h))
  by_rest (bare text ∷ rest) from (inl values) = by_word text rest from values (further_or_not text)

by_split : (before : List Entry) (entry : Entry) (found : Option Parts) → parts_in (statement_of entry) ≡ found → RecordChoice before entry
by_split before entry None e = inr (λ word items further is. absurd (let bad : None ≡ Some is.parts = sym e ∙ is.split in cc bad))
by_split before entry (Some parts) e = by_rest before entry parts e parts.rest refl (each_or_not HasValue value_or_not parts.words)

pub record_or_not : (before : List Entry) (entry : Entry) → RecordChoice before entry
record_or_not before entry = by_split before entry (parts_in (statement_of entry)) refl

-- ---- its items

pub on_one_line_or_not : (items : List RawItem) → Decided (AreOnOneLine items)
on_one_line_or_not items = each_or_not (λ item. line_feeds_in item ≡ 0) (λ item. cases_eq (line_feeds_in item) 0) items
