-- The words before a record's type, read from the left.
use Rattle.zone_rdata.proofs.Numbers.TimeLaws.{one_time}
use Rattle.zone_text.proofs.Common.{option_or, AllByRecursion, AllByRecursion-append, AreWordsOf, Bool, Entry, EntryFault, Fault, HasHead, HasValue, HaveValues, IsClass, IsClassWord, IsKind, IsKindWord, IsRecordEntry, IsSomeAnd, IsTime, IsTtl, IsWordFault, Item, Labels, List, None, NothingIs, Option, ParserState, Parts, PartsFault, RawItem, Some, UnknownType, Word, WordFault, Words, [], add-one, ap, append-nil, append_assoc, arith, begins_with_digit, class, class_among, drop, drop-cons, drop-map, false, get_or, inr, is_class_word, is_some, length, map, min, of_parts, parts_after, raw, refl, rules, subst, sym, true, ttl, ttl_among, unwrap_or, word_after, ℕ, ◌++◌, ◌+◌, ◌<◌, ◌∙◌, ◌∷◌, ◌≡◌, ◌≤◌}
use Rattle.zone_rdata.specs.Spelling.{bare, quoted}
use Rattle.zone_text.proofs.Heads.ClassWords.{class_word_of, class_word_known}

-- ---- one word more

pub ttl_joined : (words more : List Word) → ttl_among (words ++ more) ≡ option_or (ttl_among words) (ttl_among more)
ttl_joined [] more = refl
ttl_joined (word ∷ words) more = grind (arith, ttl_joined words more)

pub class_joined : (words more : List Word) → class_among (words ++ more) ≡ option_or (class_among words) (class_among more)
class_joined [] more = refl
class_joined (word ∷ words) more = grind (arith, class_joined words more)

pub takes_ttl : (words : List Word) (v next : Words) (text : List ℕ) (n : ℕ) → HaveValues words v → begins_with_digit text ≡ true → is_some v.ttl ≡ false → IsTtl text n → next.ttl ≡ Some n → next.class ≡ v.class → IsSomeAnd (word_after words (bare text)) (λ word. HaveValues (words ++ word ∷ []) next)
takes_ttl words v next text n have digit none is own same =
    let before : ttl_among words ≡ None = grind arith in
    rw (digit, before) (record {
      each = AllByRecursion-append HasValue words (ttl text ∷ []) have.each ((n, is), tt);
      ttl = rw (ttl_joined, before, own) is;
      class = grind (arith, class_joined);
    })

pub takes_class : (words : List Word) (v next : Words) (text : List ℕ) (n : ℕ) → HaveValues words v → begins_with_digit text ≡ false → is_some v.class ≡ false → IsClassWord text n → IsClass n → next.class ≡ Some n → next.ttl ≡ v.ttl → IsSomeAnd (word_after words (bare text)) (λ word. HaveValues (words ++ word ∷ []) next)
takes_class words v next text n have no_digit none is good own same =
    grind (arith, AllByRecursion-append, class_joined, ttl_joined, class_word_known text n is)

-- a class that holds no zone data
pub refuses_class : (words : List Word) (v : Words) (text : List ℕ) (n : ℕ) (fault : Fault) → HaveValues words v → begins_with_digit text ≡ false → is_some v.class ≡ false → IsClassWord text n → WordFault (class text) fault → IsSomeAnd (word_after words (bare text)) (λ word. WordFault word fault)
refuses_class words v text n fault have no_digit none is bad = grind (arith, class_word_known text n is)

pub no_class_word : (text : List ℕ) (b : Bool) → is_class_word text ≡ b → NothingIs (IsClassWord text) → b ≡ false
no_class_word text true e none = let found = class_word_of text e in absurd (none found.0 found.1)
no_class_word text false e none = refl

-- neither a digit nor a class's word
pub no_word : (words : List Word) (text : List ℕ) → begins_with_digit text ≡ false → NothingIs (IsClassWord text) → word_after words (bare text) ≡ None
no_word words text no_digit none = rw (no_digit, no_class_word text (is_class_word text) refl none) refl

-- ---- all words

-- the parts by what the next item is
abbrev pub parts_by : List Word → RawItem → List RawItem → Option Word → Parts
parts_by words item items None = record { words = words; rest = item ∷ items }
parts_by words item items (Some word) = parts_after (words ++ word ∷ []) items

pub next_part : (words : List Word) (item : RawItem) (items : List RawItem) (o : Option Word) → word_after words item ≡ o → parts_after words (item ∷ items) ≡ parts_by words item items o
next_part words item items o e = ap (parts_by words item items) e

-- the words read so far have these values, and the items left follow them
pub record ReadsWords (items : List RawItem) (values : Words) (rest : List RawItem) : Type 0 where
  pub words : List Word
  pub have : HaveValues words values
  pub parts : parts_after [] items ≡ parts_after words rest

-- the next item is no word
pub read_to : (items rest more : List RawItem) (v : Words) (item : RawItem) → ReadsWords items v rest → rest ≡ item ∷ more → ((words : List Word) → HaveValues words v → word_after words item ≡ None) → AreWordsOf (parts_after [] items) v rest
read_to items rest more v item reads front none = search rules

-- no word is left where no bare item is
pub no_bare : (words : List Word) (rest : List RawItem) → ((text : List ℕ) (more : List RawItem) → rest ≡ bare text ∷ more → ⊥) → parts_after words rest ≡ record { words = words; rest = rest }
no_bare words [] none = refl
no_bare words (bare text ∷ rest) none = absurd (none text rest refl)
no_bare words (quoted text ∷ rest) none = refl

pub some_of : (P : Word → Type 0) (o : Option Word) → IsSomeAnd o P → (word : Word) × ((o ≡ Some word) × P word)
some_of P o h = search rules

-- whatever follows words, they stand before it
extends : (items : List RawItem) (words : List Word) → (others : List Word) × ((parts_after words items).words ≡ words ++ others)
extends [] words = ([], sym (append-nil words))
extends (item ∷ items) words = elim (word_after words item) as (λ o. (others : List Word) × ((parts_by words item items o).words ≡ words ++ others)) [
  | None ↦ ([], sym (append-nil words))
  | Some word ↦ let more = extends items (words ++ word ∷ []) in (word ∷ more.0, more.1 ∙ append_assoc words (word ∷ []) more.0)
]

-- the fault of what stands after words that have values
past_words : (words more : List Word) (rest : List RawItem) (fault : Fault) → AllByRecursion HasValue words → PartsFault more rest fault → PartsFault (words ++ more) rest fault
past_words [] more rest fault have bad = bad
past_words (word ∷ words) more rest fault have bad = inr (have.0, past_words words more rest fault have.1 bad)

-- the next item is a word without a value
pub read_fault : (items rest more : List RawItem) (v : Words) (item : RawItem) (fault : Fault) → ReadsWords items v rest → rest ≡ item ∷ more → ((words : List Word) → HaveValues words v → IsSomeAnd (word_after words item) (λ word. WordFault word fault)) → PartsFault (parts_after [] items).words (parts_after [] items).rest fault
read_fault items rest more v item fault reads front some =
    let found = some_of (λ word. WordFault word fault) (word_after reads.words item) (some reads.words reads.have) in
    let parts : parts_after [] items ≡ parts_after (reads.words ++ found.0 ∷ []) more =
    reads.parts ∙ (ap (parts_after reads.words) front ∙ next_part reads.words item more (Some found.0) found.1.0)
    in
    let others = extends more (reads.words ++ found.0 ∷ []) in
    grind (arith, some_of, next_part, extends, append_assoc, past_words)

-- the item at an index is the first of those from there on
pub item_at : (items : List Item) (i : ℕ) (d x : Item) → i < length items → get_or items i d ≡ x → drop i (map raw items) ≡ raw x ∷ drop (i + 1) (map raw items)
item_at items i d x less is = search (rules, add-one, drop-cons, drop-map)

-- ---- a time that is not cut off is itself

pub time_within : (text : List ℕ) (n : ℕ) → ((m : ℕ) × (IsTime text m × (n ≡ min 4294967296 m))) → n ≤ 2147483647 → IsTime text n
time_within text n found few =
    let same : found.0 ≡ n = omega (arith, found.1.1) in
    rw same at (found.1.0)

-- a time that is too long, cut off or not, is no TTL
pub time_over : (text : List ℕ) (n : ℕ) → ((m : ℕ) × (IsTime text m × (n ≡ min 4294967296 m))) → 2147483647 < n → (seconds : ℕ) → IsTtl text seconds → ⊥
time_over text n found over seconds is = grind (arith, one_time text found.0 seconds found.1.0 is.time)

-- ---- what a record states before its data, where the state is known

kind_refused : (origin : Labels) (before : List Entry) (entry : Entry) (d : ParserState) (name : Labels) (items after : List RawItem) (values : Words) (fault : Fault) → IsRecordEntry origin before entry d name items → AreWordsOf (parts_after [] items) values after → PartsFault [] after fault → EntryFault origin before entry fault
kind_refused origin before entry d name items after values fault is are bad =
    of_parts name (parts_after [] items) is.owner is.parts (simp append-nil at (past_words (parts_after [] items).words [] (parts_after [] items).rest fault are.words.each (rw are.rest bad)))

-- nothing bare stands at the type's place
pub kind_missing : (origin : Labels) (before : List Entry) (entry : Entry) (d : ParserState) (name : Labels) (items after : List RawItem) (values : Words) → IsRecordEntry origin before entry d name items → AreWordsOf (parts_after [] items) values after → ((text : List ℕ) (rest : List RawItem) → after ≡ bare text ∷ rest → ⊥) → EntryFault origin before entry UnknownType
kind_missing origin before entry d name items after values is are none = kind_refused origin before entry d name items after values UnknownType is are (search rules)

-- the word at the type's place is none of a type
pub kind_unknown : (origin : Labels) (before : List Entry) (entry : Entry) (d : ParserState) (name : Labels) (items after more : List RawItem) (values : Words) (word : List ℕ) (fault : Fault) → IsRecordEntry origin before entry d name items → AreWordsOf (parts_after [] items) values after → after ≡ bare word ∷ more → IsWordFault word fault → EntryFault origin before entry fault
kind_unknown origin before entry d name items after more values word fault is are front bad =
    kind_refused origin before entry d name items after values fault is are (subst (λ rest. PartsFault [] rest fault) (sym front) bad)

pub has_head : (origin : Labels) (before : List Entry) (entry : Entry) (d : ParserState) (name : Labels) (items after more : List RawItem) (values : Words) (word : List ℕ) (class kind : ℕ) → IsRecordEntry origin before entry d name items → AreWordsOf (parts_after [] items) values after → after ≡ bare word ∷ more → IsKindWord word kind → IsKind kind → class ≡ unwrap_or values.class d.class → HasHead origin before entry name class kind more
has_head origin before entry d name items after more values word number kind is are front named good e = search rules

pub after_words : (items rest : List Item) (n : ℕ) (more : List RawItem) → rest ≡ drop n items → map raw rest ≡ more → drop n (map raw items) ≡ more
after_words items rest n more back e = drop-map raw n items ∙ (ap (map raw) (sym back) ∙ e)

pub ruleset one_more = (ttl_joined, class_joined)
