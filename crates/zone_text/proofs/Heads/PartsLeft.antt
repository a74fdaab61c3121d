-- The words before a record's type as they are written, found from the left.
use Rattle.zone_text.proofs.Common.{arith, common_steps, AllByRecursion, HasValue, HaveTexts, IfSome, IsSomeAnd, List, None, Option, RawItem, Some, Word, [], ap, class, class_among, parts_after, refl, subst, sym, ttl, ttl_among, word_after, map, raw, ℕ, ◌++◌, ◌∙◌, ◌∷◌, ◌≡◌}
use Rattle.zone_rdata.specs.Item.{bare}
use Rattle.zone_text.proofs.Heads.WordsLeft.{class_joined, next_part, no_bare, parts_by, some_of, ttl_joined}
use Rattle.zone_text.specs.PartsIn.{ArePartsIn}
use Rattle.zone_text.specs.declared.parts.RecordParts.{RecordParts}

-- ---- all words

-- the words found so far have these texts, and the items left follow them
pub record ReadsTexts (items : List RawItem) (found : RecordParts) : Type 0 where
  pub words : List Word
  pub have : HaveTexts words found
  pub parts : parts_after [] items ≡ parts_after words (map raw found.rest.now)

-- the items left are those from the type on
pub are_found : (items : List RawItem) (found : RecordParts) → (reads : ReadsTexts items found) → parts_after reads.words (map raw found.rest.now) ≡ record { words = reads.words; rest = map raw found.rest.now } → ArePartsIn (parts_after [] items) found
are_found items found reads end = subst (λ p. ArePartsIn p found) (sym (reads.parts ∙ end)) (record { ttl = reads.have.ttl; class = reads.have.class; rest = refl })

-- the next item is no word
pub found_before : (items after : List RawItem) (item : RawItem) (found : RecordParts) → ReadsTexts items found → map raw found.rest.now ≡ item ∷ after → ((words : List Word) → HaveTexts words found → word_after words item ≡ None) → ArePartsIn (parts_after [] items) found
found_before items after item found reads front none =
    are_found items found reads (rw front (next_part reads.words item after None (none reads.words reads.have)))

-- no bare item is left
pub found_all : (items : List RawItem) (found : RecordParts) → ReadsTexts items found → ((text : List ℕ) (rest : List RawItem) → map raw found.rest.now ≡ bare text ∷ rest → ⊥) → ArePartsIn (parts_after [] items) found
found_all items found reads none = are_found items found reads (no_bare reads.words (map raw found.rest.now) none)

-- the next item is a word
pub found_more : (items : List RawItem) (found next : RecordParts) (item : RawItem) → ReadsTexts items found → map raw found.rest.now ≡ item ∷ map raw next.rest.now → ((words : List Word) → HaveTexts words found → IsSomeAnd (word_after words item) (λ word. HaveTexts (words ++ word ∷ []) next)) → ReadsTexts items next
found_more items found next item reads front some =
    let word = some_of (λ word. HaveTexts (reads.words ++ word ∷ []) next) (word_after reads.words item) (some reads.words reads.have) in
    record {
      words = reads.words ++ word.0 ∷ [];
      have = word.1.1;
      parts = reads.parts ∙ (ap (parts_after reads.words) front ∙ next_part reads.words item (map raw next.rest.now) (Some word.0) word.1.0);
    }

-- ---- whether the words have values

-- the TTL and the class among words have values
abbrev HasTtl : List Word → Type 0
HasTtl words = IfSome (ttl_among words) (λ text. HasValue (ttl text))

abbrev HasClass : List Word → Type 0
HasClass words = IfSome (class_among words) (λ text. HasValue (class text))

-- those are all words
abbrev AreAll : List Word → Type 0
AreAll words = HasTtl words → HasClass words → AllByRecursion HasValue words

all_word : (words : List Word) (item : RawItem) (word : Word) → word_after words item ≡ Some word → AreAll words → AreAll (words ++ word ∷ [])
all_word words item word e all = grind (arith, common_steps, ttl_joined, class_joined)

all_by : (words : List Word) (item : RawItem) (items : List RawItem) (o : Option Word) → word_after words item ≡ o → AreAll words → ((word : Word) → AreAll (words ++ word ∷ []) → AreAll (parts_after (words ++ word ∷ []) items).words) → AreAll (parts_after words (item ∷ items)).words
all_by words item items None e all goes = subst (λ p. AreAll p.words) (sym (next_part words item items None e)) all
all_by words item items (Some word) e all goes = subst (λ p. AreAll p.words) (sym (next_part words item items (Some word) e)) (goes word (all_word words item word e all))

pub all_words : (words : List Word) (items : List RawItem) → AreAll words → AreAll (parts_after words items).words
all_words words [] all = all
all_words words (item ∷ items) all = all_by words item items (word_after words item) refl all (λ word. all_words (words ++ word ∷ []) items)

-- one among words that have values has one
ttl_among_has : (words : List Word) → AllByRecursion HasValue words → HasTtl words
ttl_among_has [] each = tt
ttl_among_has (word ∷ words) each = grind (arith, ttl_among_has words each.1)

class_among_has : (words : List Word) → AllByRecursion HasValue words → HasClass words
class_among_has [] each = tt
class_among_has (word ∷ words) each = grind (arith, class_among_has words each.1)

-- the words of parts that are found have values, or not
pub all_have : (items : List RawItem) (found : RecordParts) → IfSome found.ttl (λ text. HasValue (ttl text.now)) → IfSome found.class (λ text. HasValue (class text.now)) → ArePartsIn (parts_after [] items) found → AllByRecursion HasValue (parts_after [] items).words
all_have items found has_ttl has_class are =
    grind (arith, all_words [] items (λ t k. tt))

pub no_ttl_value : (items : List RawItem) (found : RecordParts) → IsSomeAnd found.ttl (λ text. HasValue (ttl text.now) → ⊥) → ArePartsIn (parts_after [] items) found → AllByRecursion HasValue (parts_after [] items).words → ⊥
no_ttl_value items found has_none are each = grind (arith, ttl_among_has (parts_after [] items).words each)

pub no_class_value : (items : List RawItem) (found : RecordParts) → IsSomeAnd found.class (λ text. HasValue (class text.now) → ⊥) → ArePartsIn (parts_after [] items) found → AllByRecursion HasValue (parts_after [] items).words → ⊥
no_class_value items found has_none are each = grind (arith, class_among_has (parts_after [] items).words each)

-- ---- the items behind the words

-- the items from the type on are the last of all
pub parts_behind : (words : List Word) (items : List RawItem) → (front : List RawItem) × (items ≡ front ++ (parts_after words items).rest)
parts_behind words [] = ([], refl)
parts_behind words (item ∷ items) = elim (word_after words item) as (λ o. (front : List RawItem) × (item ∷ items ≡ front ++ (parts_by words item items o).rest)) [
  | None ↦ ([], refl)
  | Some word ↦ let more = parts_behind (words ++ word ∷ []) items in (item ∷ more.0, ap (λ t. item ∷ t) more.1)
]

pub ruleset head_words = (all_have, no_class_value, no_ttl_value)
