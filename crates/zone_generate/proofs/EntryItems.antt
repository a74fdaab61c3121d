-- The items of a `$GENERATE` entry.
use Rattle.std.proofs.Common.{◌≡◌, ◌≢◌, ℕ, suc, ◌+◌, ◌-◌, ◌<◌, ◌≤◌, List, [], ◌∷◌, ◌++◌, length, map, take, get_or, refl, sym, ap, subst, arith, append_assoc, ◌∙◌, Option, Some, None, Bool, true, false, Err}
use Rattle.std.proofs.lemmas.Grind.{common_steps}
use Rattle.std.proofs.Math.Seq.{take-append_seam}
use Rattle.std.proofs.lemmas.List.{append-nil, length-append, length-map, take-map}
use Rattle.std.specs.List.{flat_map}
use Rattle.std.specs.Prelude.{is_some}
use Rattle.zone_rdata.specs.Item.{RawItem, bare, quoted}
use Rattle.zone_text.proofs.Heads.WordsLeft.{class_joined, next_part, ttl_joined}
use Rattle.zone_text.specs.Statements.{Parts, Word, ttl_among, class_among, parts_after, word_after}
use Rattle.zone_rdata.specs.Item.{raw}
use Rattle.zone_rdata.specs.declared.item.Item.{Item}
use Rattle.zone_generate.specs.Entry.{Stated, generation_by, generation_in, stated_in, template_in, with_type, word_and_blank}
use Rattle.zone_generate.specs.Machine.{item_and_blank}
use Rattle.zone_generate.specs.declared.failing.GenerateFault.TheVariants.{BadGenerate}

-- ---- items that are parts

-- the words of parts are the items before the type
pub record ArePart (words : List Word) (items : List RawItem) (parts : Parts) : Type 0 where
  pub front : List RawItem
  pub more : List Word
  pub items_are : items ≡ front ++ parts.rest
  pub words_are : parts.words ≡ words ++ more
  pub written : flat_map item_and_blank front ≡ flat_map word_and_blank more
  pub count : length front ≡ length more

word_is : (words : List Word) (item : RawItem) (word : Word) → word_after words item ≡ Some word → item_and_blank item ≡ word_and_blank word
word_is words (quoted text) word e = absurd cc
word_is words (bare text) word e = grind arith

part_by : (item : RawItem) (items : List RawItem) (words : List Word) (o : Option Word) → word_after words item ≡ o → ((word : Word) → ArePart (words ++ word ∷ []) items (parts_after (words ++ word ∷ []) items)) → ArePart words (item ∷ items) (parts_after words (item ∷ items))
part_by item items words None e goes = subst (ArePart words (item ∷ items)) (sym (next_part words item items None e)) (record { front = []; more = []; items_are = refl; words_are = sym (append-nil words); written = refl; count = refl })
part_by item items words (Some word) e goes =
    let found = goes word in
    subst (ArePart words (item ∷ items)) (sym (next_part words item items (Some word) e)) (record {
      front = item ∷ found.front;
      more = word ∷ found.more;
      items_are = ap (λ t. item ∷ t) found.items_are;
      words_are = found.words_are ∙ append_assoc words (word ∷ []) found.more;
      written = ap (λ t. t ++ flat_map item_and_blank found.front) (word_is words item word e) ∙ ap (λ t. word_and_blank word ++ t) found.written;
      count = ap (λ n. suc n) found.count;
    })

pub are_part : (items : List RawItem) (words : List Word) → ArePart words items (parts_after words items)
are_part [] words = record { front = []; more = []; items_are = refl; words_are = sym (append-nil words); written = refl; count = refl }
are_part (item ∷ items) words = part_by item items words (word_after words item) refl (λ word. are_part items (words ++ word ∷ []))

-- ---- there are few items

-- one for each kind of word
abbrev number : Bool → ℕ
number true = 1
number false = 0

abbrev FewWords : List Word → Type 0
FewWords words = length words ≤ number (is_some (ttl_among words)) + number (is_some (class_among words))

few_more : (words : List Word) (item : RawItem) (word : Word) → word_after words item ≡ Some word → FewWords words → FewWords (words ++ word ∷ [])
few_more words item word e few = grind (arith, common_steps, ttl_joined, class_joined)

few_by : (item : RawItem) (items : List RawItem) (words : List Word) (o : Option Word) → word_after words item ≡ o → FewWords words → ((word : Word) → FewWords (words ++ word ∷ []) → FewWords (parts_after (words ++ word ∷ []) items).words) → FewWords (parts_after words (item ∷ items)).words
few_by item items words None e few goes = subst (λ (p : Parts). FewWords p.words) (sym (next_part words item items None e)) few
few_by item items words (Some word) e few goes = subst (λ (p : Parts). FewWords p.words) (sym (next_part words item items (Some word) e)) (goes word (few_more words item word e few))

few_words : (items : List RawItem) (words : List Word) → FewWords words → FewWords (parts_after words items).words
few_words [] words few = few
few_words (item ∷ items) words few = few_by item items words (word_after words item) refl few (λ word. few_words items (words ++ word ∷ []))

at_most_two : (words : List Word) → FewWords words → length words ≤ 2
at_most_two words few = two (is_some (ttl_among words)) (is_some (class_among words)) (length words) few
  where
    two : (a b : Bool) (n : ℕ) → n ≤ number a + number b → n ≤ 2
    two true true n le = le
    two true false n le = omega arith
    two false true n le = omega arith
    two false false n le = omega arith

type_and_data : (range owner : List ℕ) (words : List Word) (rest : List RawItem) (stated : Stated) → with_type range owner words rest ≡ Some stated → length rest ≡ 2
type_and_data range owner words (bare kind ∷ item ∷ []) stated e = refl
type_and_data range owner words [] stated e = absurd cc
type_and_data range owner words (quoted text ∷ rest) stated e = absurd cc
type_and_data range owner words (bare kind ∷ []) stated e = absurd cc
type_and_data range owner words (bare kind ∷ item ∷ other ∷ rest) stated e = absurd cc

few_items : (items : List RawItem) (stated : Stated) → stated_in items ≡ Some stated → length items < 7
few_items [] stated e = absurd cc
few_items (quoted range ∷ items) stated e = absurd cc
few_items (bare range ∷ []) stated e = absurd cc
few_items (bare range ∷ quoted owner ∷ items) stated e = absurd cc
few_items (bare range ∷ bare owner ∷ items) stated e =
    let parts = parts_after [] items in
    let found = are_part items [] in
    let two : length parts.rest ≡ 2 = type_and_data range owner parts.words parts.rest stated e in
    let few : length parts.words ≤ 2 = at_most_two parts.words (few_words items [] (omega arith)) in
    let all : length items ≡ length found.front + length parts.rest = ap length found.items_are ∙ length-append found.front parts.rest in
    let same : length found.front ≡ length parts.words = found.count ∙ ap length (sym found.words_are) in
    omega (arith, two, few, all, same)

pub many_items : (items : List RawItem) → 7 ≤ length items → generation_in items ≡ Err BadGenerate
many_items items many = by (stated_in items) refl
  where
    by : (o : Option Stated) → stated_in items ≡ o → generation_in items ≡ Err BadGenerate
    by None e = ap generation_by e
    by (Some stated) e = absurd (omega (arith, few_items items stated e, many))

-- ---- the items between the owner and the type

pub type_behind : (rest from_type : List Item) → (parts_after [] (map raw rest)).rest ≡ map raw from_type → length from_type ≤ length rest
type_behind rest from_type is =
    let found = are_part (map raw rest) [] in
    let all : length rest ≡ length found.front + length from_type = sym (length-map rest raw) ∙ ap length found.items_are ∙ length-append found.front (parts_after [] (map raw rest)).rest ∙ ap (λ n. length found.front + n) (ap length is ∙ length-map from_type raw) in
    omega (arith, all)

pub middle_is : (rest from_type words : List Item) (n : ℕ) → (parts_after [] (map raw rest)).rest ≡ map raw from_type → words ≡ take n rest → n ≡ length rest - length from_type → flat_map item_and_blank (map raw words) ≡ flat_map word_and_blank (parts_after [] (map raw rest)).words
middle_is rest from_type words n is front count =
    let parts = parts_after [] (map raw rest) in
    let found = are_part (map raw rest) [] in
    let all : length rest ≡ length found.front + length from_type = sym (length-map rest raw) ∙ ap length found.items_are ∙ length-append found.front parts.rest ∙ ap (λ n. length found.front + n) (ap length is ∙ length-map from_type raw) in
    let size : n ≡ length found.front = omega (arith, all, count) in
    let cut : map raw words ≡ found.front =
    ap (map raw) front ∙ sym (take-map raw n rest) ∙ ap (λ k. take k (map raw rest)) size ∙ ap (take (length found.front)) found.items_are ∙ take-append_seam found.front parts.rest
    in
    ap (flat_map item_and_blank) cut ∙ found.written ∙ ap (flat_map word_and_blank) (sym found.words_are)

-- ---- what the items state

pub states_by : (items rest more from_type those : List Item) (range owner kind : List ℕ) → map raw items ≡ bare range ∷ map raw rest → map raw rest ≡ bare owner ∷ map raw more → (parts_after [] (map raw more)).rest ≡ map raw from_type → map raw from_type ≡ bare kind ∷ map raw those → stated_in (map raw items) ≡ with_type range owner (parts_after [] (map raw more)).words (bare kind ∷ map raw those)
states_by items rest more from_type those range owner kind first second third fourth =
    ap stated_in (first ∙ ap (λ t. bare range ∷ t) second) ∙ ap (with_type range owner (parts_after [] (map raw more)).words) (third ∙ fourth)

other_data : (those : List Item) (range owner kind : List ℕ) (words : List Word) → length those ≢ 1 → with_type range owner words (bare kind ∷ map raw those) ≡ None
other_data [] range owner kind words other = refl
other_data (x ∷ []) range owner kind words other = absurd (other refl)
other_data (x ∷ y ∷ those) range owner kind words other = refl

pub states_none : (items rest more from_type those : List Item) (range owner kind : List ℕ) → map raw items ≡ bare range ∷ map raw rest → map raw rest ≡ bare owner ∷ map raw more → (parts_after [] (map raw more)).rest ≡ map raw from_type → map raw from_type ≡ bare kind ∷ map raw those → length those ≢ 1 → stated_in (map raw items) ≡ None
states_none items rest more from_type those range owner kind first second third fourth other =
    states_by items rest more from_type those range owner kind first second third fourth ∙ other_data those range owner kind (parts_after [] (map raw more)).words other

one_datum : (those : List Item) (d : Item) → length those ≡ 1 → those ≡ get_or those 0 d ∷ []
one_datum [] d one = absurd (omega (arith, one))
one_datum (x ∷ []) d one = refl
one_datum (x ∷ y ∷ those) d one = absurd (omega (arith, one))

pub states_some : (items rest more from_type those words : List Item) (d : Item) (n : ℕ) (range owner kind : List ℕ) → map raw items ≡ bare range ∷ map raw rest → map raw rest ≡ bare owner ∷ map raw more → (parts_after [] (map raw more)).rest ≡ map raw from_type → map raw from_type ≡ bare kind ∷ map raw those → length those ≡ 1 → words ≡ take n more → n ≡ length more - length from_type → stated_in (map raw items) ≡ Some (record { range = range; templates = record { owner = owner; middle = flat_map item_and_blank (map raw words) ++ kind; rdata = template_in (raw (get_or those 0 d)) } })
states_some items rest more from_type those words d n range owner kind first second third fourth one front count =
    let parts = parts_after [] (map raw more) in
    let x = get_or those 0 d in
    states_by items rest more from_type those range owner kind first second third fourth
    ∙ ap (λ t. with_type range owner parts.words (bare kind ∷ map raw t)) (one_datum those d one)
    ∙ ap (λ m. Some (record { range = range; templates = record { owner = owner; middle = m ++ kind; rdata = template_in (raw x) } })) (sym (middle_is more from_type words n third front count))
