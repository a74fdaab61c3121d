-- Lines of items, and entries that state every part of a record.
use Rattle.zone_text.proofs.Common.{HasClass, HasContents, HasValue, IsKind, IsKindWord, IsOwner, States, common_steps, AllByRecursion, AllFollow, Bool, Cuts, Entry, EntryStates, IsItem, IsOrigin, IsToken, Labels, List, None, Parts, Record, Some, StatesWhole, Token, Word, [], begins_with_digit, class, cut_from, depth_after, entries_of, entry_of, false, flat_map, if◌then◌else◌, is_class_word, item_of, line_of, owned, parts_after, parts_in, refl, rules, statement_of, text, true, ttl, unless_stated, zero, ℕ, ◌∷◌, ◌≡◌, arith}
use Rattle.zone_rdata.specs.Spelling.{RawItem}
use Rattle.zone_rdata.specs.Spelling as raw
use Rattle.zone_text.proofs.Heads.ClassWords.{time_first, class_word_first, class_word_known}
use Rattle.zone_text.proofs.Heads.WordsLeft.{next_part}

-- ---- the line of items

each_token : (items : List Token) → AllByRecursion IsItem items → AllByRecursion IsToken (line_of items)
each_token [] are = (tt, tt)
each_token (item ∷ []) are = ((search (rules, are.0)), (tt, tt))
each_token (item ∷ next ∷ items) are = ((search (rules, are.0)), (refl, each_token (next ∷ items) are.1))

all_follow : (items : List Token) → AllByRecursion IsItem items → AllFollow (line_of items)
all_follow [] are = tt
all_follow (item ∷ []) are = ((search (rules, are.0)), tt)
all_follow (item ∷ next ∷ items) are = ((search (rules, are.0)), (search (rules, all_follow (next ∷ items) are.1)))

line_depth : (items : List Token) → AllByRecursion IsItem items → depth_after zero (line_of items) ≡ Some zero
line_depth [] are = refl
line_depth (item ∷ []) are = search (rules, are.0)
line_depth (item ∷ next ∷ items) are = search (rules, are.0, line_depth (next ∷ items) are.1)

pub line_cut : (items : List Token) → AllByRecursion IsItem items → Cuts (text (line_of items)) (line_of items)
line_cut items are = search (rules, each_token, all_follow, line_depth)

pub line_ended : (items : List Token) → AllByRecursion IsItem items → cut_from zero (line_of items) ≡ record { ended = line_of items ∷ []; open_tokens = [] }
line_ended [] are = refl
line_ended (item ∷ []) are = search (rules, are.0)
line_ended (item ∷ next ∷ items) are = search (rules, are.0, line_ended (next ∷ items) are.1)

pub line_entry : (items : List Token) → AllByRecursion IsItem items → entries_of (line_of items) ≡ entry_of 1 (line_of items) ∷ []
line_entry items are = search (rules, line_ended)

pub line_items : (items : List Token) → flat_map item_of (line_of items) ≡ flat_map item_of items
line_items (item ∷ next ∷ items) = search (rules, line_items (next ∷ items))
line_items items = refl

-- ---- the entry that states every part

-- after a TTL and a class comes no word
third_by : (a b : Bool) (s t : List ℕ) (v w : Word) → (if a then unless_stated (Some s) v else if b then unless_stated (Some t) w else None) ≡ None
third_by a b s t v w = grind arith

-- the parts of an entry whose items are a TTL, a class, a type and more
pub whole_parts : (ttl_word class_word kind_word : List ℕ) (items : List RawItem) → begins_with_digit ttl_word ≡ true → begins_with_digit class_word ≡ false → is_class_word class_word ≡ true → parts_after [] (raw.bare ttl_word ∷ raw.bare class_word ∷ raw.bare kind_word ∷ items) ≡ record { words = ttl ttl_word ∷ class class_word ∷ []; rest = raw.bare kind_word ∷ items }
whole_parts ttl_word class_word kind_word items is_ttl no_ttl is_class = cc (next_part [] (raw.bare ttl_word) (raw.bare class_word ∷ raw.bare kind_word ∷ items) (Some (ttl ttl_word)) (rw is_ttl refl), next_part (ttl ttl_word ∷ []) (raw.bare class_word) (raw.bare kind_word ∷ items) (Some (class class_word)) (rw (no_ttl, is_class) refl), next_part (ttl ttl_word ∷ class class_word ∷ []) (raw.bare kind_word) items None (third_by (begins_with_digit kind_word) (is_class_word kind_word) ttl_word class_word (ttl kind_word) (class kind_word)))

-- what an entry states, by its words, its owner, its class, its type and the items of its data
pub contents_by : (origin : List (List ℕ)) (before : List Entry) (entry : Entry) (owner above : List (List ℕ)) (number kind : ℕ) (words : List Word) (word : List ℕ) (items : List RawItem) (octets : List ℕ) → parts_in (statement_of entry) ≡ Some (record { words = words; rest = raw.bare word ∷ items }) → IsOwner origin before (statement_of entry) owner → AllByRecursion HasValue words → HasClass before entry number → IsOrigin origin before above → IsKindWord word kind → IsKind kind → States above number kind items octets → HasContents origin before entry owner (record { class = number; kind = kind; octets = octets })
contents_by origin before entry owner above number kind words word items octets split owns values has under_it named is states = grind (arith, common_steps, raw.bare)

-- the form of the entry is that of a record with its owner
pub whole_form : (entry : Entry) (r : Record) (s : StatesWhole entry r) → statement_of entry ≡ owned (raw.bare s.owner_text) (raw.bare s.ttl_text ∷ raw.bare s.class_word ∷ raw.bare s.kind_word ∷ s.items)
whole_form entry r s = rw s.whole (search (rules, s.begins))

pub whole_stated : (origin above : Labels) (before : List Entry) (entry : Entry) (r : Record) → IsOrigin origin before above → StatesWhole entry r → EntryStates origin before entry r
whole_stated origin above before entry r under s =
    let parts : Parts = record { words = ttl s.ttl_text ∷ class s.class_word ∷ []; rest = raw.bare s.kind_word ∷ s.items } in
    let form = whole_form entry r s in
    let split : parts_in (statement_of entry) ≡ Some parts = rw (form, whole_parts s.ttl_text s.class_word s.kind_word s.items (time_first _ _ s.ttl) (class_word_first _ _ s.class) (class_word_known _ _ s.class)) refl in
    let words : AllByRecursion HasValue parts.words = ((r.ttl, record { time = s.ttl; short = s.fits.ttl }), ((r.class, (s.class, s.fits.rdata.class)), tt)) in
    record {
      contents = contents_by origin before entry r.owner above r.class r.kind parts.words s.kind_word s.items r.octets split (rw form (above, (under, s.owner above))) words (rw split s.class) under s.kind s.fits.rdata.kind (s.rdata above);
      ttl = rw split s.ttl;
      fits = s.fits;
    }

-- an entry that states every part of a record sets no origin
pub whole_leaves_origin : (origin above : Labels) (before : List Entry) (entry : Entry) (r : Record) → IsOrigin origin before above → StatesWhole entry r → IsOrigin origin (entry ∷ before) above
whole_leaves_origin origin above before entry r under s = search rules

pub ruleset canonical_lines = (line_cut, line_entry, line_items, line_ended)
