-- An entry of very many items has the fault that it has where some that spell strings are left out,
-- and states nothing.
use Rattle.zone_text.proofs.Common.{AllByRecursion, AreKept, AreShortened, Bool, Cuts, Data, DecidesEntry, Entry, EntryFault, Fault, HasContents, HasHeadOf, Head, IsOwner, IsWritten, Labels, LeavesOut, List, None, Option, ParserState, Parts, PartsFault, PendingRecords, Place, RawItem, Some, Statement, StatementFault, StatesNothing, Token, Word, [], after_item, ap, are_many, arith, begin_with, class, class_among, class_word, common_steps, data_of, decides_fault, decides_none, decides_one, directive, entry_of, false, fault_of_all, flat_map, if◌then◌else◌, includes, inl, inr, is_blank, item_of, length, no_items, of_parts, of_rdata, of_statement, of_ttl, one_bare, owned, parts_after, parts_in, refl, rules, sets_origin, sets_ttl, slice_get, state_none, statement_by, statement_of, subst, sym, true, ttl, ttl_among, unknown, unless_stated, unowned, word_after, ℕ, ⊤, ◌++◌, ◌+◌, ◌==◌, ◌∙◌, ◌∷◌, ◌≡◌, ◌≤◌}
use Rattle.zone_rdata.specs.Item.{bare}
use Rattle.zone_text.proofs.Entries.Kept.{items_written}
use Rattle.zone_text.proofs.Heads.WordsLeft.{class_joined, parts_by, ttl_joined}

-- many items, written ones, and those that are kept
pub record Long (n : ℕ) (items kept : List RawItem) : Type 0 where
  pub short : AreShortened n items kept
  pub written : AllByRecursion IsWritten items

-- ---- parts

pub record LongParts (parts other : Parts) : Type 0 where
  pub words : parts.words ≡ other.words
  pub long : Long 65548 parts.rest other.rest

free_one : Option (List ℕ) → ℕ
free_one None = 1
free_one (Some text) = 0

-- how many words may still come
abbrev free : List Word → ℕ
free words = free_one (ttl_among words) + free_one (class_among words)

bare_less : (a b : Bool) (words : List Word) (text : List ℕ) (word : Word) → (if a then unless_stated (ttl_among words) (ttl text) else if b then unless_stated (class_among words) (class text) else None) ≡ Some word → free (words ++ word ∷ []) + 1 ≡ free words
unfolding free_one
bare_less a b words text word e = grind (arith, ttl_joined, class_joined)

free_less : (words : List Word) (item : RawItem) (word : Word) → word_after words item ≡ Some word → free (words ++ word ∷ []) + 1 ≡ free words
free_less words item word e = search (rules, bare_less)

part_long : (words : List Word) (item : RawItem) (items kept : List RawItem) (o : Option Word) → word_after words item ≡ o → Long 65548 (item ∷ items) (item ∷ kept) → ((word : Word) → word_after words item ≡ Some word → LongParts (parts_after (words ++ word ∷ []) items) (parts_after (words ++ word ∷ []) kept)) → LongParts (parts_by words item items o) (parts_by words item kept o)
part_long words item items kept o e long more = search rules

parts_long : (words : List Word) (first more others : List RawItem) → 65548 + free words ≤ length first → AllByRecursion IsWritten (first ++ more) → LeavesOut more others → LongParts (parts_after words (first ++ more)) (parts_after words (first ++ others))
parts_long words [] more others many written out = absurd (omega (arith, many))
parts_long words (item ∷ first) more others many written out =
    part_long words item (first ++ more) (first ++ others) (word_after words item) refl
    (record { short = record { first = item ∷ first; more = more; others = others; whole = refl; are_kept = refl; many = omega (arith, many); out = out }; written = written })
    (λ word e. parts_long (words ++ word ∷ []) first more others (omega (arith, many, free_less words item word e)) written.1 out)

-- the parts of all items, and those of the items that are kept
pub record FormParts (split_so : Option Parts) (other : Parts) : Type 0 where
  pub parts : Parts
  pub split : split_so ≡ Some parts
  pub long : LongParts parts other

kept_parts : (items kept : List RawItem) → Long 65551 items kept → (parts : Parts) → Some (parts_after [] kept) ≡ Some parts → FormParts (Some (parts_after [] items)) parts
unfolding free_one
kept_parts items kept long parts e = grind (arith, parts_long [] long.short.first long.short.more long.short.others (omega (arith, long.short.many)) (subst (AllByRecursion IsWritten) long.short.whole long.written) long.short.out)

-- ---- forms

-- what a form shows besides its other items
abbrev pub shown : Statement → Statement
shown (sets_origin items) = sets_origin []
shown (sets_ttl items) = sets_ttl []
shown (owned owner items) = owned owner []
shown (unowned items) = unowned []
shown form = form

-- a form that has more than one item
abbrev pub IsLong : Statement → Type 0
IsLong no_items = ⊥
IsLong (sets_origin items) = one_bare items ≡ None
IsLong (sets_ttl items) = one_bare items ≡ None
IsLong form = ⊤

-- two such forms, of which the other has the items that are kept
pub record LongForms (form other : Statement) : Type 0 where
  pub same : shown other ≡ shown form
  pub long : IsLong form
  pub other_long : IsLong other
  pub parts : (parts : Parts) → parts_in other ≡ Some parts → FormParts (parts_in form) parts

no_one_bare : (items : List RawItem) → 2 ≤ length items → one_bare items ≡ None
no_one_bare items many = search rules

word_long : (a b c : Bool) (items kept : List RawItem) → one_bare items ≡ None → one_bare kept ≡ None → LongForms (if a then sets_origin items else if b then sets_ttl items else if c then includes else unknown) (if a then sets_origin kept else if b then sets_ttl kept else if c then includes else unknown)
word_long a b c items kept many most = grind arith

octet_long : (a b : Bool) (item : RawItem) (items kept : List RawItem) → IsWritten item → Long 65551 items kept → LongForms (if a then directive item items else if b then unowned (item ∷ items) else owned item items) (if a then directive item kept else if b then unowned (item ∷ kept) else owned item kept)
octet_long true b item items kept is long = grind (arith, common_steps, are_many, word_long, no_one_bare)
octet_long false true item items kept is long = search (rules, kept_parts, after_item)
octet_long false false item items kept is long = record { same = refl; long = tt; other_long = tt; parts = kept_parts items kept long }

first_long : (first : Option ℕ) (item : RawItem) (items kept : List RawItem) → IsWritten item → Long 65551 items kept → LongForms (statement_by first (item ∷ items)) (statement_by first (item ∷ kept))
first_long None item items kept is long = record { same = refl; long = tt; other_long = tt; parts = kept_parts items kept long }
first_long (Some c) item items kept is long = octet_long (c == 36) (is_blank c) item items kept is long

pub forms_long : (first : Option ℕ) (items kept : List RawItem) → Long 65552 items kept → LongForms (statement_by first items) (statement_by first kept)
forms_long first items kept long =
    let begin = begin_with 65552 65551 items kept (omega arith) long.short in
    let written : AllByRecursion IsWritten (begin.item ∷ begin.rest) = subst (AllByRecursion IsWritten) begin.whole long.written in
    let found = first_long first begin.item begin.rest begin.others written.0 (record { short = begin.short; written = written.1 }) in
    grind arith

-- ---- what such forms state

module _ (origin : Labels) (before : List Entry) where
  shown_fault : (fault : Fault) (form : Statement) → IsLong form → StatementFault origin before (shown form) fault ≡ StatementFault origin before form fault
  shown_fault fault form long = grind arith

  owner_shown : (name : Labels) (form other : Statement) → LongForms form other → IsOwner origin before other name → IsOwner origin before form name
  owner_shown name form other long is = grind arith

  none_stated : (form : Statement) → IsLong form → StatesNothing origin before form → ⊥
  none_stated form long n = grind arith

parts_of_first : (words : List Word) (item : RawItem) (items kept : List RawItem) (fault : Fault) → PartsFault words (item ∷ kept) fault → PartsFault words (item ∷ items) fault
parts_of_first [] item items kept fault bad = grind arith
parts_of_first (word ∷ words) item items kept fault bad = grind (arith, parts_of_first words item items kept fault)

-- ---- the entry

abbrev with_items : Entry → List RawItem → Entry
with_items entry kept = record { line = entry.line; first = entry.first; items = kept }

abbrev head_with : Head → List RawItem → Head
head_with head items = record { owner = head.owner; class = head.class; kind = head.kind; items = items }

record LongHead (origin : Labels) (before : List Entry) (entry : Entry) (head : Head) : Type 0 where
  items : List RawItem
  has : HasHeadOf origin before entry (head_with head items)
  long : Long 65543 items head.items

head_long : (origin : Labels) (before : List Entry) (entry : Entry) (kept : List RawItem) (head : Head) → Long 65552 entry.items kept → HasHeadOf origin before (with_items entry kept) head → LongHead origin before entry head
head_long origin before entry kept head long has =
    let forms = forms_long entry.first entry.items kept long in
    let found = forms.parts has.parts has.split in
    let begin = begin_with 65548 65547 found.parts.rest has.parts.rest (omega arith) found.long.long.short in
    let firsts : begin.item ∷ begin.others ≡ bare has.word ∷ head.items = sym begin.are_kept ∙ has.rest in
    let written : AllByRecursion IsWritten (begin.item ∷ begin.rest) = subst (AllByRecursion IsWritten) begin.whole found.long.long.written in
    let classes : class_word (statement_of (with_items entry kept)) ≡ class_word (statement_of entry) = rw (has.split, found.split, found.long.words) refl in
    grind arith

-- so many items state no data
contents_none : (origin : Labels) (before : List Entry) (entry : Entry) (kept : List RawItem) (owner : Labels) (rdata : Data) → Long 65552 entry.items kept → HasContents origin before (with_items entry kept) owner rdata → ⊥
contents_none origin before entry kept owner rdata long has =
    let found = head_long origin before entry kept (record { owner = owner; class = rdata.class; kind = rdata.kind; items = has.items }) long has.head in
    state_none has.above rdata.class rdata.kind found.items has.items rdata.octets found.long.written found.long.short has.states

fault_kept : (origin : Labels) (before : List Entry) (entry : Entry) (kept : List RawItem) (fault : Fault) → Long 65552 entry.items kept → EntryFault origin before (with_items entry kept) fault → EntryFault origin before entry fault
fault_kept origin before entry kept fault long (of_statement bad) =
    let forms = forms_long entry.first entry.items kept long in
    of_statement (subst (λ Q. Q) (sym (shown_fault origin before fault _ forms.other_long) ∙ ap (λ form. StatementFault origin before form fault) forms.same ∙ shown_fault origin before fault _ forms.long) bad)
fault_kept origin before entry kept fault long (of_parts owner parts is split bad) =
    let forms = forms_long entry.first entry.items kept long in
    let found = forms.parts parts split in
    of_parts owner found.parts (owner_shown origin before owner (statement_of entry) _ forms is) found.split (let begin = begin_with 65548 65547 found.parts.rest parts.rest (omega arith) found.long.long.short in grind (arith, begin_with, parts_of_first))
fault_kept origin before entry kept fault long (of_rdata owner number kind items above has under bad) =
    let found = head_long origin before entry kept (record { owner = owner; class = number; kind = kind; items = items }) long has in
    of_rdata owner number kind found.items above found.has under (fault_of_all above number kind found.items items fault found.long.written found.long.short bad)
fault_kept origin before entry kept fault long (of_ttl owner rdata has bad) = absurd (contents_none origin before entry kept owner rdata long has)

-- what is decided by the items that are kept, is decided by the entry
pub decides_kept : (origin : Labels) (before : List Entry) (entry : Entry) (kept : List RawItem) (place : Place) (old new : PendingRecords) (next : ParserState) → AllByRecursion IsWritten entry.items → AreKept entry.items kept → DecidesEntry origin before (with_items entry kept) place old new next → DecidesEntry origin before entry place old new next
decides_kept origin before entry kept place old new next written (inl all) h = subst (λ items. DecidesEntry origin before (with_items entry items) place old new next) all h
decides_kept origin before entry kept place old new next written (inr short) (decides_none leaves same) = absurd (none_stated origin before _ (forms_long entry.first entry.items kept (record { short = short; written = written })).other_long leaves.0)
decides_kept origin before entry kept place old new next written (inr short) (decides_one r states are more same) = absurd (contents_none origin before entry kept r.owner (data_of r) (record { short = short; written = written }) states.contents)
decides_kept origin before entry kept place old new next written (inr short) (decides_fault fault bad same ending) = decides_fault fault (fault_kept origin before entry kept fault (record { short = short; written = written }) bad) same ending

-- what an entry of these octets and items decides, an entry decides of whose items these are kept
pub entry_kept : (origin : Labels) (before : List Entry) (line : ℕ) (octets : List ℕ) (tokens : List Token) (kept : List RawItem) (place : Place) (old new : PendingRecords) (next : ParserState) → Cuts octets tokens → AreKept (flat_map item_of tokens) kept → DecidesEntry origin before (record { line = line; first = slice_get octets 0; items = kept }) place old new next → DecidesEntry origin before (entry_of line tokens) place old new next
entry_kept origin before line octets tokens kept place old new next cut are h =
    decides_kept origin before (entry_of line tokens) kept place old new next (items_written tokens cut.each) are
    (subst (λ t. DecidesEntry origin before (record { line = line; first = slice_get t 0; items = kept }) place old new next) cut.whole h)
