-- An entry after others that state nothing or a record has an outcome: nothing, a record or a first
-- fault.
use Rattle.zone_text.proofs.Common.{fault_of, AllByRecursion, AllByRecursion-append, AllState, AreOctetItems, BadDirective, BadTtl, Bool, Choices, Data, Entry, EntryFault, EntryStates, Fault, HasClass, HasContents, HasHeadOf, HasTtl, HasValue, Head, IncludeDirective, IsClass, IsClassWord, IsDataFault, IsKind, IsKindWord, IsLastMinimum, IsLastOwner, IsName, IsNameFaultAfter, IsOrigin, IsOwner, IsTime, IsTtl, Labels, List, Lower, MatchOption, NoOwner, NoTtl, None, Option, Parts, PartsFault, Record, Some, SpellsAfter, Statement, StatementFault, States, StatesMinimum, StatesNothing, UnknownDirective, UnknownType, Word, WordFault, [], arith, cases_eq, cases_lt, class, class_among, class_word, data_of, if◌then◌else◌, includes, inl, inr, is_class_word, latest, long, minimum, no_items, none, of_parts, of_rdata, of_statement, of_ttl, option_and_then, option_or, owned, owner_text, parts_after, parts_in, refl, rules, sets_origin, sets_ttl, stated_ttl, statement_by, statement_of, true, ttl, unknown, unless_stated, unowned, word_after, ℕ, ◌++◌, ◌<◌, ◌∷◌, ◌≡◌, ◌⊎◌}
use Rattle.zone_rdata.specs.Spelling.{RawItem, bare, quoted}
use Rattle.zone_text.proofs.Entries.Entered.{nothing_or_parts, contents_once}
use Rattle.zone_text.proofs.Heads.ClassWords.{class_word_of}

-- ---- the origin

origin_by : (origin : List (List ℕ)) (before : List Entry) (entry : Entry) → StatesNothing origin before (statement_of entry) ⊎ ((r : Record) × EntryStates origin before entry r) → ((name : List (List ℕ)) × (IsOrigin origin before name × IsName name)) → (name : List (List ℕ)) × (IsOrigin origin (entry ∷ before) name × IsName name)
origin_by origin before entry (inl n) above = search rules
origin_by origin before entry (inr s) above = search rules

pub origin_is : (origin : List (List ℕ)) (before : List Entry) → IsName origin → AllState origin before → (name : List (List ℕ)) × (IsOrigin origin before name × IsName name)
origin_is origin [] is states = (origin, (refl, is))
origin_is origin (entry ∷ before) is states = origin_by origin before entry states.0 (origin_is origin before is states.1)

-- ---- the owner

abbrev pub OwnerChoice : List (List ℕ) → List Entry → Option (List ℕ) → Type 0
OwnerChoice origin before o = ((name : List (List ℕ)) × (MatchOption o (IsLastOwner origin before name) (λ text. SpellsAfter origin before text name) × IsName name)) ⊎ ((name : List (List ℕ)) → MatchOption o (IsLastOwner origin before name) (λ text. SpellsAfter origin before text name) → ⊥)

owner_by : (origin : List (List ℕ)) (before : List Entry) (form : Statement) → StatesNothing origin before form ⊎ ((name : List (List ℕ)) × (IsOwner origin before form name × IsName name)) → OwnerChoice origin before None → OwnerChoice origin before (owner_text form)
owner_by origin before form found last = grind arith

pub last_owner : (origin : List (List ℕ)) (before : List Entry) → AllState origin before → OwnerChoice origin before None
last_owner origin [] states = inr (λ name h. h)
last_owner origin (entry ∷ before) states = owner_by origin before (statement_of entry) (elim states.0 [ inl nothing ↦ inl nothing | inr s ↦ inr (s.0.owner, (s.1.contents.head.owner, s.1.fits.owner)) ]) (last_owner origin before states.1)

abbrev pub NameChoice : List (List ℕ) → List Entry → List ℕ → Type 0
NameChoice origin before text = ((name : List (List ℕ)) × (SpellsAfter origin before text name × IsName name)) ⊎ ((fault : Fault) × IsNameFaultAfter origin before text fault)

pub name_or_fault : Choices → (origin : List (List ℕ)) (before : List Entry) (text : List ℕ) → IsName origin → AllState origin before → AllByRecursion (λ c. c < 256) text → NameChoice origin before text
name_or_fault choices origin before text is states low =
    let above = origin_is origin before is states in
    elim (choices.name above.0 text above.1.1 low) [ inl name ↦ inl (name.0, ((above.0, (above.1.0, name.1)), name.1.name)) | inr bad ↦ inr (fault_of bad.0, (above.0, (above.1.0, (bad.0, bad.1, refl)))) ]

-- ---- the class

abbrev ClassFact : Option (List ℕ) → Type 0
ClassFact o = (number : ℕ) × (MatchOption o (number ≡ 1) (λ text. IsClassWord text number) × IsClass number)

class_among_words : (words : List Word) (later : Option (List ℕ)) → AllByRecursion HasValue words → ClassFact later → ClassFact (option_or (class_among words) later)
class_among_words [] later have fact = fact
class_among_words (x ∷ words) later have fact = grind (arith, class_among_words words later have.1 fact)

class_in_parts : (o : Option Parts) (later : Option (List ℕ)) → ((parts : Parts) → o ≡ Some parts → AllByRecursion HasValue parts.words) → ClassFact later → ClassFact (option_or (option_and_then (λ (parts : Parts). class_among parts.words) o) later)
class_in_parts None later have fact = fact
class_in_parts (Some parts) later have fact = search (rules, class_among_words)

class_before : (origin : List (List ℕ)) (before : List Entry) → AllState origin before → ClassFact (latest class_word before)
class_before origin [] states = search rules
class_before origin (entry ∷ before) states = class_in_parts (parts_in (statement_of entry)) (latest class_word before) (λ parts split. search rules) (class_before origin before states.1)

pub class_is : (origin : List (List ℕ)) (before : List Entry) (entry : Entry) (parts : Parts) → AllState origin before → parts_in (statement_of entry) ≡ Some parts → AllByRecursion HasValue parts.words → (number : ℕ) × (HasClass before entry number × IsClass number)
class_is origin before entry parts states split words =
    class_in_parts (parts_in (statement_of entry)) (latest class_word before) (λ other e. grind arith) (class_before origin before states)

-- ---- the words before the type

-- a class among them is the word of one
abbrev pub IsKnown : Word → Type 0
IsKnown (ttl text) = Unit {0}
IsKnown (class text) = is_class_word text ≡ true

word_known : (a b : Bool) (s t : Option (List ℕ)) (text : List ℕ) (word : Word) → is_class_word text ≡ b → (if a then unless_stated s (ttl text) else if b then unless_stated t (class text) else None) ≡ Some word → IsKnown word
word_known a b s t text word e h = grind arith

after_known : (words : List Word) (item : RawItem) (word : Word) → word_after words item ≡ Some word → IsKnown word
after_known words item word e = grind (arith, word_known)

pub record AreGood (parts : Parts) : Type 0 where
  pub known : AllByRecursion IsKnown parts.words
  pub low : AreOctetItems parts.rest

pub parts_good : (items : List RawItem) (words : List Word) → AllByRecursion IsKnown words → AreOctetItems items → AreGood (parts_after words items)
parts_good [] words known low = record { known = known; low = tt }
parts_good (item ∷ items) words known low = grind (arith, AllByRecursion-append, after_known, (λ (word : Word) (more : AllByRecursion IsKnown (words ++ word ∷ [])). parts_good items (words ++ word ∷ []) more low.1))

abbrev WordChoice : Word → Type 0
WordChoice word = HasValue word ⊎ ((fault : Fault) × WordFault word fault)

pub ttl_word_by : Lower → (text : List ℕ) → ((n : ℕ) × IsTime text n) ⊎ ((n : ℕ) → IsTime text n → ⊥) → ((seconds : ℕ) × IsTtl text seconds) ⊎ ((seconds : ℕ) → IsTtl text seconds → ⊥)
ttl_word_by lower text (inr no_time) = inr (λ seconds h. no_time seconds h.time)
ttl_word_by lower text (inl found) = elim (cases_lt 2147483647 found.0) [
  | inl over ↦ inr (λ seconds h. omega (arith, lower.time text seconds found.0 h.time found.1, h.short))
  | inr short ↦ inl (found.0, record { time = found.1; short = short })
]

word_or_fault : Lower → Choices → (word : Word) → IsKnown word → WordChoice word
word_or_fault lower choices (ttl text) known = grind (arith, ttl_word_by lower text (choices.time text))
word_or_fault lower choices (class text) known =
    let word = class_word_of text known in
    grind (arith, word, cases_lt word.0 65536, cases_eq word.0 0, cases_eq word.0 254, cases_eq word.0 255)

abbrev Choice : (ℕ → Type 0) → Type 0
Choice P = ((n : ℕ) × P n) ⊎ ((n : ℕ) → P n → ⊥)

-- ---- the TTL

-- data without a MINIMUM state none
module _ (lower : Lower) (origin : List (List ℕ)) (before : List Entry) (entry : Entry) where
  pub states_no_minimum : (owner : Labels) (rdata : Data) → HasContents origin before entry owner rdata → minimum rdata ≡ None → (seconds : ℕ) → StatesMinimum origin before entry seconds → ⊥
  states_no_minimum owner rdata has e seconds (other, d, also, field) = cc (contents_once lower origin before entry other owner d rdata also has)

  minimum_by : (owner : Labels) (rdata : Data) (found : Option ℕ) → HasContents origin before entry owner rdata → minimum rdata ≡ found → Choice (StatesMinimum origin before entry)
  minimum_by owner rdata (Some seconds) has e = inl (seconds, (owner, rdata, has, e))
  minimum_by owner rdata None has e = inr (states_no_minimum owner rdata has e)

  minimum_in : StatesNothing origin before (statement_of entry) ⊎ ((r : Record) × EntryStates origin before entry r) → Choice (StatesMinimum origin before entry)
  minimum_in (inl n) = inr (λ seconds (owner, rdata, has, field). nothing_or_parts origin before (statement_of entry) has.head.parts n has.head.split)
  minimum_in (inr s) = minimum_by s.0.owner (data_of s.0) (minimum (data_of s.0)) s.1.contents refl

pub no_minimum : (origin : List (List ℕ)) (before : List Entry) (entry : Entry) → ((n : ℕ) → StatesMinimum origin before entry n → ⊥) → ((n : ℕ) → IsLastMinimum origin before n → ⊥) → (n : ℕ) → IsLastMinimum origin (entry ∷ before) n → ⊥
no_minimum origin before entry here earlier n (inl x) = here n x
no_minimum origin before entry here earlier n (inr x) = earlier n x.1

last_by : (origin : List (List ℕ)) (before : List Entry) (entry : Entry) → Choice (StatesMinimum origin before entry) → Choice (IsLastMinimum origin before) → Choice (IsLastMinimum origin (entry ∷ before))
last_by origin before entry (inl x) earlier = inl (x.0, inl x.1)
last_by origin before entry (inr here) (inl y) = inl (y.0, inr (here, y.1))
last_by origin before entry (inr here) (inr earlier) = inr (no_minimum origin before entry here earlier)

last_minimum : Lower → (origin : List (List ℕ)) (before : List Entry) → AllState origin before → Choice (IsLastMinimum origin before)
last_minimum lower origin [] states = inr (λ n h. h)
last_minimum lower origin (entry ∷ before) states = last_by origin before entry (minimum_in lower origin before entry states.0) (last_minimum lower origin before states.1)

ttl_by : (o : Option (List ℕ)) (Last : ℕ → Type 0) → Choice Last → ((text : List ℕ) → Choice (IsTime text)) → Choice (λ n. MatchOption o (Last n) (λ text. IsTime text n))
ttl_by None Last last times = last
ttl_by (Some text) Last last times = times text

-- ---- a record, from its last step to its first

abbrev pub Outcome : List (List ℕ) → List Entry → Entry → Type 0
Outcome origin before entry = StatesNothing origin before (statement_of entry) ⊎ (((r : Record) × EntryStates origin before entry r) ⊎ ((fault : Fault) × EntryFault origin before entry fault))

-- the words have values and a type stands after them, or the parts have a fault
abbrev PartsChoice : List Word → List RawItem → Type 0
PartsChoice words rest = (AllByRecursion HasValue words × ((word : List ℕ) × ((items : List RawItem) × ((n : ℕ) × ((rest ≡ bare word ∷ items) × (AreOctetItems items × (IsKindWord word n × IsKind n))))))) ⊎ ((fault : Fault) × PartsFault words rest fault)

parts_or_fault : Lower → Choices → (words : List Word) (rest : List RawItem) → AllByRecursion IsKnown words → AreOctetItems rest → PartsChoice words rest
parts_or_fault lower choices [] (bare text ∷ items) known low = grind (arith, (choices.kind text))
parts_or_fault lower choices [] rest known low = inr (UnknownType, refl)
parts_or_fault lower choices (word ∷ words) rest known low = grind (arith, word_or_fault lower choices word known.0, parts_or_fault lower choices words rest known.1 low)

abbrev OwnerOutcome : List (List ℕ) → List Entry → Statement → Type 0
OwnerOutcome origin before form = ((owner : List (List ℕ)) × (IsOwner origin before form owner × IsName owner)) ⊎ ((fault : Fault) × StatementFault origin before form fault)

-- the items of a form
abbrev LowForm : Statement → Type 0
LowForm (sets_origin items) = AreOctetItems items
LowForm (sets_ttl items) = AreOctetItems items
LowForm (owned owner items) = AreOctetItems (owner ∷ items)
LowForm (unowned items) = AreOctetItems items
LowForm form = Unit {0}

low_form : (first : Option ℕ) (items : List RawItem) → AreOctetItems items → LowForm (statement_by first items)
low_form first items low = search rules

module _ (lower : Lower) (choices : Choices) (origin : List (List ℕ)) (before : List Entry) (entry : Entry) (is : IsName origin) (states : AllState origin before) where
  from_ttl : (owner : Labels) (rdata : Data) → IsName owner → IsClass rdata.class → HasContents origin before entry owner rdata → Choice (HasTtl origin before entry) → Outcome origin before entry
  from_ttl owner rdata name holds has (inr no_ttl) = inr (inr (NoTtl, of_ttl owner rdata has (none no_ttl)))
  from_ttl owner rdata name holds has (inl found) = elim (cases_lt 2147483647 found.0) [
    | inl over ↦ inr (inr (BadTtl, of_ttl owner rdata has (long found.0 found.1 over)))
    | inr short ↦ inr (inl (
      record { owner = owner; class = rdata.class; kind = rdata.kind; ttl = found.0; octets = rdata.octets },
      record {
        contents = has;
        ttl = found.1;
        fits = record { owner = name; ttl = short; rdata = record { class = holds; kind = has.head.kind; octets = choices.stated has.above rdata.class rdata.kind has.items rdata.octets has.states } };
      },
    ))
  ]

  from_rdata : (head : Head) (above : List (List ℕ)) → IsName head.owner → IsClass head.class → HasHeadOf origin before entry head → IsOrigin origin before above → ((octets : List ℕ) × States above head.class head.kind head.items octets) ⊎ ((fault : Fault) × IsDataFault above head.class head.kind head.items fault) → Outcome origin before entry
  from_rdata head above name holds has under (inr bad) = inr (inr (bad.0, of_rdata head.owner head.class head.kind head.items above has under bad.1))
  from_rdata head above name holds has under (inl found) =
      let rdata : Data = record { class = head.class; kind = head.kind; octets = found.0 } in
      let contents : HasContents origin before entry head.owner rdata = record { items = head.items; above = above; head = has; under = under; states = found.1 } in
      from_ttl head.owner rdata name holds contents (ttl_by (stated_ttl before entry) (IsLastMinimum origin (entry ∷ before)) (last_by origin before entry (minimum_by lower origin before entry head.owner rdata (minimum rdata) contents refl) (last_minimum lower origin before states)) choices.time)

  from_parts : (parts : Parts) (owner : List (List ℕ)) → parts_in (statement_of entry) ≡ Some parts → IsOwner origin before (statement_of entry) owner → IsName owner → PartsChoice parts.words parts.rest → Outcome origin before entry
  from_parts parts owner split owns name (inr bad) = inr (inr (bad.0, of_parts owner parts owns split bad.1))
  from_parts parts owner split owns name (inl found) =
      let facts = found.1.1.1.1 in
      let number = class_is origin before entry parts states split found.0 in
      let above = origin_is origin before is states in
      let head : Head = record { owner = owner; class = number.0; kind = found.1.1.1.0; items = found.1.1.0 } in
      let has : HasHeadOf origin before entry head = record { parts = parts; word = found.1.0; split = split; owner = owns; words = found.0; class = number.1.0; rest = facts.0; named = facts.1.1.0; kind = facts.1.1.1 } in
      from_rdata head above.0 name number.1.1 has above.1.0 (choices.rdata above.0 number.0 found.1.1.1.0 found.1.1.0 above.1.1 facts.1.0)

  -- ---- the form

  form_choice : (form : Statement) → LowForm form → (StatesNothing origin before form ⊎ ((fault : Fault) × StatementFault origin before form fault)) ⊎ ((items : List RawItem) × (parts_in form ≡ Some (parts_after [] items)) × AreOctetItems items × OwnerOutcome origin before form)
  form_choice no_items low = inl (inl tt)
  form_choice includes low = inl (inr (IncludeDirective, refl))
  form_choice unknown low = inl (inr (UnknownDirective, refl))
  form_choice (sets_origin (bare text ∷ [])) low = elim (name_or_fault choices origin before text is states low.0) [ inl name ↦ inl (inl (name.0, name.1.0)) | inr bad ↦ inl (inr bad) ]
  form_choice (sets_origin items) low = inl (inr (BadDirective, refl))
  form_choice (sets_ttl (bare text ∷ [])) low = grind (arith, ttl_word_by lower text (choices.time text))
  form_choice (sets_ttl items) low = inl (inr (BadDirective, refl))
  form_choice (owned (bare text) items) low = inr (items, refl, low.1, name_or_fault choices origin before text is states low.0)
  form_choice (owned (quoted text) items) low = inr (items, refl, low.1, inr (NoOwner, refl))
  form_choice (unowned items) low = inr (items, refl, low, grind (arith, last_owner origin before states))

  pub entry_outcome : AreOctetItems entry.items → Outcome origin before entry
  entry_outcome items_low = elim (form_choice (statement_of entry) (low_form entry.first entry.items items_low)) [
    | inl (inl nothing) ↦ inl nothing
    | inl (inr bad) ↦ inr (inr (bad.0, of_statement bad.1))
    | inr (items, split, low, inr bad) ↦ inr (inr (bad.0, of_statement bad.1))
    | inr (items, split, low, inl owner) ↦
        let good = parts_good items [] tt low in
        from_parts (parts_after [] items) owner.0 split owner.1.0 owner.1.1 (parts_or_fault lower choices (parts_after [] items).words (parts_after [] items).rest good.known good.low)
  ]
