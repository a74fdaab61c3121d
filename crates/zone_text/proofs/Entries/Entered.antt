-- What an entry inherits is one thing at most, and it states a record, states nothing or has a fault:
-- one of the three at most, and each once.
use Rattle.zone_text.proofs.Common.{AllByRecursion, Entry, EntryFault, EntryStates, Fault, HasTtl, HasValue, IsClass, IsDataFault, IsKind, IsKindWord, IsNameFaultAfter, IsOrigin, IsOwner, List, Lower, Once, Parts, PartsFault, Record, Some, SpellingFault, SpellsAfter, Statement, StatementFault, States, StatesNothing, TtlFault, Word, WordFault, [], arith, class, inl, inr, long, no_items, none, of_parts, of_rdata, of_statement, of_ttl, owned, parts_in, refl, rules, sets_origin, sets_ttl, statement_of, subst, sym, ttl, unowned, ℕ, ◌∙◌, ◌∷◌, ◌≡◌, ◌≤◌, Data, HasContents, HasHead, Head, Labels, data_of, HasClass, HasHeadOf, IsClassWord, IsLastMinimum, IsLastOwner, IsTime, MatchOption, Option, Spells, StatesMinimum, class_word, latest, origin_text, owner_text, stated_ttl}
use Rattle.zone_rdata.specs.Spelling.{bare, RawItem}

pub match_once : (A B : Type 0) (o : Option A) (P : B → Type 0) (Q : A → B → Type 0) → Once B P → ((x : A) → Once B (Q x)) → (a b : B) → MatchOption o (P a) (λ x. Q x a) → MatchOption o (P b) (λ x. Q x b) → a ≡ b
match_once A B o P Q p q a b x y = search rules

pub spells_once : Lower → (Above : List (List ℕ) → Type 0) → Once (List (List ℕ)) Above → (text : List ℕ) → Once (List (List ℕ)) (λ name. (above : List (List ℕ)) × (Above above × Spells (Some above) text name))
spells_once lower Above one text a b x y =
    lower.name y.0 text a b (subst (λ above. Spells (Some above) text a) (one x.0 y.0 x.1.0 y.1.0) x.1.1) y.1.1

module _ (lower : Lower) (origin : List (List ℕ)) where
  pub origin_once : (before : List Entry) → Once (List (List ℕ)) (IsOrigin origin before)
  origin_once [] a b x y = x ∙ sym y
  origin_once (entry ∷ before) a b x y =
      match_once (List ℕ) (List (List ℕ)) (origin_text (statement_of entry)) (IsOrigin origin before) (λ text name. (above : List (List ℕ)) × (IsOrigin origin before above × Spells (Some above) text name)) (origin_once before) (spells_once lower (IsOrigin origin before) (origin_once before)) a b x y

  pub spells_after_once : (before : List Entry) (text : List ℕ) → Once (List (List ℕ)) (SpellsAfter origin before text)
  spells_after_once before text = spells_once lower (IsOrigin origin before) (origin_once before) text

  pub last_owner_once : (before : List Entry) → Once (List (List ℕ)) (IsLastOwner origin before)
  last_owner_once [] a b x y = absurd x
  last_owner_once (entry ∷ before) a b x y = grind (arith, last_owner_once before, match_once (List ℕ) (List (List ℕ)) (owner_text (statement_of entry)) (IsLastOwner origin before) (SpellsAfter origin before) (last_owner_once before) (spells_after_once before) a b x y)

  pub owner_once : (before : List Entry) (form : Statement) → Once (List (List ℕ)) (IsOwner origin before form)
  owner_once before (owned (bare text) items) a b x y = spells_after_once before text a b x y
  owner_once before (unowned items) a b x y = last_owner_once before a b x y
  owner_once before form a b x y = absurd x

pub class_once : Lower → (before : List Entry) (entry : Entry) → Once ℕ (HasClass before entry)
class_once lower before entry a b x y =
    match_once (List ℕ) ℕ (latest class_word (entry ∷ before)) (λ n. n ≡ 1) IsClassWord (λ m n e f. e ∙ sym f) lower.class a b x y

module _ (lower : Lower) (origin : List (List ℕ)) where
  pub head_once : (before : List Entry) (entry : Entry) → Once Head (HasHeadOf origin before entry)
  head_once before entry h k x y =
      grind (arith, owner_once lower origin before (statement_of entry) h.owner k.owner x.owner y.owner, class_once lower before entry h.class k.class x.class y.class, lower.kind x.word h.kind k.kind x.named)

  pub contents_once : (before : List Entry) (entry : Entry) (owner other : Labels) (d e : Data) → HasContents origin before entry owner d → HasContents origin before entry other e → d ≡ e
  contents_once before entry owner other d e x y =
      let a : Head = record { owner = owner; class = d.class; kind = d.kind; items = x.items } in
      let b : Head = record { owner = other; class = e.class; kind = e.kind; items = y.items } in
      let head : a ≡ b = head_once before entry a b x.head y.head in
      let left : States y.above e.class e.kind y.items d.octets = grind (arith, origin_once lower origin before x.above y.above x.under y.under) in
      let octets : d.octets ≡ e.octets = lower.rdata y.above e.class e.kind y.items d.octets e.octets left y.states in
      grind arith

  pub minimum_once : (before : List Entry) (entry : Entry) → Once ℕ (StatesMinimum origin before entry)
  minimum_once before entry a b (owner, d, has, field) (other, e, also, same) = grind (arith, contents_once before entry owner other d e has also)

  pub last_minimum_once : (before : List Entry) → Once ℕ (IsLastMinimum origin before)
  last_minimum_once [] a b x y = absurd x
  last_minimum_once (entry ∷ before) a b (inl x) (inl y) = minimum_once before entry a b x y
  last_minimum_once (entry ∷ before) a b (inl x) (inr y) = absurd (y.0 a x)
  last_minimum_once (entry ∷ before) a b (inr x) (inl y) = absurd (x.0 b y)
  last_minimum_once (entry ∷ before) a b (inr x) (inr y) = last_minimum_once before a b x.1 y.1

  pub ttl_once : (before : List Entry) (entry : Entry) → Once ℕ (HasTtl origin before entry)
  ttl_once before entry a b x y =
      match_once (List ℕ) ℕ (stated_ttl before entry) (IsLastMinimum origin (entry ∷ before)) IsTime (last_minimum_once (entry ∷ before)) lower.time a b x y

-- names

module _ (lower : Lower) (origin : List (List ℕ)) (before : List Entry) where
  pub name_fault_once : (text : List ℕ) → Once Fault (IsNameFaultAfter origin before text)
  name_fault_once text f g x y = grind (arith, origin_once)

  pub name_or_fault : (text : List ℕ) (name : List (List ℕ)) (fault : Fault) → SpellsAfter origin before text name → IsNameFaultAfter origin before text fault → ⊥
  name_or_fault text name fault x y =
      lower.name_or_fault x.0 text name y.1.1.0 x.1.1 (subst (λ a. SpellingFault (Some a) text y.1.1.0) (sym (origin_once lower origin before x.0 y.0 x.1.0 y.1.0)) y.1.1.1)

  -- the statement

  statement_fault_once : (form : Statement) → Once Fault (StatementFault origin before form)
  statement_fault_once (sets_origin (bare text ∷ [])) f g x y = name_fault_once text f g x y
  statement_fault_once (owned (bare text) items) f g x y = name_fault_once text f g x y
  statement_fault_once (sets_ttl (bare text ∷ [])) f g x y = x.0 ∙ sym y.0
  statement_fault_once (unowned items) f g x y = x.0 ∙ sym y.0
  statement_fault_once no_items f g x y = absurd x
  statement_fault_once form f g x y = x ∙ sym y

  owner_or_fault : (form : Statement) (name : List (List ℕ)) (fault : Fault) → IsOwner origin before form name → StatementFault origin before form fault → ⊥
  owner_or_fault (owned (bare text) items) name f x y = name_or_fault text name f x y
  owner_or_fault form name f x y = grind arith

  nothing_or_statement : (form : Statement) (fault : Fault) → StatesNothing origin before form → StatementFault origin before form fault → ⊥
  nothing_or_statement (sets_origin (bare text ∷ [])) f x y = name_or_fault text x.0 f x.1 y
  nothing_or_statement (sets_ttl (bare text ∷ [])) f x y = y.1 x.0 x.1
  nothing_or_statement no_items f x y = y
  nothing_or_statement form f x y = x

-- the words before the type, and the type

word_fault_once : (word : Word) → Once Fault (WordFault word)
word_fault_once (ttl text) f g x y = x.0 ∙ sym y.0
word_fault_once (class text) f g x y = x.0 ∙ sym y.0

word_or_fault : Lower → (word : Word) (fault : Fault) → HasValue word → WordFault word fault → ⊥
word_or_fault lower (ttl text) f x y = y.1 x.0 x.1
word_or_fault lower (class text) f x y =
    y.1.1.1 (subst IsClass (lower.class text x.0 y.1.0 x.1.0 y.1.1.0) x.1.1)

parts_fault_once : Lower → (words : List Word) (rest : List RawItem) → Once Fault (PartsFault words rest)
parts_fault_once lower [] (bare text ∷ items) f g x y = lower.kind_fault text f g x y
parts_fault_once lower [] rest f g x y = x ∙ sym y
parts_fault_once lower words rest f g (inl x) y = grind (arith, word_fault_once, word_or_fault)
parts_fault_once lower (word ∷ words) rest f g (inr x) (inl y) = search (rules, word_or_fault)
parts_fault_once lower (word ∷ words) rest f g (inr x) (inr y) = parts_fault_once lower words rest f g x.1 y.1

parts_or_fault : Lower → (words : List Word) (word : List ℕ) (items : List RawItem) (kind : ℕ) (fault : Fault) → AllByRecursion HasValue words → IsKindWord word kind → IsKind kind → PartsFault words (bare word ∷ items) fault → ⊥
parts_or_fault lower [] word items kind f each named good bad = lower.kind_or_fault word kind f named good bad
parts_or_fault lower (w ∷ words) word items kind f each named good bad = grind (arith, word_or_fault, parts_or_fault lower words word items kind f each.1 named good)

abbrev head_with : Labels → ℕ → ℕ → List RawItem → Head
head_with owner number kind items = record { owner = owner; class = number; kind = kind; items = items }

pub nothing_or_parts : (origin : List (List ℕ)) (before : List Entry) (form : Statement) (parts : Parts) → StatesNothing origin before form → parts_in form ≡ Some parts → ⊥
nothing_or_parts origin before form parts x split = search rules

module _ (lower : Lower) (origin : List (List ℕ)) (before : List Entry) (entry : Entry) where
  -- after a good head or good data a fault is no earlier one

  head_or_fault : (owner : Labels) (number kind : ℕ) (items : List RawItem) (parts : Parts) (fault : Fault) → HasHead origin before entry owner number kind items → parts_in (statement_of entry) ≡ Some parts → PartsFault parts.words parts.rest fault → ⊥
  head_or_fault owner number kind items parts fault has split bad =
      let same : has.parts ≡ parts = cc in
      parts_or_fault lower has.parts.words has.word items kind fault has.words has.named has.kind (rw (← has.rest) (subst (λ p. PartsFault p.words p.rest fault) (sym same) bad))

  rdata_fault_once : (owner other : Labels) (number kind c k : ℕ) (items xs : List RawItem) (above under : Labels) (f g : Fault) → HasHead origin before entry owner number kind items → HasHead origin before entry other c k xs → IsOrigin origin before above → IsOrigin origin before under → IsDataFault above number kind items f → IsDataFault under c k xs g → f ≡ g
  rdata_fault_once owner other number kind c k items xs above under f g x y a b bad worse =
      let same : head_with owner number kind items ≡ head_with other c k xs = head_once lower origin before entry _ _ x y in
      grind (arith, origin_once lower origin before above under a b, lower.rdata_fault)

  contents_or_fault : (owner other : Labels) (rdata : Data) (c k : ℕ) (items : List RawItem) (above : Labels) (f : Fault) → HasContents origin before entry owner rdata → HasHead origin before entry other c k items → IsOrigin origin before above → IsDataFault above c k items f → ⊥
  contents_or_fault owner other rdata c k items above f x y a bad =
      let same : head_with owner rdata.class rdata.kind x.items ≡ head_with other c k items = head_once lower origin before entry _ _ x.head y in
      let states : States above c k items rdata.octets = grind (arith, origin_once lower origin before x.above above x.under a) in
      lower.rdata_or_fault above c k items rdata.octets f states bad

  ttl_fault_once : Once Fault (TtlFault origin before entry)
  ttl_fault_once f g (none missing) (none other) = refl
  ttl_fault_once f g (none missing) (long n has over) = absurd (missing n has)
  ttl_fault_once f g (long n has over) (none other) = absurd (other n has)
  ttl_fault_once f g (long n has over) (long m more other) = refl

  ttl_or_fault : (n : ℕ) (fault : Fault) → HasTtl origin before entry n → n ≤ 2147483647 → TtlFault origin before entry fault → ⊥
  ttl_or_fault n f has short bad = search (rules, ttl_once)

  -- the three outcomes

  statement_first : (f g : Fault) → StatementFault origin before (statement_of entry) f → EntryFault origin before entry g → f ≡ g
  statement_first f g bad worse = grind (arith, statement_fault_once, owner_or_fault)

  pub fault_once : Once Fault (EntryFault origin before entry)
  fault_once f g (of_statement bad) y = statement_first f g bad y
  fault_once f g x (of_statement bad) = sym (statement_first g f bad x)
  fault_once f g (of_parts o parts is split bad) (of_parts other more has also worse) = grind (arith, parts_fault_once lower parts.words parts.rest f g)
  fault_once f g (of_parts o parts is split bad) (of_rdata other n k items above has under worse) = absurd (head_or_fault other n k items parts f has split bad)
  fault_once f g (of_parts o parts is split bad) (of_ttl other d has worse) = absurd (head_or_fault other d.class d.kind has.items parts f has.head split bad)
  fault_once f g (of_rdata other n k items above has under worse) (of_parts o parts is split bad) = absurd (head_or_fault other n k items parts g has split bad)
  fault_once f g (of_ttl other d has worse) (of_parts o parts is split bad) = absurd (head_or_fault other d.class d.kind has.items parts g has.head split bad)
  fault_once f g (of_rdata o n k items above has under bad) (of_rdata other m l xs place also below worse) = rdata_fault_once o other n k m l items xs above place f g has also under below bad worse
  fault_once f g (of_rdata o n k items above has under bad) (of_ttl other d also worse) = absurd (contents_or_fault other o d n k items above f also has under bad)
  fault_once f g (of_ttl other d also worse) (of_rdata o n k items above has under bad) = absurd (contents_or_fault other o d n k items above g also has under bad)
  fault_once f g (of_ttl o d has bad) (of_ttl other e also worse) = ttl_fault_once f g bad worse

  pub record_once : Once Record (EntryStates origin before entry)
  record_once a b x y = grind (arith, contents_once lower origin before entry a.owner b.owner (data_of a) (data_of b) x.contents y.contents, owner_once lower origin before (statement_of entry) a.owner b.owner x.contents.head.owner y.contents.head.owner, ttl_once lower origin before entry a.ttl b.ttl x.ttl y.ttl)

  pub record_or_fault : (r : Record) (fault : Fault) → EntryStates origin before entry r → EntryFault origin before entry fault → ⊥
  record_or_fault r f x (of_statement bad) = owner_or_fault lower origin before (statement_of entry) r.owner f x.contents.head.owner bad
  record_or_fault r f x (of_parts o parts is split bad) = head_or_fault r.owner r.class r.kind x.contents.items parts f x.contents.head split bad
  record_or_fault r f x (of_rdata o n k items above has under bad) = contents_or_fault r.owner o (data_of r) n k items above f x.contents has under bad
  record_or_fault r f x (of_ttl o d has bad) = ttl_or_fault r.ttl f x.ttl x.fits.ttl bad

  pub nothing_or_fault : (fault : Fault) → StatesNothing origin before (statement_of entry) → EntryFault origin before entry fault → ⊥
  nothing_or_fault fault x y = grind (arith, nothing_or_statement, nothing_or_parts)

pub nothing_or_record : (origin : List (List ℕ)) (before : List Entry) (entry : Entry) (r : Record) → StatesNothing origin before (statement_of entry) → EntryStates origin before entry r → ⊥
nothing_or_record origin before entry r x y = search rules
