-- An entry that is refused is none for the reader of plain master files.
use Rattle.zone_words.proofs.Common.{AllByRecursion, Entry, IsFurtherWord, FurtherType, IsFurtherRecord, IsKindWord, Labels, List, None, Option, Parts, RawItem, Refused, Some, Statement, Token, TokensFail, TouchingItem, ap, entry_of, owned, parts_in, statement_of, subst, sym, touching_items, true, unowned, includes, unknown, sets_origin, sets_ttl, written_text, ℕ, ◌∙◌, ◌∷◌, ◌≡◌}
use Rattle.zone_rdata.specs.Generic.{StatesGeneric}
use Rattle.zone_rdata.specs.Layout.{layout}
use Rattle.zone_rdata.specs.Record.{Record, data_of}
use Rattle.zone_rdata.specs.Item as raw
use Rattle.zone_rdata.specs.declared.field.Field.{Field}
use Rattle.zone_rdata.specs.Spelling.{IsCanonicalOf, States, StatesFor, in_octets, in_words}
use Rattle.zone_text.specs.Records.{EntryStates, HasContents, HasHead, HasValue, StatesNothing}
use Rattle.zone_text.specs.Statements.{no_items}
use Rattle.zone_words.proofs.JoinedKinds.{further_kind, no_layout}
use Rattle.zone_words.proofs.Turns.{fails_in_words, fails_under}
use Rattle.type_data.specs.DataItem.{items_of}
use Rattle.zone_rdata.proofs.Items.ItemLaws.{generic_marks}

-- data without a layout is stated in the generic form alone
pub form_of : (origin : Labels) (class kind : ℕ) (items : List RawItem) (octets : List ℕ) → layout class kind ≡ None → States origin class kind items octets → StatesGeneric items octets
form_of origin class kind items octets none states = by_form (layout class kind) none states.stated
  where
    of_octets : (laid : Option (List Field)) → laid ≡ None → (stated : List ℕ) → StatesGeneric items stated → IsCanonicalOf laid stated octets → StatesGeneric items octets
    of_octets None e stated form same = subst (StatesGeneric items) (sym same) form
    of_octets (Some fields) e stated form same = absurd cc

    by_form : (laid : Option (List Field)) → laid ≡ None → StatesFor origin laid items octets → StatesGeneric items octets
    by_form laid e (in_words fields values is words each value short) = absurd (let bad : Some fields ≡ None = sym is ∙ e in cc bad)
    by_form laid e (in_octets form) = of_octets laid e form.0 form.1 form.2

-- the words of an entry before its type, the type's word and the items after it
pub record HasType (entry : Entry) (word : List ℕ) (items : List RawItem) (further : FurtherType) : Type 0 where
  pub parts : Parts
  pub split : parts_in (statement_of entry) ≡ Some parts
  pub values : AllByRecursion HasValue parts.words
  pub from_type : parts.rest ≡ raw.bare word ∷ items
  pub named : IsFurtherWord word further

pub type_in : (before : List Entry) (entry : Entry) (word : List ℕ) (items : List RawItem) (further : FurtherType) → IsFurtherRecord before entry word items further → HasType entry word items further
type_in before entry word items further is = record { parts = is.parts; split = is.split; values = is.values; from_type = is.from_type; named = is.named }

-- the reader takes them so
pub head_of : (after : List Entry) (origin : Labels) (entry : Entry) (word : List ℕ) (items : List RawItem) (further : FurtherType) (name : Labels) (class kind : ℕ) (others : List RawItem) → HasType entry word items further → HasHead origin after entry name class kind others → (kind ≡ further.number) × (others ≡ items)
head_of after origin entry word items further name class kind others is head =
    let p : Some head.parts ≡ Some is.parts = sym head.split ∙ is.split in
    let q : head.parts ≡ is.parts = cc p in
    let r : raw.bare head.word ∷ others ≡ raw.bare word ∷ items = sym head.rest ∙ ap (λ (x : Parts). x.rest) q ∙ is.from_type in
    let h : raw.bare head.word ≡ raw.bare word = cc r in
    let w : head.word ≡ word = cc h in
    (further_kind word further kind is.named (subst (λ t. IsKindWord t kind) w head.named), cc r)

-- the data of its record, in the generic form
pub form_read : (after : List Entry) (origin : Labels) (entry : Entry) (word : List ℕ) (items : List RawItem) (further : FurtherType) (r : Record) → HasType entry word items further → HasContents origin after entry r.owner (data_of r) → (r.kind ≡ further.number) × StatesGeneric items r.octets
form_read after origin entry word items further r is c =
    let same = head_of after origin entry word items further r.owner r.class r.kind c.items is c.head in
    let none : layout r.class r.kind ≡ None = ap (layout r.class) same.0 ∙ no_layout further is.named.row r.class in
    (same.0, subst (λ i. StatesGeneric i r.octets) same.1 (form_of c.above r.class r.kind c.items r.octets none c.states))

pub refused_record : (cased origin : Labels) (before after : List Entry) (line : ℕ) (tokens : List Token) (it : Refused) (r : Record) → TokensFail cased before line tokens it → EntryStates origin after (entry_of line tokens) r → ⊥
refused_record cased origin before after line tokens it r fail states =
    let d : List TouchingItem = touching_items true fail.back in
    let u = fails_under cased before (entry_of line tokens) (written_text fail.word) d it fail.fails in
    let read = form_read after origin (entry_of line tokens) (written_text fail.word) (items_of d) u.further r (type_in before (entry_of line tokens) (written_text fail.word) (items_of d) u.further u.is.stated) states.contents in
    fails_in_words cased before (entry_of line tokens) (written_text fail.word) d it fail.fails (generic_marks (items_of d) r.octets read.1)

-- what has parts of a record doesn't state nothing
pub parts_state : (origin : Labels) (after : List Entry) (form : Statement) (parts : Parts) → parts_in form ≡ Some parts → StatesNothing origin after form → ⊥
parts_state origin after no_items parts e nothing = absurd cc
parts_state origin after (sets_origin items) parts e nothing = absurd cc
parts_state origin after (sets_ttl items) parts e nothing = absurd cc
parts_state origin after includes parts e nothing = absurd cc
parts_state origin after unknown parts e nothing = absurd cc
parts_state origin after (owned owner items) parts e nothing = nothing
parts_state origin after (unowned items) parts e nothing = nothing

pub refused_nothing : (cased origin : Labels) (before after : List Entry) (line : ℕ) (tokens : List Token) (it : Refused) → TokensFail cased before line tokens it → StatesNothing origin after (statement_of (entry_of line tokens)) → ⊥
refused_nothing cased origin before after line tokens it fail nothing =
    let u = fails_under cased before (entry_of line tokens) (written_text fail.word) (touching_items true fail.back) it fail.fails in
    parts_state origin after (statement_of (entry_of line tokens)) u.is.stated.parts u.is.stated.split nothing
