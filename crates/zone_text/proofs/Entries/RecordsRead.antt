-- The parser state is what the look back over the entries finds: what one entry more leaves, and what
-- a record entry whose parts are read in a known state states, or why it is refused.
use Rattle.zone_text.proofs.Common.{BadTtl, Data, Entry, EntryFault, EntryStates, Fault, HasContents, HasHeadOf, HasOwnerOrNone, HasTtl, Head, IsDataFault, IsLastMinimum, IsLastOwner, IsOneOrNone, IsOwner, IsRecord, IsRecordEntry, IsStateAfter, IsTtlOrNone, Labels, List, Lower, MatchOption, NoOwner, NoTtl, None, Option, ParserState, RawItem, Record, Some, States, arith, long, minimum, none, of_rdata, of_statement, of_ttl, one_bare, option_or, owned, refl, rules, stated_ttl, statement_of, subst, sym, ttl_text, with_owner, ℕ, ◌<◌, ◌∷◌, ◌≡◌, IsOrigin, IsTime, IsTtl, SpellsAfter, Spells, Statement, StatesMinimum, StatesNothing, [], default_ttl_text, inl, inr, latest, owner_text, parts_in, sets_origin, sets_ttl}
use Rattle.zone_rdata.specs.Spelling.{bare}
use Rattle.zone_text.proofs.Entries.EntryOutcome.{states_no_minimum, no_minimum}

-- ---- an entry that is no record

last_minimum : (origin : Labels) (before : List Entry) (entry : Entry) (carried : Option ℕ) → ((seconds : ℕ) → StatesMinimum origin before entry seconds → ⊥) → IsOneOrNone (IsLastMinimum origin before) carried → IsOneOrNone (IsLastMinimum origin (entry ∷ before)) carried
last_minimum origin before entry None absent so_far = no_minimum origin before entry absent so_far
last_minimum origin before entry (Some n) absent so_far = inr (absent, so_far)

-- a directive or a blank entry leaves what it does not set
pub leaves : (origin : Labels) (before : List Entry) (entry : Entry) (form : Statement) (d : ParserState) (name : Labels) (seconds : Option ℕ) → statement_of entry ≡ form → parts_in form ≡ None → owner_text form ≡ None → IsStateAfter origin before d → IsOrigin origin (entry ∷ before) name → IsTtlOrNone (latest default_ttl_text (entry ∷ before)) seconds → IsStateAfter origin (entry ∷ before) (record { origin = name; owner = d.owner; class = d.class; default_ttl = seconds; last_ttl = d.last_ttl; minimum = d.minimum; rdata = d.rdata })
leaves origin before entry form d name seconds is no_parts no_owner so_far under default = grind arith

-- ---- a record

pub minimum_by : Lower → (origin : Labels) (before : List Entry) (entry : Entry) (owner : Labels) (rdata : Data) (own carried : Option ℕ) → HasContents origin before entry owner rdata → minimum rdata ≡ own → IsOneOrNone (IsLastMinimum origin before) carried → IsOneOrNone (IsLastMinimum origin (entry ∷ before)) (option_or own carried)
minimum_by lower origin before entry owner rdata (Some n) carried has e so_far = inl (owner, rdata, has, e)
minimum_by lower origin before entry owner rdata None carried has e so_far = search (rules, last_minimum, states_no_minimum)

-- ---- the TTL of a record

-- the TTL that is stated for a record, by itself or before it
pub ttl_stated : (origin : Labels) (before : List Entry) (entry : Entry) (d : ParserState) (own : Option ℕ) → IsStateAfter origin before d → IsTtlOrNone (ttl_text (statement_of entry)) own → IsTtlOrNone (stated_ttl before entry) (option_or (option_or own d.default_ttl) d.last_ttl)
ttl_stated origin before entry d own so_far own_ttl = search rules

pub has_by : (o : Option (List ℕ)) (stated last : Option ℕ) (n : ℕ) (Last : ℕ → Type 0) → IsTtlOrNone o stated → IsOneOrNone Last last → option_or stated last ≡ Some n → MatchOption o (Last n) (λ text. IsTime text n)
has_by None stated last n Last absent is e = grind arith
has_by (Some text) None last n Last ttl is e = absurd ttl
has_by (Some text) (Some m) last n Last ttl is e = let at : m ≡ n = cc in subst (IsTime text) at ttl.time

pub none_by : (o : Option (List ℕ)) (stated last : Option ℕ) (Last : ℕ → Type 0) → IsTtlOrNone o stated → IsOneOrNone Last last → option_or stated last ≡ None → (n : ℕ) → MatchOption o (Last n) (λ text. IsTime text n) → ⊥
none_by o stated last Last absent is e n has = search rules

-- ---- directives that are read

one_item : (items : List RawItem) (text : List ℕ) → one_bare items ≡ Some text → items ≡ bare text ∷ []
one_item items text one = grind arith

pub origin_set : (origin : Labels) (before : List Entry) (entry : Entry) (d : ParserState) (items : List RawItem) (text : List ℕ) (name : Labels) → IsStateAfter origin before d → statement_of entry ≡ sets_origin items → one_bare items ≡ Some text → Spells (Some d.origin) text name → StatesNothing origin before (statement_of entry) × IsStateAfter origin (entry ∷ before) (record d { origin = name })
origin_set origin before entry d items text name so_far form one spelled =
    let spells : SpellsAfter origin before text name = (d.origin, (so_far.under, spelled)) in
    let item : items ≡ bare text ∷ [] = one_item items text one in
    let states : StatesNothing origin before (sets_origin items) = rw item (name, spells) in
    let under : IsOrigin origin (entry ∷ before) name = rw (form, item) spells in
    (rw form states, leaves origin before entry (sets_origin items) d name d.default_ttl form refl refl so_far under (search rules))

pub ttl_set : (origin : Labels) (before : List Entry) (entry : Entry) (d : ParserState) (items : List RawItem) (text : List ℕ) (seconds : ℕ) → IsStateAfter origin before d → statement_of entry ≡ sets_ttl items → one_bare items ≡ Some text → IsTtl text seconds → StatesNothing origin before (statement_of entry) × IsStateAfter origin (entry ∷ before) (record d { default_ttl = Some seconds })
ttl_set origin before entry d items text seconds so_far form one is =
    let item : items ≡ bare text ∷ [] = one_item items text one in
    let states : StatesNothing origin before (sets_ttl items) = rw item (seconds, is) in
    let default : IsTtlOrNone (latest default_ttl_text (entry ∷ before)) (Some seconds) = rw (form, item) is in
    (rw form states, leaves origin before entry (sets_ttl items) d d.origin (Some seconds) form refl refl so_far (rw form (so_far.under)) default)

pub ttl_refused : (origin : Labels) (before : List Entry) (entry : Entry) (items : List RawItem) (text : List ℕ) (fault : Fault) → statement_of entry ≡ sets_ttl items → one_bare items ≡ Some text → (fault ≡ BadTtl) × ((seconds : ℕ) → IsTtl text seconds → ⊥) → EntryFault origin before entry fault
ttl_refused origin before entry items text fault form one bad = of_statement (rw (form, one_item items text one) bad)

-- a record entry up to its data, and the TTL that is looked for
pub record IsReadTo (origin : Labels) (before : List Entry) (entry : Entry) (d : ParserState)
    (head : Head) (own : Option ℕ) (rdata : Data) (last found : Option ℕ) : Type 0 where
  pub held : Option Labels
  pub state : IsStateAfter origin before (with_owner held d)
  pub has : HasHeadOf origin before entry head
  pub own_ttl : IsTtlOrNone (ttl_text (statement_of entry)) own
  pub class : rdata.class ≡ head.class
  pub kind : rdata.kind ≡ head.kind
  pub states : States d.origin head.class head.kind head.items rdata.octets
  pub least : last ≡ option_or (minimum rdata) d.minimum
  pub ttl : found ≡ option_or (option_or (option_or own d.default_ttl) d.last_ttl) last

-- ---- the owner

module _ (origin : Labels) (before : List Entry) (entry : Entry) where
  -- an entry states the owner that became the last one
  pub has_stated_owner : (d : ParserState) (name : Labels) (owner : RawItem) (items : List RawItem) → statement_of entry ≡ owned owner items → IsStateAfter origin before d → IsOwner origin before (owned owner items) name → HasOwnerOrNone origin before entry (with_owner (Some name) d) items
  has_stated_owner d name owner items form so_far owns = grind arith

  pub no_owner : (d : ParserState) (items : List RawItem) → HasOwnerOrNone origin before entry d items → d.owner ≡ None → EntryFault origin before entry NoOwner
  no_owner d items has e = subst (λ o. MatchOption o (EntryFault origin before entry NoOwner) (λ name. IsRecordEntry origin before entry d name items × IsLastOwner origin (entry ∷ before) name)) e has

  pub one_owner : (d : ParserState) (items : List RawItem) (name : Labels) → HasOwnerOrNone origin before entry d items → d.owner ≡ Some name → IsRecordEntry origin before entry d name items × IsLastOwner origin (entry ∷ before) name
  one_owner d items name has e = subst (λ o. MatchOption o (EntryFault origin before entry NoOwner) (λ own. IsRecordEntry origin before entry d own items × IsLastOwner origin (entry ∷ before) own)) e has

  -- ---- data and TTL

  pub rdata_refused : (d : ParserState) (name : Labels) (items : List RawItem) (head : Head) (fault : Fault) → IsRecordEntry origin before entry d name items → HasHeadOf origin before entry head → IsDataFault d.origin head.class head.kind head.items fault → EntryFault origin before entry fault
  rdata_refused d name items head fault is has bad = of_rdata head.owner head.class head.kind head.items d.origin has is.state.under bad

  pub read_to : (d : ParserState) (name : Labels) (items : List RawItem) (head : Head) (own : Option ℕ) (rdata : Data) (a stated soa last result found : Option ℕ) → IsRecordEntry origin before entry d name items → HasHeadOf origin before entry head × IsTtlOrNone (ttl_text (statement_of entry)) own → rdata.class ≡ head.class → rdata.kind ≡ head.kind → States d.origin head.class head.kind head.items rdata.octets → a ≡ option_or own d.default_ttl → stated ≡ option_or a d.last_ttl → soa ≡ minimum rdata → last ≡ option_or soa d.minimum → result ≡ option_or stated last → result ≡ found → IsReadTo origin before entry d head own rdata last found
  read_to d name items head own rdata a stated soa last result found is has class kind states first second of_soa least third is_found = grind arith

has_contents : (origin : Labels) (before : List Entry) (entry : Entry) (d : ParserState) (head : Head) (own : Option ℕ) (rdata : Data) (last found : Option ℕ) → IsReadTo origin before entry d head own rdata last found → HasContents origin before entry head.owner rdata
has_contents origin before entry d head own rdata last found is = record { items = head.items; above = d.origin; head = rw (is.class, is.kind) (is.has); under = is.state.under; states = rw (is.class, is.kind) (is.states) }

last_is : Lower → (origin : Labels) (before : List Entry) (entry : Entry) (d : ParserState) (head : Head) (own : Option ℕ) (rdata : Data) (last found : Option ℕ) → IsReadTo origin before entry d head own rdata last found → IsOneOrNone (IsLastMinimum origin (entry ∷ before)) last
last_is lower origin before entry d head own rdata last found is = rw is.least (minimum_by lower origin before entry head.owner rdata (minimum rdata) d.minimum (has_contents origin before entry d head own rdata last found is) refl is.state.minimum)

pub no_ttl : Lower → (origin : Labels) (before : List Entry) (entry : Entry) (d : ParserState) (head : Head) (own : Option ℕ) (rdata : Data) (last : Option ℕ) → IsReadTo origin before entry d head own rdata last None → EntryFault origin before entry NoTtl
no_ttl lower origin before entry d head own rdata last is =
    of_ttl head.owner rdata (has_contents origin before entry d head own rdata last None is)
    (none (none_by (stated_ttl before entry) (option_or (option_or own d.default_ttl) d.last_ttl) last (IsLastMinimum origin (entry ∷ before)) (ttl_stated origin before entry (with_owner is.held d) own is.state is.own_ttl) (last_is lower origin before entry d head own rdata last None is) (sym is.ttl)))

ttl_is : Lower → (origin : Labels) (before : List Entry) (entry : Entry) (d : ParserState) (head : Head) (own : Option ℕ) (rdata : Data) (last : Option ℕ) (n : ℕ) → IsReadTo origin before entry d head own rdata last (Some n) → HasTtl origin before entry n
ttl_is lower origin before entry d head own rdata last n is = grind (arith, has_by (stated_ttl before entry) (option_or (option_or own d.default_ttl) d.last_ttl) last n (IsLastMinimum origin (entry ∷ before)) (ttl_stated origin before entry (with_owner is.held d) own is.state is.own_ttl) (last_is lower origin before entry d head own rdata last (Some n) is) (sym is.ttl))

pub long_ttl : Lower → (origin : Labels) (before : List Entry) (entry : Entry) (d : ParserState) (head : Head) (own : Option ℕ) (rdata : Data) (last : Option ℕ) (n : ℕ) → IsReadTo origin before entry d head own rdata last (Some n) → 2147483647 < n → EntryFault origin before entry BadTtl
long_ttl lower origin before entry d head own rdata last n is over = search (rules, has_contents, ttl_is, of_ttl, long)

-- ---- the record

pub states_record : Lower → (origin : Labels) (before : List Entry) (entry : Entry) (d : ParserState) (head : Head) (own : Option ℕ) (rdata : Data) (last : Option ℕ) (n : ℕ) (r : Record) → IsReadTo origin before entry d head own rdata last (Some n) → r ≡ record { owner = head.owner; class = rdata.class; kind = rdata.kind; ttl = n; octets = rdata.octets } → IsRecord r → EntryStates origin before entry r
states_record lower origin before entry d head own rdata last n r is e fits =
    rw e (record {
      contents = has_contents origin before entry d head own rdata last (Some n) is;
      ttl = ttl_is lower origin before entry d head own rdata last n is;
      fits = rw e at fits;
    })

pub record_left : Lower → (origin : Labels) (before : List Entry) (entry : Entry) (d next : ParserState) (head : Head) (own : Option ℕ) (rdata : Data) (last found : Option ℕ) (owner : Option Labels) → IsReadTo origin before entry d head own rdata last found → next.origin ≡ d.origin → next.class ≡ head.class → next.default_ttl ≡ d.default_ttl → next.last_ttl ≡ option_or own d.last_ttl → next.minimum ≡ last → IsOneOrNone (IsLastOwner origin (entry ∷ before)) owner → IsStateAfter origin (entry ∷ before) (with_owner owner next)
record_left lower origin before entry d next head own rdata last found owner is above class default_ttl last_ttl least owner_is =
    let minimum_is : IsOneOrNone (IsLastMinimum origin (entry ∷ before)) next.minimum = rw least (last_is lower origin before entry d head own rdata last found is) in
    let state = is.state in
    let has = is.has in
    search (rules, is.own_ttl)
