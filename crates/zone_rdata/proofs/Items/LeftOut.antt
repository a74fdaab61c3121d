-- Of more items than any data can have, those that spell strings may be left out: the others have
-- the same first fault, and state no data.
use Rattle.zone_rdata.proofs.Common.{[], ◌≡◌, ℕ, ◌+◌, ◌<◌, ◌≤◌, List, ◌∷◌, ◌++◌, length, Option, Some, inl, inr, refl, ap, subst, arith, append_assoc, length-append, AllByRecursion, decode_of-ok, length-frames, AllByRecursion-front, Labels, Fault, Field, FirstFieldFault, IsDataFault, IsFaultFor, IsGenericDataFault, IsWordsFault, in_generic_form, malformed, no_value, opaque_words, too_long, unspelt, FieldValue, SpellsField, octets_of, strings, FirstStringFault, SpellEachString, GenericFault, IsGenericForm, JoinTo, StatesGeneric, bad_digits, long_length, no_length, IsGeneric, RawItem, bare, quoted, layout, SpellEach, States, StatesFor, in_octets, in_words, SpellsString, Strings, rules, ⊤}
use Rattle.zone_rdata.specs.DataFault as faults
use Rattle.zone_rdata.specs.LeftOut.{AreShortened, LeavesOut}
use Rattle.zone_rdata.proofs.Words.Tables.{table_row}

-- as a master file has items: a bare one has a text
abbrev pub IsWritten : RawItem → Type 0
IsWritten (bare text) = 0 < length text
IsWritten (quoted text) = ⊤

-- ---- data has at most as many items as octets, but for a few

joined_long : (first more : List RawItem) (octets : List ℕ) → AllByRecursion IsWritten first → JoinTo (first ++ more) octets → length first ≤ length octets
joined_long [] more octets written h = omega arith
joined_long (item ∷ first) more octets written h = grind (arith, decode_of-ok, length-append, joined_long first more)

string_each : (items : List RawItem) (many : List (List ℕ)) → SpellEachString items many → length items ≤ length many
string_each [] many h = omega arith
string_each (item ∷ items) many h = grind (arith, string_each items)

spelt_long : (origin : Labels) (fields : List Field) (items : List RawItem) (values : List FieldValue) → SpellEach origin fields items values → length items ≤ length fields + length (octets_of values)
spelt_long origin (f ∷ fields) (item ∷ items) (v ∷ values) h = grind (arith, string_each, length-frames, length-append, spelt_long origin fields items values)
spelt_long origin fields items values h = grind arith

-- ---- words

strings_fault : (first more others : List RawItem) (fault : Fault) → LeavesOut more others → FirstStringFault (first ++ others) fault → FirstStringFault (first ++ more) fault
strings_fault (item ∷ first) more others fault out (inl bad) = inl bad
strings_fault (item ∷ first) more others fault out (inr h) = inr (h.0, h.1, strings_fault first more others fault out h.2)
strings_fault [] [] others fault out bad = grind arith
strings_fault [] (item ∷ more) others fault out bad = grind (arith, strings_fault [] more)

abbrev SpellSome : List RawItem → Type 0
SpellSome items = (many : List (List ℕ)) × SpellEachString items many

strings_more : (first more others : List RawItem) (many : List (List ℕ)) → LeavesOut more others → SpellEachString (first ++ others) many → SpellSome (first ++ more)
strings_more (item ∷ first) more others [] out h = absurd h
strings_more (item ∷ first) more others (octets ∷ many) out h = let all = strings_more first more others many out h.1 in (octets ∷ all.0, (h.0, all.1))
strings_more [] [] others many out h = ([], tt)
strings_more [] (item ∷ more) others many (inr left) h = let all = strings_more [] more others many left.2 h in (left.0 ∷ all.0, (left.1, all.1))
strings_more [] (item ∷ more) others [] (inl kept) h = absurd (rw kept.1 at h)
strings_more [] (item ∷ more) others (octets ∷ many) (inl kept) h = let here = rw kept.1 at h in let all = strings_more [] more kept.0 many kept.2 here.1 in (octets ∷ all.0, (here.0, all.1))

all_strings : (origin : Labels) (item : RawItem) (first more others : List RawItem) (value : FieldValue) → LeavesOut more others → SpellsField origin Strings (item ∷ first ++ others) value → (all : FieldValue) × SpellsField origin Strings (item ∷ first ++ more) all
all_strings origin item first more others (strings many) out h =
    let all = strings_more (item ∷ first) more others many out h.each in
    (strings all.0, record { some = omega arith; each = all.1 })
all_strings origin item first more others value out h = absurd h

fields_fault : (origin : Labels) (fields : List Field) (first more others : List RawItem) (fault : Fault) → length fields < length first → LeavesOut more others → FirstFieldFault origin fields (first ++ others) fault → FirstFieldFault origin fields (first ++ more) fault
fields_fault origin fields [] more others fault few out bad = absurd (omega (arith, few))
fields_fault origin [] (item ∷ first) more others fault few out bad = bad
fields_fault origin fields first more others fault few out (inl bad) = grind (arith, strings_fault)
fields_fault origin (Strings ∷ fields) (item ∷ first) more others fault few out (inr h) = grind (arith, all_strings origin item first more others h.0 out h.1)
fields_fault origin (f ∷ fields) (item ∷ first) more others fault few out (inr h) = inr (h.0, h.1, fields_fault origin fields first more others fault (omega (arith, few)) out h.2)

fields_more : (origin : Labels) (fields : List Field) (first more others : List RawItem) (values : List FieldValue) → length fields < length first → LeavesOut more others → SpellEach origin fields (first ++ others) values → (all : List FieldValue) × SpellEach origin fields (first ++ more) all
fields_more origin fields [] more others values few out h = absurd (omega (arith, few))
fields_more origin (Strings ∷ fields) (item ∷ first) more others (v ∷ values) few out h =
    let all = all_strings origin item first more others v out h.0 in
    (all.0 ∷ values, (all.1, h.1))
fields_more origin (f ∷ fields) (item ∷ first) more others (v ∷ values) few out h =
    let all = fields_more origin fields first more others values (omega (arith, few)) out h.1 in
    (v ∷ all.0, (h.0, all.1))
fields_more origin fields (item ∷ first) more others values few out h = absurd h

words_fault : (origin : Labels) (fields : List Field) (first more others : List RawItem) (fault : Fault) → length fields ≤ 7 → 65543 ≤ length first → LeavesOut more others → IsWordsFault origin fields (first ++ others) fault → IsWordsFault origin fields (first ++ more) fault
words_fault origin fields first more others fault few many out given = grind (arith, fields_fault, fields_more, spelt_long, length-append, unspelt, too_long)

-- ---- the generic form

form_same : (a b : RawItem) (items others digits : List RawItem) (n : ℕ) → IsGenericForm (a ∷ b ∷ items) n digits → IsGenericForm (a ∷ b ∷ others) n others
form_same a b items others digits n form = grind arith

digits_of : (a b : RawItem) (items digits : List RawItem) (n : ℕ) → IsGenericForm (a ∷ b ∷ items) n digits → digits ≡ items
digits_of a b items digits n form = grind arith

mark_same : (a : RawItem) (items others : List RawItem) → IsGeneric (a ∷ items) → IsGeneric (a ∷ others)
mark_same a items others marked = (others, (let e = marked.1 in cc))

generic_fault : (first more others : List RawItem) (fault : Fault) → AllByRecursion IsWritten first → 65543 ≤ length first → GenericFault (first ++ others) fault → GenericFault (first ++ more) fault
generic_fault (a ∷ b ∷ digits) more others _ written many (no_length marked none) =
    no_length (mark_same a _ _ marked) (λ n found form. none n (digits ++ others) (form_same a b _ _ found n form))
generic_fault (a ∷ b ∷ digits) more others _ written many (long_length n found form over) =
    long_length n (digits ++ more) (form_same a b _ _ found n form) over
generic_fault (a ∷ b ∷ digits) more others _ written many (bad_digits n found form short bad) =
    bad_digits n (digits ++ more) (form_same a b _ _ found n form) short
    (λ octets joined count. absurd (omega (arith, joined_long digits more octets written.1.1 joined, count, short, many)))
generic_fault first more others fault written many bad = absurd (omega (arith, many))

generic_never : (first others : List RawItem) (octets : List ℕ) → AllByRecursion IsWritten first → 65543 ≤ length first → StatesGeneric (first ++ others) octets → ⊥
generic_never (a ∷ b ∷ digits) others octets written many h = grind (arith, digits_of, joined_long)
generic_never first others octets written many h = omega (arith, many)

form_fault : (laid : Option (List Field)) (first more others : List RawItem) (fault : Fault) → AllByRecursion IsWritten first → 65543 ≤ length first → IsGenericDataFault laid (first ++ others) fault → IsGenericDataFault laid (first ++ more) fault
form_fault laid first more others _ written many (malformed fault bad) = malformed fault (generic_fault first more others fault written many bad)
form_fault laid first more others _ written many (no_value fields stated e states none) = absurd (generic_never first others stated written many states)

-- ---- data

abbrev AreFew : Option (List Field) → Type 0
AreFew laid = (fields : List Field) → laid ≡ Some fields → length fields ≤ 7

marked : (first more others : List RawItem) → 65543 ≤ length first → IsGeneric (first ++ others) → IsGeneric (first ++ more)
marked [] more others many h = absurd (omega (arith, many))
marked (a ∷ first) more others many h = mark_same a _ _ h

fault_for : (origin : Labels) (laid : Option (List Field)) (first more others : List RawItem) (fault : Fault) → AreFew laid → AllByRecursion IsWritten first → 65543 ≤ length first → LeavesOut more others → IsFaultFor origin laid (first ++ others) fault → IsFaultFor origin laid (first ++ more) fault
fault_for origin laid first more others _ few written many out (in_generic_form fault bad) = grind (arith, form_fault, in_generic_form)
fault_for origin laid first more others _ few written many out (faults.in_words fields fault e unmarked bad) =
    faults.in_words fields fault e (λ h. unmarked (marked first others more many h)) (words_fault origin fields first more others fault (few fields e) many out bad)
fault_for origin laid first more others _ few written many out (opaque_words e unmarked) = search (rules, marked, opaque_words)

never_for : (origin : Labels) (laid : Option (List Field)) (first others : List RawItem) (octets : List ℕ) → AreFew laid → AllByRecursion IsWritten first → 65543 ≤ length first → StatesFor origin laid (first ++ others) octets → ⊥
never_for origin laid first others octets few written many (in_words fields values e unmarked spelt is short) = grind (arith, spelt_long, length-append)
never_for origin laid first others octets few written many (in_octets h) = generic_never first others h.0 written many h.1

are_few : (class kind : ℕ) → AreFew (layout class kind)
are_few class kind fields e = (table_row class kind fields e).few

-- the others have the first fault of all items
pub fault_of_all : (origin : Labels) (class kind : ℕ) (items kept : List RawItem) (fault : Fault) → AllByRecursion IsWritten items → AreShortened 65543 items kept → IsDataFault origin class kind kept fault → IsDataFault origin class kind items fault
fault_of_all origin class kind items kept fault written short bad = grind (arith, fault_for, are_few, AllByRecursion-front)

-- they state no data
pub state_none : (origin : Labels) (class kind : ℕ) (items kept : List RawItem) (octets : List ℕ) → AllByRecursion IsWritten items → AreShortened 65543 items kept → States origin class kind kept octets → ⊥
state_none origin class kind items kept octets written short h =
    let all = subst (AllByRecursion IsWritten) short.whole written in
    never_for origin (layout class kind) short.first short.others octets (are_few class kind) (AllByRecursion-front IsWritten short.first short.more all) short.many (subst (λ t. StatesFor origin (layout class kind) t octets) short.are_kept h.stated)

-- ---- one item more

leaves_kept : (more others : List RawItem) (item : RawItem) → LeavesOut more others → LeavesOut (more ++ item ∷ []) (others ++ item ∷ [])
leaves_kept [] others item out = inl ([], ap (λ t. t ++ item ∷ []) out, refl)
leaves_kept (x ∷ more) others item (inl kept) = grind (arith, leaves_kept more kept.0 item kept.2)
leaves_kept (x ∷ more) others item (inr left) = grind (arith, leaves_kept more others item left.2)

leaves_less : (more others : List RawItem) (item : RawItem) (octets : List ℕ) → SpellsString item octets → LeavesOut more others → LeavesOut (more ++ item ∷ []) others
leaves_less [] others item octets spells out = inr (octets, spells, out)
leaves_less (x ∷ more) others item octets spells (inl kept) = inl (kept.0, kept.1, leaves_less more kept.0 item octets spells kept.2)
leaves_less (x ∷ more) others item octets spells (inr left) = inr (left.0, left.1, leaves_less more others item octets spells left.2)

-- the item is kept
pub one_kept : (n : ℕ) (items kept : List RawItem) (item : RawItem) → AreShortened n items kept → AreShortened n (items ++ item ∷ []) (kept ++ item ∷ [])
one_kept n items kept item short = grind (arith, append_assoc, leaves_kept)

-- the item is left out
pub one_left_out : (n : ℕ) (items kept : List RawItem) (item : RawItem) (octets : List ℕ) → SpellsString item octets → AreShortened n items kept → AreShortened n (items ++ item ∷ []) kept
one_left_out n items kept item octets spells short = grind (arith, append_assoc short.first short.more (item ∷ []), leaves_less short.more short.others item octets spells short.out)

-- ---- the first of the items

-- both begin with the item
pub record BeginWith (n : ℕ) (items kept : List RawItem) : Type 0 where
  pub item : RawItem
  pub rest : List RawItem
  pub others : List RawItem
  pub whole : items ≡ item ∷ rest
  pub are_kept : kept ≡ item ∷ others
  pub short : AreShortened n rest others

begin_by : (n : ℕ) (items kept first more others : List RawItem) → items ≡ first ++ more → kept ≡ first ++ others → n < length first → LeavesOut more others → BeginWith n items kept
begin_by n items kept [] more others whole are_kept many out = absurd (omega (arith, many))
begin_by n items kept (item ∷ first) more others whole are_kept many out = grind arith

pub begin_with : (m n : ℕ) (items kept : List RawItem) → n < m → AreShortened m items kept → BeginWith n items kept
begin_with m n items kept less short = grind (arith, begin_by n items kept short.first)

-- an item before both
pub after_item : (n : ℕ) (item : RawItem) (items kept : List RawItem) → AreShortened n items kept → AreShortened n (item ∷ items) (item ∷ kept)
after_item n item items kept short = record {
  first = item ∷ short.first;
  more = short.more;
  others = short.others;
  whole = ap (λ t. item ∷ t) short.whole;
  are_kept = ap (λ t. item ∷ t) short.are_kept;
  many = omega (arith, short.many);
  out = short.out;
}

pub are_many : (n : ℕ) (items kept : List RawItem) → AreShortened n items kept → (n ≤ length items) × (n ≤ length kept)
are_many n items kept short = grind (arith, length-append)
