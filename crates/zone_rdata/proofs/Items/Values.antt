-- What items spell is appended, field after field.
use Rattle.zone_rdata.proofs.Common.{[], List, Option, Some, ap, append_assoc, arith, drop, get_or, inr, length, map, min, subst, sym, ℕ, ◌++◌, ◌+◌, ◌<◌, ◌∙◌, ◌∷◌, ◌≡◌, ◌≤◌, flat_map, slice_get, IfNone, IfSome, append-nil, drop_all, Labels, with_length, Fault, Field, Item, FieldValue, SpellsField, field_octets, items_after, own_items, strings, FirstStringFault, SpellEachString, SpellsStrings, StringsFault, RawItem, raw, Appends, AppendsFirst, SpellsString, StringFault, from_place, ◌-◌, take, Bor, Bool, IsTrue, ◌↔◌, length-drop, take_all, drop-drop, FirstFieldFault, IsWordsFault, unspelt, too_long, IsFieldFault, octets_of, IsGeneric, AreSpelt, SpellEach, common_steps, bytes_eq, BadRdata, RdataTooLong, Bare, rules, if_fault_passed}
use Rattle.zone_rdata.proofs.Common.{BadNumber, IsDecimal, IsTime, NoValue}
use Rattle.zone_rdata.proofs.Numbers.TimeLaws.{one_time}
use Rattle.zone_rdata.specs.Fields.Number.{IsNumber, SpellsNumber}
use Rattle.zone_rdata.specs.Fields.Time.{SpellsTime}
use Rattle.zone_rdata.specs.Item.{bare}
use Rattle.zone_rdata.specs.Number.{IsCapped}
use Rattle.std.specs.Int.{w32, to_be_bytes}
use Rattle.zone_rdata.specs.declared.field.Field.TheVariants as fields

-- ---- the items of the field at their front

-- what is stated of the first item is spelled by it
pub first_appended : {X : Type 0} {Stated : X → Type 0} {octets : X → List ℕ} (value : X → FieldValue) (origin : Labels) (field f : Field) (first : Item) (items : List Item) (old new : List ℕ) → field ≡ f → Some first ≡ slice_get items 0 → ((rest : List RawItem) → items_after f (raw first ∷ rest) ≡ rest) → ((x : X) (rest : List RawItem) → Stated x → SpellsField origin f (own_items f (raw first ∷ rest)) (value x)) → ((x : X) → octets x ≡ field_octets (value x)) → Appends Stated octets old new → AppendsFirst origin field (map raw items) (map raw (drop 1 items)) old new
first_appended value origin field f first [] old new which is following spells own done = absurd cc
first_appended value origin field f first (item ∷ items) old new which is following spells own done = grind arith

-- strings are all that is left
pub all_appended : (origin : Labels) (field : Field) (items : List Item) (old new : List ℕ) → field ≡ fields.Strings → Appends (SpellsStrings (map raw items)) (flat_map with_length) old new → AppendsFirst origin field (map raw items) (map raw (drop (length items) items)) old new
all_appended origin field items old new which h = subst (λ f. AppendsFirst origin f (map raw items) (map raw (drop (length items) items)) old new) (sym which) (record {
  appends = record { value = strings h.value; stated = h.stated; written = h.written };
  following = ap (map raw) (drop_all (length items) items (omega arith));
})

-- ---- strings, item by item

-- some items were read, and what the others are, all are
pub record HaveSpelt (items left : List RawItem) (old now : List ℕ) : Type 0 where
  pub leads : (many : List (List ℕ)) → SpellEachString left many → Appends (SpellEachString items) (flat_map with_length) old (now ++ flat_map with_length many)
  pub fault : (fault : Fault) → FirstStringFault left fault → FirstStringFault items fault

pub spelt_more : (all items : List Item) (i : ℕ) (item d : Item) (old now new : List ℕ) → i < length items → item ≡ get_or items i d → HaveSpelt (map raw all) (map raw (drop i items)) old now → Appends (SpellsString (raw item)) with_length now new → HaveSpelt (map raw all) (map raw (drop (i + 1) items)) old new
spelt_more all items i item d old now new lt is read h =
    let here = rw (from_place items i item d lt is) at read in
    record { leads = λ many each. grind (arith, here.leads (h.value ∷ many) (h.stated, each), append_assoc); fault = λ fault bad. here.fault fault (inr (h.value, h.stated, bad)) }

-- there is an item
some_first : (items : List RawItem) (fault : Fault) → FirstStringFault items fault → StringsFault items fault
some_first items fault h = grind arith

pub spelt_bad : (all items : List Item) (i : ℕ) (item d : Item) (old now : List ℕ) (fault : Fault) → i < length items → item ≡ get_or items i d → HaveSpelt (map raw all) (map raw (drop i items)) old now → StringFault (raw item) fault → StringsFault (map raw all) fault
spelt_bad all items i item d old now fault lt is read bad = grind (arith, from_place, some_first)

pub spelt_all : (all items : List Item) (i : ℕ) (old now : List ℕ) → 0 < length all → length items ≤ i → HaveSpelt (map raw all) (map raw (drop i items)) old now → Appends (SpellsStrings (map raw all)) (flat_map with_length) old now
spelt_all [] items i old now some past read = absurd (omega arith)
spelt_all (first ∷ all) items i old now some past read =
    let done : HaveSpelt (map raw (first ∷ all)) [] old now = subst (λ x. HaveSpelt (map raw (first ∷ all)) (map raw x) old now) (drop_all i items past) read in
    let h = done.leads [] tt in
    record { value = h.value; stated = record { some = omega arith; each = h.stated }; written = ap (λ o. o) (sym (append-nil now)) ∙ h.written }

-- ---- numbers

-- no number up to a greatest one is stated where the one that is read is greater, or none is
pub no_number : (Is : ℕ → Type 0) (bound most cap : ℕ) (number : Option ℕ) → ((a b : ℕ) → Is a → Is b → a ≡ b) → bound ≤ most + 1 → most < cap → IfSome number (λ n. (m : ℕ) × (Is m × (n ≡ min cap m))) → IfNone number ((m : ℕ) → Is m → ⊥) → IfSome number (λ n. most < n) → (n : ℕ) → Is n × (n < bound) → ⊥
no_number Is bound most cap number once fits room found none over n h = grind arith

-- the number that was read, where it is no greater
pub that_number : (Is : ℕ → Type 0) (n most cap : ℕ) (number : Option ℕ) → most < cap → number ≡ Some n → n ≤ most → IfSome number (λ n. (m : ℕ) × (Is m × (n ≡ min cap m))) → Is n
that_number Is n most cap number room e short found = grind arith

-- a number of 32 bits is appended where one was read
pub number_read : (Is : ℕ → Type 0) (number : Option ℕ) (old new : List ℕ) → Appends (λ n. (number ≡ Some n) × (n ≤ 4294967295)) (to_be_bytes w32) old new → IfSome number (λ n. (m : ℕ) × (Is m × (n ≡ min 4294967296 m))) → Appends (λ n. Is n × IsNumber w32 n) (to_be_bytes w32) old new
number_read Is number old new h found = record {
  value = h.value;
  stated = (that_number Is h.value 4294967295 4294967296 number (omega arith) h.stated.0 h.stated.1 found, omega (arith, h.stated.1));
  written = h.written;
}

-- and none where it has more
no_read : (Is : ℕ → Type 0) (number : Option ℕ) (fault : Fault) → ((a b : ℕ) → Is a → Is b → a ≡ b) → (fault ≡ BadNumber) × IfSome number (λ n. 4294967295 < n) → IfSome number (λ n. (m : ℕ) × (Is m × (n ≡ min 4294967296 m))) → IfNone number ((m : ℕ) → Is m → ⊥) → NoValue BadNumber (λ n. Is n × IsNumber w32 n) fault
no_read Is number fault once bad found none = (bad.0, no_number Is 4294967296 4294967295 4294967296 number once (omega arith) (omega arith) found none bad.1)

pub no_serial : (text : List ℕ) (number : Option ℕ) (fault : Fault) → (fault ≡ BadNumber) × IfSome number (λ n. 4294967295 < n) → IfSome number (IsCapped (IsDecimal text)) → IfNone number ((m : ℕ) → IsDecimal text m → ⊥) → NoValue BadNumber (SpellsNumber w32 text) fault
no_serial text number fault bad found none = no_read (IsDecimal text) number fault (λ a b x y. x.value ∙ sym y.value) bad found none

pub no_seconds : (text : List ℕ) (number : Option ℕ) (fault : Fault) → (fault ≡ BadNumber) × IfSome number (λ n. 4294967295 < n) → IfSome number (IsCapped (IsTime text)) → IfNone number ((m : ℕ) → IsTime text m → ⊥) → NoValue BadNumber (SpellsTime text) fault
no_seconds text number fault bad found none = no_read (IsTime text) number fault (one_time text) bad found none

pub no_time : (origin : Labels) (field : Field) (first : Item) (items : List Item) (text : List ℕ) (fault : Fault) → field ≡ fields.Time → Some first ≡ slice_get items 0 → raw first ≡ bare text → NoValue BadNumber (SpellsTime text) fault → IsFieldFault origin field (own_items field (map raw items)) fault
no_time origin field first [] text fault is which e own = absurd cc
no_time origin field first (item ∷ items) text fault is which e own = grind arith

pub ruleset strings_spelt = (spelt_all, spelt_more)

-- ---- fields from the left

-- some fields were read, and what the items that are left are for the other fields, all items are
-- for all fields
pub record HaveRead (origin : Labels) (row : List Field) (items : List RawItem) (later : List Field) (left : List RawItem) (octets : List ℕ) : Type 0 where
  pub leads : (values : List FieldValue) → SpellEach origin later left values → AreSpelt origin row items (octets ++ octets_of values)
  pub fault : (fault : Fault) → FirstFieldFault origin later left fault → FirstFieldFault origin row items fault

read_step : (origin : Labels) (row : List Field) (items : List RawItem) (f : Field) (later : List Field) (left rest : List RawItem) (octets new : List ℕ) → HaveRead origin row items (f ∷ later) left octets → AppendsFirst origin f left rest octets new → HaveRead origin row items later rest new
read_step origin row items f later left rest octets new read grows =
    let v = grows.appends.value in
    record {
      leads = λ values h. grind (arith, append_assoc, read.leads (v ∷ values) (grows.appends.stated, subst (λ is. SpellEach origin later is values) grows.following h));
      fault = λ fault h. read.fault fault (inr (v, grows.appends.stated, subst (λ is. FirstFieldFault origin later is fault) grows.following h));
    }

pub read_more : (origin : Labels) (row : List Field) (items : List Item) (i place n : ℕ) (f d : Field) (octets new : List ℕ) → i < length row → f ≡ get_or row i d → HaveRead origin row (map raw items) (drop i row) (map raw (drop place items)) octets → AppendsFirst origin f (map raw (take (length items - place) (drop place items))) (map raw (drop n (take (length items - place) (drop place items)))) octets new → HaveRead origin row (map raw items) (drop (i + 1) row) (map raw (drop (place + n) items)) new
read_more origin row items i place n f d octets new lt found read sliced = grind (arith, common_steps, take_all, length-drop, from_place, drop-drop, read_step)

-- the items of the next field spell no value of it
pub read_bad : (origin : Labels) (row own : List Field) (items : List Item) (i place : ℕ) (f d : Field) (octets : List ℕ) (fault : Fault) → row ≡ own → i < length row → f ≡ get_or row i d → HaveRead origin row (map raw items) (drop i row) (map raw (drop place items)) octets → IsFieldFault origin f (own_items f (map raw (take (length items - place) (drop place items)))) fault → IsWordsFault origin own (map raw items) fault
read_bad origin row own items i place f d octets fault same lt found read sliced = grind (arith, take_all, length-drop, from_place, own_items, raw, unspelt)

nothing_later : (origin : Labels) (row : List Field) (items : List RawItem) (i : ℕ) (left : List RawItem) (octets : List ℕ) → length row ≤ i → HaveRead origin row items (drop i row) left octets → HaveRead origin row items [] left octets
nothing_later origin row items i left octets past read = grind (arith, drop_all)

-- no field is left for the next item
pub read_over : (origin : Labels) (row own : List Field) (items : List RawItem) (i : ℕ) (left : List RawItem) (octets : List ℕ) → row ≡ own → length row ≤ i → 0 < length left → HaveRead origin row items (drop i row) left octets → IsWordsFault origin own items BadRdata
read_over origin row own items i left octets same past some read = grind (arith, nothing_later, unspelt)

pub read_all : (origin : Labels) (row own : List Field) (items : List RawItem) (i : ℕ) (left : List RawItem) (octets : List ℕ) → row ≡ own → length row ≤ i → left ≡ [] → HaveRead origin row items (drop i row) left octets → AreSpelt origin own items octets
read_all origin row own items i left octets same past none read =
    let last : HaveRead origin row items [] [] octets = subst (λ is. HaveRead origin row items [] is octets) none (nothing_later origin row items i left octets past read) in
    subst (λ r. AreSpelt origin r items octets) same (subst (AreSpelt origin row items) (append-nil octets) (last.leads [] tt))

-- all is spelled, and takes too many octets
pub read_long : (origin : Labels) (fields : List Field) (items : List RawItem) (octets : List ℕ) → 65535 < length octets → AreSpelt origin fields items octets → IsWordsFault origin fields items RdataTooLong
read_long origin fields items octets long all = grind (arith, too_long)

-- a text of two octets is those two
pub two_octets : (text : List ℕ) (a b : ℕ) → length text ≡ 2 → get_or text 0 0 ≡ a → get_or text 1 0 ≡ b → text ≡ a ∷ b ∷ []
two_octets (x ∷ y ∷ []) a b len e f = let first : x ≡ a = e in let second : y ≡ b = f in cc
two_octets text a b len e f = absurd (omega arith)

-- a first item that is bare is the mark exactly where its text is
pub generic_first : (items : List Item) (first : Item) (text : Bor (List ℕ)) (mark : List ℕ) (r : Bool) → 0 < length items → first ≡ get_or items 0 first → first ≡ Bare text → mark ≡ 92 ∷ 35 ∷ [] → r ≡ bytes_eq text.now mark → IsTrue r ↔ IsGeneric (map raw items)
generic_first [] first text mark r some at is marks e = absurd (omega arith)
generic_first (i ∷ items) first text mark r some at is marks e =
    let same = ap raw (sym at ∙ is) in
    search rules

pub ruleset words_from_left = (if_fault_passed, drop_all, length-drop, read_all, read_bad, read_more)
