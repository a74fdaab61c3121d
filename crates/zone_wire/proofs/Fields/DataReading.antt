-- The data of a record is read into a builder, field after field and string after string.
use Rattle.zone_wire.proofs.Common.{AllByRecursion, AllByRecursion-append, AreStrings, Awaits, AwaitsStrings, BadRdata, Built, Cursor, Err, Fault, Field, FieldValue, Framed, HoldEach, Holds, IsNext, IsPushFault, IsRead, IsReadyFor, IsRecordAt, IsSized, IsString, IsWhole, List, None, Ok, OneString, Option, Pushes, PutsValue, PutsValues, RawRecord, Reads, RecordAt, Result, Some, Strings, Suits, [], and_parts, and_then, ap, append-nil, append_assoc, arith, bytes_each, common_steps, cond-false, cond-true, data_at, data_of, drop, drop_all, drop_more, ends_with_strings, eq-eqb, field_octets, fixed, flat_map, flat_map-append, framed_short, get_or, if◌then◌else◌, inl, inr, layout, length, length-append, length-take, ltb-true, map, map-append, name, next_value, octets_between, octets_of, octets_push, option_or, part_at, parts_for, put_after, refl, rules, slice_get, slice_index, some_frames, string, strings, strings_before, subst, suc, sym, table_row, u16_value, u32_value, value_at, values_at, with_length, zero, ℕ, ◌*◌, ◌++◌, ◌+◌, ◌<◌, ◌∙◌, ◌∷◌, ◌≡◌, ◌≢◌, ◌≤◌}
use Rattle.zone_rdata.specs.Machine.Fronts.{AreWithLengths}
use Rattle.zone_wire.proofs.Fields.ReadFields.{strings_read, Shown, part_bytes, strings_each, value_shows, IsRow, each_row}
use Rattle.zone_wire.proofs.Fields.FieldReading.{between_first, between_join, part_len, sized_fails, string_sized}
use Rattle.zone_rdata.proofs.Fields.AnyField.{field_short}
use Rattle.zone_wire.proofs.Fields.DataFaults.{values_told}
use Rattle.zone_wire.proofs.Messages.Sections.{and_then_err, and_then_ok}
use Rattle.std.proofs.lemmas.Option.{get_or_from_slice_get, slice_get_cases, slice_get_within}

-- ---- strings
-- strings were put from one place to another
pub record HavePut (from to : Cursor) (old now : Built) : Type 0 where
  pub many : List (List ℕ)
  pub each : AllByRecursion IsString many
  pub parts : octets_between from.message.now from.at to.at ≡ flat_map with_length many
  pub put : now ≡ put_after old (map string many)
  pub same : data_of to ≡ data_of from
  pub past : from.at ≤ to.at

pub octets_of_strings : (many : List (List ℕ)) → octets_of (map string many) ≡ flat_map with_length many
octets_of_strings [] = refl
octets_of_strings (text ∷ many) = ap (λ o. with_length text ++ o) (octets_of_strings many)

-- what a builder of such parts is, whichever it is named
put_parts : (old now : Built) (parts : List FieldValue) → now ≡ put_after old parts → (P : Built → Type 0) → P (put_after old parts) → P now
put_parts old now parts e P h = subst P (sym e) h

pub length-strings : (many : List (List ℕ)) → length (map string many) ≡ length many
length-strings many = grind (arith, common_steps)

-- what is read at a later place stands in the data
pub shown : (from to : Cursor) (field : Field) (v : FieldValue × ℕ) → data_of to ≡ data_of from → next_value to field ≡ Ok v → Shown from.message.now from.end to.at field v
shown from to field v same read = subst (λ (d : List ℕ × ℕ). Shown d.0 d.1 to.at field v) same (value_shows to.message.now to.octets to.end to.inside to.at field v read)

module _ (from to : Cursor) (old now : Built) (h : HavePut from to old now) where
  string_room : (v : FieldValue) (past : ℕ) → AwaitsStrings from old → next_value to OneString ≡ Ok (v, past) → length (octets_of now.parts) + length (field_octets v) ≤ 65535
  string_room v past w read =
      let shows = shown from to OneString (v, past) h.same read in
      grind (arith, from.inside, flat_map-append, length-append, octets_of_strings, part_len)

  pub next_string : AwaitsStrings from old → Awaits to now OneString
  next_string w = record {
    next = λ part suits. put_parts old now (map string h.many) h.put (λ (b : Built). IsNext (layout b.class b.kind) (length b.parts) part)
        (subst (λ n. IsNext (layout old.class old.kind) n part) (sym (length-append old.parts (map string h.many))) (w.next (length (map string h.many)) part (grind arith)));
    sized = tt;
    room = λ value past read. string_room value past w read;
  }

  module _ (next : Cursor) (text : List ℕ) (reads : Reads to next OneString (string text)) where
    stands : IsString text × (to.at ≤ next.at) × (octets_between from.message.now to.at next.at ≡ with_length text)
    stands = let shows = shown from to OneString (string text, next.at) h.same reads.read in (shows.held, shows.stands.0, shows.stands.1)

    pub string_put : (new : Built) → Pushes now (string text) new → HavePut from next old new
    string_put new pushed = record {
      many = h.many ++ text ∷ [];
      each = AllByRecursion-append IsString h.many (text ∷ []) h.each (stands.0, tt);
      parts = between_join from.message.now from.at to.at next.at h.past stands.1 ∙ ap (λ t. t ++ octets_between from.message.now to.at next.at) h.parts
          ∙ ap (λ t. flat_map with_length h.many ++ t) (stands.2 ∙ sym (append-nil (with_length text)))
          ∙ sym (flat_map-append with_length h.many (text ∷ []));
      put = pushed.made ∙ ap (λ (b : Built). put_after b (string text ∷ [])) h.put
          ∙ ap (λ (ps : List FieldValue). let v : Built = record old { parts = ps } in v) (append_assoc old.parts (map string h.many) (string text ∷ []) ∙ ap (λ t. old.parts ++ t) (sym (map-append string h.many (text ∷ []))));
      same = reads.same ∙ h.same;
      past = omega (arith, h.past, stands.1);
    }

    -- a string takes at least its length's octet
    pub string_past : to.at < next.at
    string_past = grind (arith, stands)

module _ (from : Cursor) where
  strings_value : (many : List (List ℕ)) → AreStrings many → octets_between from.message.now from.at from.end ≡ flat_map with_length many → next_value from Strings ≡ Ok (strings many, from.end)
  unfolding value_at
  strings_value many are is = strings_read (octets_between from.message.now from.at from.end) from.end many are is

  pub all_put : (to : Cursor) (old now : Built) → from.at < from.end → to.at ≡ to.end → HavePut from to old now → PutsValue Strings from to old now
  all_put to old now some done h =
      let same : to.at ≡ from.end = done ∙ ap (λ (d : List ℕ × ℕ). d.1) h.same in
      let is : octets_between from.message.now from.at from.end ≡ flat_map with_length h.many = ap (octets_between from.message.now from.at) (sym same) ∙ h.parts in
      let are : AreStrings h.many = record { some = some_frames h.many (omega (arith, some, part_len from.message.now from.at from.end from.inside, ap length is)); each = h.each } in
      record { value = strings h.many; reads = record { read = strings_value h.many are is ∙ ap (λ n. Ok (strings h.many, n)) (sym same); same = h.same }; put = h.put }

  strings_none : (AreWithLengths (octets_between from.message.now from.at from.end) → ⊥) → strings_before from.end (octets_between from.message.now from.at from.end) ≡ Err BadRdata
  strings_none none = search (rules, cond-false, and_parts, some_frames, ltb-true, strings_each, part_bytes)

  strings_fault : (AreWithLengths (octets_between from.message.now from.at from.end) → ⊥) → next_value from Strings ≡ Err BadRdata
  unfolding value_at
  strings_fault none = strings_none none

  pub string_missing : from.at ≡ from.end → next_value from Strings ≡ Err BadRdata
  string_missing same = strings_fault (λ framed. no_frames framed.0 framed.1.some (sym framed.2 ∙ ap (octets_between from.message.now from.at) (sym same) ∙ grind arith))
    where
      no_frames : (many : List (List ℕ)) → 0 < length many → flat_map with_length many ≡ [] → ⊥
      no_frames [] some e = omega arith
      no_frames (text ∷ many) some e = cc

  string_fails : (to : Cursor) (fault : Fault) → data_of to ≡ data_of from → next_value to OneString ≡ Err fault → (fault ≡ BadRdata) × (from.end < to.at + (1 + slice_index from.message.now to.at))
  string_fails to fault same e = subst (λ (d : List ℕ × ℕ). (fault ≡ BadRdata) × (d.1 < to.at + (1 + slice_index d.0 to.at))) same (sized_fails to (1 + slice_index to.message.now to.at) OneString fault (string_sized to) e)

  pub string_bad : (to : Cursor) (old now : Built) (fault : Fault) → to.at ≢ to.end → HavePut from to old now → next_value to OneString ≡ Err fault → next_value from Strings ≡ Err fault
  string_bad to old now fault some h e =
      let f = string_fails to fault h.same e in
      let octets : List ℕ = from.message.now in
      let left : to.at < from.end = omega (arith, some, to.order, ap (λ (d : List ℕ × ℕ). d.1) h.same) in
      let bs : List ℕ = octets_between octets from.at from.end in
      let after : List ℕ = octets_between octets (to.at + 1) from.end in
      let so_far : Framed bs (octets_between octets to.at from.end) = grind (arith, between_join, bytes_each, part_bytes) in
      strings_fault (framed_short bs (octets_between octets to.at from.end) (slice_index octets to.at) (slice_index octets to.at) after so_far (between_first octets to.at from.end left (omega (arith, left, from.inside))) refl (omega (arith, f.1, part_len octets (to.at + 1) from.end from.inside)))
      ∙ ap Err (sym f.0)

-- ---- the data of a record is read into a builder
-- ---- the fields of a layout
from_here : (fields : List Field) (i : ℕ) (field : Field) → slice_get fields i ≡ Some field → drop i fields ≡ field ∷ drop (i + 1) fields
from_here fields i field e = drop_more fields i field (slice_get_within fields i field e) ∙ ap (λ f. f ∷ drop (i + 1) fields) (get_or_from_slice_get fields i field field e)

-- what holds of each field holds of this one
field_of : (P : Field → Type 0) (fields : List Field) (i : ℕ) (field : Field) → slice_get fields i ≡ Some field → AllByRecursion P fields → P field
field_of P [] i field e each = absurd (let t : ⊥ = cc in t)
field_of P (f ∷ fields) zero field e each = let same : f ≡ field = cc in subst P same each.0
field_of P (f ∷ fields) (suc i) field e each = field_of P fields i field e each.1

-- the values of the fields before a place were put
pub record HaveValues (from to : Cursor) (fields : List Field) (old now : Built) (count : ℕ) : Type 0 where
  pub values : List FieldValue
  pub number : length values ≡ count
  pub put : now ≡ put_after old (flat_map parts_for values)
  pub plain : AllByRecursion (λ f. f ≢ Strings) fields → (length (flat_map parts_for values) ≡ count) × (length (octets_of (flat_map parts_for values)) ≤ 256 * count)
  pub leads : (others : List FieldValue) → values_at from.message.now from.end to.at (drop count fields) ≡ Ok others → values_at from.message.now from.end from.at fields ≡ Ok (values ++ others)
  pub fails : (fault : Fault) → values_at from.message.now from.end to.at (drop count fields) ≡ Err fault → values_at from.message.now from.end from.at fields ≡ Err fault
  pub same : data_of to ≡ data_of from

module _ (from : Cursor) (fields : List Field) (old : Built) (laid : layout old.class old.kind ≡ Some fields) (new : old.parts ≡ []) where
  own_parts : (to : Cursor) (now : Built) (count : ℕ) (h : HaveValues from to fields old now count) → now.parts ≡ flat_map parts_for h.values
  own_parts to now count h = ap (λ (b : Built). b.parts) h.put ∙ ap (λ ps. ps ++ flat_map parts_for h.values) new

  plain_next : (to : Cursor) (now : Built) (count : ℕ) (field : Field) → AllByRecursion (λ f. f ≢ Strings) fields → slice_get fields count ≡ Some field → HaveValues from to fields old now count → Awaits to now field
  plain_next to now count field others here h =
      let table = table_row old.class old.kind fields laid in
      let sized = field_of IsSized fields count field here table.sized in
      let other = field_of (λ f. f ≢ Strings) fields count field here others in
      let plain = h.plain others in
      let parts = own_parts to now count h in
      let number : length now.parts ≡ count = ap length parts ∙ plain.0 in
      let at : part_at fields (length now.parts) ≡ Some field = ap (part_at fields) number ∙ ap (λ o. option_or o (if ends_with_strings fields then Some Strings else None)) here in
      record {
        next = λ part suits. subst (λ o. IsNext o (length now.parts) part) (sym (ap (λ (b : Built). layout b.class b.kind) h.put ∙ laid)) (subst (λ o. Suits o part) (sym at) suits);
        sized = sized;
        room = λ value past read.
            let one = field_short field value other sized (shown from to field (value, past) h.same read).held in
            omega (arith, one, plain.1, table.few, slice_get_within fields count field here, ap (λ ps. length (octets_of ps)) parts);
      }

  strings_ready : (to : Cursor) (now : Built) (count : ℕ) (field : Field) → fields ≡ Strings ∷ [] → slice_get fields count ≡ Some field → HaveValues from to fields old now count → IsReadyFor to now field
  strings_ready to now count field alone here h = grind (arith, common_steps, to.short)

  pub field_ready : (to : Cursor) (now : Built) (count : ℕ) (field : Field) → slice_get fields count ≡ Some field → HaveValues from to fields old now count → IsReadyFor to now field
  field_ready to now count field here h = elim (subst IsRow laid (each_row old.class old.kind)) [
    | inl others ↦ (grind (arith, field_of (λ f. f ≢ Strings) fields count field here others, plain_next to now count field others here h))
    | inr alone ↦ strings_ready to now count field alone here h
  ]

  -- the value of the next field is that of the field at a later place
  from_next : (to : Cursor) (now : Built) (count : ℕ) (field : Field) (v : Result (FieldValue × ℕ) Fault) → HaveValues from to fields old now count → next_value to field ≡ v → value_at from.message.now from.end to.at field ≡ v
  from_next to now count field v h e = subst (λ (d : List ℕ × ℕ). value_at d.0 d.1 to.at field ≡ v) h.same e

  pub field_put : (to past : Cursor) (now next : Built) (count : ℕ) (field : Field) → slice_get fields count ≡ Some field → HaveValues from to fields old now count → PutsValue field to past now next → HaveValues from past fields old next (count + 1)
  field_put to past now next count field here h p =
      let shows = shown from to field (p.value, past.at) h.same p.reads.read in
      let rest : List Field = drop (count + 1) fields in
      let more : flat_map parts_for (h.values ++ p.value ∷ []) ≡ flat_map parts_for h.values ++ parts_for p.value = flat_map-append parts_for h.values (p.value ∷ []) ∙ ap (λ t. flat_map parts_for h.values ++ t) (append-nil (parts_for p.value)) in
      let goes : values_at from.message.now from.end to.at (drop count fields) ≡ and_then (values_at from.message.now from.end past.at rest) (λ others. Ok (p.value ∷ others)) = ap (values_at from.message.now from.end to.at) (from_here fields count field here) ∙ and_then_ok (value_at from.message.now from.end to.at field) (p.value, past.at) _ (from_next to now count field _ h p.reads.read) in
      let same : data_of past ≡ data_of from = p.reads.same ∙ h.same in
      grind (arith, length-append, append_assoc, field_of, field_short, table_row, octets_push)

  pub field_bad : (to : Cursor) (now : Built) (count : ℕ) (field : Field) (fault : Fault) → slice_get fields count ≡ Some field → HaveValues from to fields old now count → next_value to field ≡ Err fault → values_at from.message.now from.end from.at fields ≡ Err fault
  field_bad to now count field fault here h e = h.fails fault (ap (values_at from.message.now from.end to.at) (from_here fields count field here) ∙ and_then_err (value_at from.message.now from.end to.at field) fault _ (from_next to now count field _ h e))

  parts_whole : (fs : List Field) (values : List FieldValue) → HoldEach fs values → length fs ≤ length (flat_map parts_for values)
  parts_whole [] [] held = omega arith
  parts_whole [] (v ∷ values) held = absurd held
  parts_whole (f ∷ fs) [] held = absurd held
  parts_whole (f ∷ fs) (v ∷ values) held = omega (arith, some_part f v held.0, parts_whole fs values held.1, length-append (parts_for v) (flat_map parts_for values))
    where
      some_part : (f : Field) (v : FieldValue) → Holds f v → 0 < length (parts_for v)
      some_part Strings (strings many) held = omega (arith, held.some, length-strings many)
      some_part f (strings many) held = absurd held
      some_part f v held = omega arith

  pub all_values : (to : Cursor) (now : Built) (count : ℕ) → slice_get fields count ≡ None → to.at ≡ to.end → HaveValues from to fields old now count → PutsValues from.message.now from.end from.at fields old now
  all_values to now count here done h =
      let same : to.at ≡ from.end = done ∙ ap (λ (d : List ℕ × ℕ). d.1) h.same in
      let read : values_at from.message.now from.end from.at fields ≡ Ok h.values = h.leads [] (ap (values_at from.message.now from.end to.at) (let e : drop count fields ≡ [] = grind (arith, drop_all, slice_get_cases fields count) in e) ∙ cond-true _ _ _ (eq-eqb to.at from.end same)) ∙ ap Ok (append-nil h.values) in
      record {
        values = h.values;
        read = read;
        put = h.put;
        whole = omega (arith, parts_whole fields h.values (rw read at (values_told from.message.now from.octets from.end from.inside fields from.at)).0, ap length (own_parts to now count h));
      }

-- ---- the data of a record
-- its length is a number of 16 bits
pub data_short : (octets : List ℕ) (offset : ℕ) (a : RecordAt) → ((k : ℕ) → get_or octets k 0 < 256) → IsRecordAt octets offset a → (a.start ≤ a.end) × (a.end ≤ a.start + 65535)
data_short octets offset a each is = grind arith

-- the data of a record whose values are read
laid_data : (octets : List ℕ) (a : RecordAt) (fields : List Field) → layout a.class a.kind ≡ Some fields → data_at octets a ≡ and_then (values_at octets a.end a.start fields) (λ values. Ok (octets_of values))
unfolding data_at
laid_data octets a fields e = ap (λ (o : Option (List Field)). let r : Result (List ℕ) Fault = elim o [ None ↦ Ok (octets_between octets a.start a.end) | Some fs ↦ and_then (values_at octets a.end a.start fs) (λ values. Ok (octets_of values)) ] in r) e

opaque_data : (octets : List ℕ) (a : RecordAt) → layout a.class a.kind ≡ None → data_at octets a ≡ Ok (octets_between octets a.start a.end)
unfolding data_at
opaque_data octets a e = ap (λ (o : Option (List Field)). let r : Result (List ℕ) Fault = elim o [ None ↦ Ok (octets_between octets a.start a.end) | Some fs ↦ and_then (values_at octets a.end a.start fs) (λ values. Ok (octets_of values)) ] in r) e

part_octets : (v : FieldValue) → octets_of (parts_for v) ≡ field_octets v
part_octets v = grind (arith, octets_of_strings, append-nil, field_octets, name, u32_value, u16_value)

all_octets : (values : List FieldValue) → octets_of (flat_map parts_for values) ≡ octets_of values
all_octets [] = refl
all_octets (v ∷ values) = flat_map-append field_octets (parts_for v) (flat_map parts_for values) ∙ ap (λ t. t ++ octets_of (flat_map parts_for values)) (part_octets v) ∙ ap (λ t. field_octets v ++ t) (all_octets values)

module _ (octets : List ℕ) (a : RecordAt) (class kind : ℕ) (same_class : class ≡ a.class) (same_kind : kind ≡ a.kind) (old : Built) (new : old ≡ record { class = class; kind = kind; parts = [] }) where
  own_class : (now : Built) (parts : List FieldValue) → now ≡ put_after old parts → (now.class ≡ a.class) × (now.kind ≡ a.kind)
  own_class now parts e = (ap (λ (b : Built). b.class) e ∙ ap (λ (b : Built). b.class) new ∙ same_class, ap (λ (b : Built). b.kind) e ∙ ap (λ (b : Built). b.kind) new ∙ same_kind)

  no_parts : (now : Built) (parts : List FieldValue) → now ≡ put_after old parts → now.parts ≡ parts
  no_parts now parts e = ap (λ (b : Built). b.parts) e ∙ ap (λ (b : Built). b.parts ++ parts) new

  record_laid : (laid : Option (List Field)) → laid ≡ layout class kind → layout a.class a.kind ≡ laid
  record_laid laid e = ap (λ n. layout n a.kind) (sym same_class) ∙ ap (λ n. layout class n) (sym same_kind) ∙ sym e

  pub builder_laid : (laid : Option (List Field)) → laid ≡ layout class kind → layout old.class old.kind ≡ laid
  builder_laid laid e = ap (λ (b : Built). layout b.class b.kind) new ∙ sym e

  pub values_are_read : (fields : List Field) (now : Built) → Some fields ≡ layout class kind → PutsValues octets a.end a.start fields old now → IsRead octets a now
  values_are_read fields now row p =
      let own = own_class now (flat_map parts_for p.values) p.put in
      let laid = record_laid (Some fields) row in
      record {
        class = own.0;
        kind = own.1;
        read = laid_data octets a fields laid ∙ and_then_ok (values_at octets a.end a.start fields) p.values _ p.read ∙ ap Ok (sym (all_octets p.values) ∙ ap octets_of (sym (no_parts now (flat_map parts_for p.values) p.put)));
        whole = subst (λ o. IsWhole o now.parts) (sym laid ∙ ap (λ n. layout n a.kind) (sym own.0) ∙ ap (λ n. layout now.class n) (sym own.1)) p.whole;
      }

  pub values_are_refused : (fields : List Field) (fault : Fault) → Some fields ≡ layout class kind → values_at octets a.end a.start fields ≡ Err fault → data_at octets a ≡ Err fault
  values_are_refused fields fault row e = laid_data octets a fields (record_laid (Some fields) row) ∙ and_then_err (values_at octets a.end a.start fields) fault _ e

  pub octets_are_read : (now : Built) → None ≡ layout class kind → Pushes old (fixed (octets_between octets a.start a.end)) now → IsRead octets a now
  octets_are_read now row p = grind (arith, own_class, record_laid, no_parts, opaque_data, append-nil)

  -- opaque data is at most 65,535 octets
  pub octets_are_taken : (fault : Fault) → None ≡ layout class kind → a.end ≤ a.start + 65535 → IsPushFault old (fixed (octets_between octets a.start a.end)) fault → ⊥
  octets_are_taken fault row short bad = grind (arith, append-nil, builder_laid, length-take)

-- likewise of a record as it is kept
module _ (raw now : RawRecord) (view : raw ≡ now) (class kind : ℕ) (same_class : class ≡ now.at.class) (same_kind : kind ≡ now.at.kind) (old : Built) (new : old ≡ record { class = class; kind = kind; parts = [] }) where
  pub laid_read : (fields : List Field) (built : Built) → Some fields ≡ layout class kind → PutsValues raw.octets raw.at.end raw.at.start fields old built → IsRead now.octets now.at built
  laid_read fields built row p = values_are_read now.octets now.at class kind same_class same_kind old new fields built row (subst (λ (v : RawRecord). PutsValues v.octets v.at.end v.at.start fields old built) view p)

  pub laid_refused : (fields : List Field) (fault : Fault) → Some fields ≡ layout class kind → values_at raw.octets raw.at.end raw.at.start fields ≡ Err fault → data_at now.octets now.at ≡ Err fault
  laid_refused fields fault row e = values_are_refused now.octets now.at class kind same_class same_kind old new fields fault row (subst (λ (v : RawRecord). values_at v.octets v.at.end v.at.start fields ≡ Err fault) view e)

  pub opaque_read : (built : Built) → None ≡ layout class kind → Pushes old (fixed (octets_between raw.octets raw.at.start raw.at.end)) built → IsRead now.octets now.at built
  opaque_read built row p = octets_are_read now.octets now.at class kind same_class same_kind old new built row (subst (λ (v : RawRecord). Pushes old (fixed (octets_between v.octets v.at.start v.at.end)) built) view p)

  pub opaque_taken : (fault : Fault) → None ≡ layout class kind → raw.at.end ≤ raw.at.start + 65535 → IsPushFault old (fixed (octets_between raw.octets raw.at.start raw.at.end)) fault → ⊥
  opaque_taken fault row short bad = octets_are_taken raw.octets raw.at class kind (same_class ∙ ap (λ (v : RawRecord). v.at.class) (sym view)) (same_kind ∙ ap (λ (v : RawRecord). v.at.kind) (sym view)) old new fault row short bad

pub ruleset strings_pushed = (string_missing, string_put, all_put)
