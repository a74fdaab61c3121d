-- The data of a record is read as the values that stand there.
use Rattle.zone_wire.proofs.Common.{AllByRecursion, AreFieldsAt, AreStrings, AreValuesAt, Fault, Field, FieldValue, Found, HoldEach, Holds, IsDataAt, IsFieldAt, IsString, IsValueAt, List, MatchOption, Name, None, Octets, Ok, OneString, Option, Outcome, RecordAt, Result, Serial, Some, Strings, StringsLast, Time, U16, [], and_from, and_parts, and_then, ap, append-nil, arith, be_bytes_4, bytes_each, common_steps, cond-true, data_at, drop, eq-eqb, field_at, field_octets, fixed, flat_map, from_be_bytes, get_or, layout, le-leb, length, length-frames, length-take, lt-ltb, ltb-true, name, name_before, named, octets_between, octets_of, outcome, refl, refused, rules, sized_before, slice_index, some_frames, string, string_at, strings, strings_before, strings_by, strings_of, suc, sym, table_row, take, take_all, to_be_bytes, u16_value, u32_value, value_at, values_at, w16, w32, walk, with_length, zero, ℕ, ⊤, ◌+◌, ◌-◌, ◌<◌, ◌^◌, ◌∙◌, ◌∷◌, ◌≡◌, ◌≢◌, ◌≤◌, ◌⊎◌}
use Rattle.zone_rdata.proofs.Fields.AnyField.{field_back}
use Rattle.zone_rdata.proofs.Octets.StringFields.{strings_back}
use Rattle.zone_wire.proofs.Messages.Sections.{and_then_ok, passes}
use Rattle.zone_wire.proofs.Names.Walking.{name_walks, walk_names, take_each, drop_each}

pub name_reads : (end : ℕ) (found : Found) (o : Outcome) → o ≡ named found → found.end ≤ end → name_before end o ≡ Ok (name found.labels, found.end)
name_reads end found o e h = ap (name_before end) e ∙ cond-true _ _ _ (le-leb _ _ h)

-- a value of this many octets
sized_reads : (octets : List ℕ) (end start next : ℕ) (field : Field) (v : FieldValue) (size : ℕ) → length (field_octets v) ≡ size → field_at field (field_octets v) ≡ v → next ≤ end → end ≤ length octets → (start ≤ next) × (octets_between octets start next ≡ field_octets v) → sized_before octets end start field size ≡ Ok (v, next)
sized_reads octets end start next field v size len back before within stands = grind (arith, common_steps)

-- a value is read back from its octets
back : (field : Field) (v : FieldValue) → Holds field v → (field ≡ Strings → ⊥) → field_at field (field_octets v) ≡ v
back field v h other = ap (field_at field) (sym (append-nil (field_octets v))) ∙ field_back field v [] h (λ e. absurd (other e))

-- the first octet of a part
pub part_first : (octets : List ℕ) (start past : ℕ) → start < past → get_or (octets_between octets start past) 0 0 ≡ slice_index octets start
part_first octets start past h = grind (arith, common_steps)

pub strings_read : (octets : List ℕ) (end : ℕ) (many : List (List ℕ)) → AreStrings many → octets ≡ flat_map with_length many → strings_before end octets ≡ Ok (strings many, end)
strings_read octets end many are is = search (rules, strings_back, length-frames, cond-true, and_from, lt-ltb)

string_size : (octets : List ℕ) (start next : ℕ) (text : List ℕ) → next ≤ length octets → (start ≤ next) × (octets_between octets start next ≡ with_length text) → suc (length text) ≡ 1 + slice_index octets start
string_size octets start next text within stands = grind (arith, part_first)

-- the value of a field, where strings go on to the end
pub value_reads : (octets : List ℕ) (end start next : ℕ) (field : Field) (v : FieldValue) → (field ≡ Strings → next ≡ end) → Holds field v → next ≤ end → end ≤ length octets → IsValueAt octets start next v → value_at octets end start field ≡ Ok (v, next)
unfolding value_at
value_reads octets end start next Name (name labels) last h before within s = grind (arith, name_reads, name_walks)
value_reads octets end start next Serial (u32_value n) last h before within s = sized_reads octets end start next Serial (u32_value n) 4 refl (back Serial (u32_value n) h (λ e. cc)) before within s
value_reads octets end start next Time (u32_value n) last h before within s = sized_reads octets end start next Time (u32_value n) 4 refl (back Time (u32_value n) h (λ e. cc)) before within s
value_reads octets end start next U16 (u16_value n) last h before within s = sized_reads octets end start next U16 (u16_value n) 2 refl (back U16 (u16_value n) h (λ e. cc)) before within s
value_reads octets end start next (Octets n) (fixed text) last h before within s = sized_reads octets end start next (Octets n) (fixed text) n h.size (back (Octets n) (fixed text) h (λ e. cc)) before within s
value_reads octets end start next OneString (string text) last h before within s = sized_reads octets end start next OneString (string text) (1 + slice_index octets start) (string_size octets start next text (omega arith) s) (back OneString (string text) h (λ e. cc)) before within s
value_reads octets end start next Strings (strings many) last h before within s = let e : next ≡ end = last refl in strings_read (octets_between octets start end) end many h (ap (octets_between octets start) (sym e) ∙ s.1) ∙ ap (λ n. Ok (strings many, n)) (sym e)
value_reads octets end start next field v last h before within s = absurd h

values_read : (octets : List ℕ) (end : ℕ) → end ≤ length octets → (fields : List Field) (values : List FieldValue) (start : ℕ) → StringsLast fields → HoldEach fields values → AreValuesAt octets start end values → values_at octets end start fields ≡ Ok values
values_read octets end within [] values start last h s = grind arith
values_read octets end within (f ∷ fields) [] start last h s = absurd h
values_read octets end within (f ∷ []) (v ∷ []) start last h s = grind (arith, and_then_ok, value_reads, cond-true, eq-eqb)
values_read octets end within (f ∷ []) (v ∷ w ∷ values) start last h s = absurd h.1
values_read octets end within (f ∷ g ∷ fields) (v ∷ values) start last h s = grind (arith, values_read octets end within (g ∷ fields) values s.0 last.1 h.1 s.3, and_then_ok, value_reads)

layout_reads : (octets : List ℕ) (start end : ℕ) (canonical : List ℕ) (o : Option (List Field)) → ((fields : List Field) → o ≡ Some fields → StringsLast fields) → end ≤ length octets → MatchOption o (canonical ≡ octets_between octets start end) (λ fields. AreFieldsAt octets start end fields canonical) → (let r : Result (List ℕ) Fault = elim o [ None ↦ Ok (octets_between octets start end) | Some fields ↦ and_then (values_at octets end start fields) (λ values. Ok (octets_of values)) ] in r) ≡ Ok canonical
layout_reads octets start end canonical o last within is = grind (arith, values_read)

-- the data of a record
pub data_reads : (octets : List ℕ) (a : RecordAt) (canonical : List ℕ) → a.end ≤ length octets → IsDataAt octets a canonical → data_at octets a ≡ Ok canonical
unfolding data_at
data_reads octets a canonical within is = layout_reads octets a.start a.end canonical (layout a.class a.kind) (λ fields e. (table_row a.class a.kind fields e).last) within is

-- ---- what is read as the data of a record is its data
abbrev pub Shown : List ℕ → ℕ → ℕ → Field → FieldValue × ℕ → Type 0
Shown octets end start field v = IsFieldAt octets end field start v.1 v.0

strings_each_by : (n : ℕ) (octets : List ℕ) → ((k : ℕ) → get_or octets k 0 < 256) → AllByRecursion IsString (strings_by n octets)
strings_each_by zero octets small = tt
strings_each_by (suc n) [] small = tt
strings_each_by (suc n) (c ∷ octets) small =
    (record { short = omega (arith, length-take c octets, small 0); each = bytes_each (take c octets) (take_each c octets (λ k. small (suc k))) }, strings_each_by n (drop c octets) (drop_each c octets (λ k. small (suc k))))

pub strings_each : (octets : List ℕ) → ((k : ℕ) → get_or octets k 0 < 256) → AllByRecursion IsString (strings_of octets)
unfolding strings_of
strings_each octets small = strings_each_by (length octets) octets small

module _ (octets : List ℕ) (each : (k : ℕ) → get_or octets k 0 < 256) (end : ℕ) (within : end ≤ length octets) where
  name_shows : (start : ℕ) (o : Outcome) (v : FieldValue × ℕ) → outcome octets (walk octets start) ≡ o → name_before end o ≡ Ok v → Shown octets end start Name v
  name_shows start (named found) v is e = grind (arith, walk_names octets start found each is)
  name_shows start (refused fault steps) v is e = cc

  sized_shows : (start size : ℕ) (field : Field) (v : FieldValue × ℕ) → (start + size ≤ end → Shown octets end start field (field_at field (octets_between octets start (start + size)), start + size)) → sized_before octets end start field size ≡ Ok v → Shown octets end start field v
  sized_shows start size field v shows e = grind arith

  pub part_bytes : (start past : ℕ) (k : ℕ) → get_or (octets_between octets start past) k 0 < 256
  part_bytes start past = take_each (past - start) (drop start octets) (drop_each start octets each)

  part_size : (start size : ℕ) → start + size ≤ end → length (octets_between octets start (start + size)) ≡ size
  part_size start size fits = grind (arith, common_steps)

  long_short : (bs : List ℕ) → ((k : ℕ) → get_or bs k 0 < 256) → from_be_bytes w32 bs < 2 ^ 32
  long_short bs small = omega (arith, small 0, small 1, small 2, small 3)

  two_short : (bs : List ℕ) → ((k : ℕ) → get_or bs k 0 < 256) → from_be_bytes w16 bs < 2 ^ 16
  two_short bs small = omega (arith, small 0, small 1)

  long_stands : (start : ℕ) → start + 4 ≤ end → (start ≤ start + 4) × (octets_between octets start (start + 4) ≡ to_be_bytes w32 (from_be_bytes w32 (take 4 (octets_between octets start (start + 4)))))
  long_stands start fits = grind (arith, part_size, be_bytes_4, part_bytes, take_all)

  two_stands : (start : ℕ) → start + 2 ≤ end → (start ≤ start + 2) × (octets_between octets start (start + 2) ≡ to_be_bytes w16 (from_be_bytes w16 (take 2 (octets_between octets start (start + 2)))))
  two_stands start fits = grind (arith, common_steps)

  -- octets of a fixed number
  fixed_shows : (start n : ℕ) → start + n ≤ end → Shown octets end start (Octets n) (field_at (Octets n) (octets_between octets start (start + n)), start + n)
  fixed_shows start n fits = grind (arith, part_size, take_all, bytes_each, take_each, part_bytes)

  -- a string after its length
  string_shows : (start : ℕ) → start + (1 + slice_index octets start) ≤ end → Shown octets end start OneString (field_at OneString (octets_between octets start (start + (1 + slice_index octets start))), start + (1 + slice_index octets start))
  string_shows start fits =
      let past = start + (1 + slice_index octets start) in
      let bs = octets_between octets start past in
      let h = framed bs (slice_index octets start) (part_bytes start past) (part_size start (1 + slice_index octets start) fits) (part_first octets start past (omega arith)) in
      record { held = h.0; inside = fits; stands = (omega arith, h.1); last = λ e. cc }
    where
      framed : (bs : List ℕ) (size : ℕ) → ((k : ℕ) → get_or bs k 0 < 256) → length bs ≡ 1 + size → get_or bs 0 0 ≡ size → IsString (string_at bs) × (bs ≡ with_length (string_at bs))
      framed [] size small len first = absurd (omega (arith, len))
      framed (c ∷ rest) size small len first =
          let same : length rest ≡ c = omega (arith, len, first) in
          let whole : take c rest ≡ rest = take_all c rest (omega (arith, same)) in
          let text : length (take c rest) ≡ c = ap length whole ∙ same in
          (record { short = omega (arith, text, small 0); each = bytes_each (take c rest) (take_each c rest (λ k. small (suc k))) }, cc)

  -- what is read for a field stands there
  pub value_shows : (start : ℕ) (field : Field) (v : FieldValue × ℕ) → value_at octets end start field ≡ Ok v → Shown octets end start field v
  unfolding value_at
  value_shows start Name v e = name_shows start (outcome octets (walk octets start)) v refl e
  value_shows start Serial v e = sized_shows start 4 Serial v (λ fits. record { held = long_short _ (take_each 4 _ (part_bytes start (start + 4))); inside = fits; stands = long_stands start fits; last = λ f. cc }) e
  value_shows start Time v e = sized_shows start 4 Time v (λ fits. record { held = long_short _ (take_each 4 _ (part_bytes start (start + 4))); inside = fits; stands = long_stands start fits; last = λ f. cc }) e
  value_shows start (Octets n) v e = sized_shows start n (Octets n) v (fixed_shows start n) e
  value_shows start OneString v e = sized_shows start (1 + slice_index octets start) OneString v (string_shows start) e
  value_shows start Strings v e = search (rules, passes, and_parts, ltb-true, length-take, some_frames, strings_each, part_bytes)
  value_shows start U16 v e = sized_shows start 2 U16 v (λ fits. record { held = two_short _ (take_each 2 _ (part_bytes start (start + 2))); inside = fits; stands = two_stands start fits; last = λ f. cc }) e

-- a layout holds no strings, or strings alone
abbrev pub IsRow : Option (List Field) → Type 0
IsRow None = ⊤
IsRow (Some fields) = AllByRecursion (λ field. field ≢ Strings) fields ⊎ (fields ≡ Strings ∷ [])

pub each_row : (class kind : ℕ) → IsRow (layout class kind)
each_row class kind = grind arith
