-- The values of fields are read in a message: parts of its octets, numbers, and names.
use Rattle.zone_wire.proofs.Common.{on_ok_weaker, fault_answered, BadRdata, Err, Fault, Field, FieldValue, Found, IsNameAt, List, Name, NameFault, Octets, Ok, OneString, Serial, U16, [], ap, arith, common_steps, cond-false, drop, drop-drop, drop-take, drop_more, field_at, fixed, get_or, length, lt-leb, name, name_before, octets_between, outcome, refl, sized_before, slice_index, string, string_at, sym, take, take-append-drop, take-take, take_all, u16_at, u16_value, u32_at, u32_value, value_at, walk, ℕ, ◌++◌, ◌+◌, ◌-◌, ◌<◌, ◌∙◌, ◌∷◌, ◌≡◌, ◌≤◌, Cursor, Reads, TakesOctets, next_value, Awaits, Built, FitsString, IsPushFault, IsReadyFor, Pushes, PutsValue, Some, Suits, Time, length-append, octets_push, parts_for, put_after, ◌⊎◌, rules, IfErr, IfErr-fault, IfFault, Failing, Result}
use Rattle.zone_wire.proofs.Fields.ReadFields.{name_reads}
use Rattle.zone_wire.proofs.Names.Walking.{name_walks, name_refuses}

-- ---- parts of octets
pub part_len : (octets : List ℕ) (start past : ℕ) → past ≤ length octets → length (octets_between octets start past) ≡ past - start
part_len octets start past within = grind (arith, common_steps)

-- a part is cut in two
pub between_join : (octets : List ℕ) (start mid end : ℕ) → start ≤ mid → mid ≤ end → octets_between octets start end ≡ octets_between octets start mid ++ octets_between octets mid end
between_join octets start mid end before after =
    let n : ℕ = mid - start in
    let m : ℕ = end - mid in
    let whole : end - start ≡ n + m = omega arith in
    let at : start + n ≡ mid = omega arith in
    let xs : List ℕ = drop start octets in
    ap (λ k. take k xs) whole
    ∙ sym (take-append-drop n (take (n + m) xs))
    ∙ ap (λ t. t ++ drop n (take (n + m) xs)) (take-take n (n + m) xs (omega arith))
    ∙ ap (λ t. take n xs ++ t) (drop-take n m xs ∙ ap (take m) (drop-drop n start octets ∙ ap (λ k. drop k octets) at))

-- the octets from an offset on by the first of them
pub between_first : (octets : List ℕ) (start past : ℕ) → start < past → start < length octets → octets_between octets start past ≡ get_or octets start 0 ∷ octets_between octets (start + 1) past
between_first octets start past some inside = grind (arith, drop_more)

-- ---- fields of so many octets
abbrev pub IsSizedAt : Cursor → Field → ℕ → Type 0
IsSizedAt c field size = next_value c field ≡ sized_before c.message.now c.end c.at field size

pub fixed_sized : (c : Cursor) (size : ℕ) → IsSizedAt c (Octets size) size
unfolding value_at
fixed_sized c size = refl

pub string_sized : (c : Cursor) → IsSizedAt c OneString (1 + slice_index c.message.now c.at)
unfolding value_at
string_sized c = refl

pub sized_refused : (c : Cursor) (size : ℕ) (field : Field) (fault : Fault) → IsSizedAt c field size → (fault ≡ BadRdata) × (c.end < c.at + size) → next_value c field ≡ Err fault
sized_refused c size field fault is bad = grind arith

pub sized_fails : (c : Cursor) (size : ℕ) (field : Field) (fault : Fault) → IsSizedAt c field size → next_value c field ≡ Err fault → (fault ≡ BadRdata) × (c.end < c.at + size)
sized_fails c size field fault is e = grind arith

-- octets that are taken are the value that is next
pub sized_read : (old new : Cursor) (size : ℕ) (field : Field) (part : List ℕ) (value : FieldValue) → IsSizedAt old field size → TakesOctets old new size part → field_at field part ≡ value → Reads old new field value
sized_read old new size field part value is taken same = record { read = grind (arith, new.order); same = taken.same }

pub two_read : (old new : Cursor) (part : List ℕ) (n : ℕ) → TakesOctets old new 2 part → n ≡ u16_at part 0 → Reads old new U16 (u16_value n)
unfolding value_at
two_read old new part n taken is = sized_read old new 2 U16 part (u16_value n) refl taken (grind (arith, common_steps, taken.len))

pub two_cut : (c : Cursor) (fault : Fault) → (fault ≡ BadRdata) × (c.end < c.at + 2) → next_value c U16 ≡ Err fault
unfolding value_at
two_cut c fault = sized_refused c 2 U16 fault refl

pub long_read : (old new : Cursor) (part : List ℕ) (n : ℕ) → TakesOctets old new 4 part → n ≡ u32_at part 0 → Reads old new Serial (u32_value n)
unfolding value_at
long_read old new part n taken is = sized_read old new 4 Serial part (u32_value n) refl taken (grind (arith, common_steps, taken.len))

pub long_cut : (c : Cursor) (fault : Fault) → (fault ≡ BadRdata) × (c.end < c.at + 4) → next_value c Serial ≡ Err fault
unfolding value_at
long_cut c fault = sized_refused c 4 Serial fault refl

pub fixed_read : (old new : Cursor) (size : ℕ) (part : List ℕ) → TakesOctets old new size part → Reads old new (Octets size) (fixed part)
fixed_read old new size part taken = sized_read old new size (Octets size) part (fixed part) (fixed_sized old size) taken (ap fixed (take_all size part (omega (arith, taken.len))))

-- its length is the octet that is taken first
module _ (old mid : Cursor) (one : List ℕ) (taken : TakesOctets old mid 1 one) where
  counted : slice_index one 0 ≡ slice_index old.message.now old.at
  counted = grind (arith, common_steps)

  pub string_read : (new : Cursor) (text : List ℕ) → TakesOctets mid new (slice_index one 0) text → Reads old new OneString (string text)
  string_read new text then = record { read = grind (arith, counted, string_sized, new.order, new.inside, common_steps, octets_between, string, string_at, between_first, take_all, get_or); same = then.same ∙ taken.same }

  pub string_cut : (fault : Fault) → (fault ≡ BadRdata) × (mid.end < mid.at + slice_index one 0) → next_value old OneString ≡ Err fault
  string_cut fault bad = sized_refused old _ OneString fault (string_sized old) (bad.0, omega (arith, bad.1, counted, taken.at, ap (λ (d : List ℕ × ℕ). d.1) taken.same))

pub string_uncounted : (c : Cursor) (fault : Fault) → (fault ≡ BadRdata) × (c.end < c.at + 1) → next_value c OneString ≡ Err fault
string_uncounted c fault bad = sized_refused c _ OneString fault (string_sized c) (bad.0, omega (arith, bad.1))

-- ---- a value that is read and pushed
pub unrefused : (old new : Cursor) (b : Built) (field : Field) (value : FieldValue) → Awaits old b field → Suits (Some field) value → FitsString value → Reads old new field value → (P : Fault → Type 0) (r : Result (Unit {0}) Failing) → IfErr r (IfFault (IsPushFault b value)) → IfErr r (IfFault P)
unrefused old new b field value w suits fits reads P r = IfErr-fault r _ P (λ fault given. absurd (search (rules, octets_push, length-append)))

pub part_put : (field like : Field) (old new : Cursor) (b put : Built) (value : FieldValue) → next_value old field ≡ next_value old like → parts_for value ≡ value ∷ [] → Reads old new like value → Pushes b value put → PutsValue field old new b put
part_put field like old new b put value same one reads pushed = record { value = value; reads = record { read = same ∙ reads.read; same = reads.same }; put = pushed.made ∙ ap (put_after b) (sym one) }

-- numbers of 32 bits, serials and times alike
pub long_same : (c : Cursor) (field : Field) → (field ≡ Serial) ⊎ (field ≡ Time) → next_value c field ≡ next_value c Serial
unfolding value_at
long_same c field given = grind arith

pub long_ready : (c : Cursor) (b : Built) (field : Field) → (field ≡ Serial) ⊎ (field ≡ Time) → IsReadyFor c b field → Awaits c b Serial
long_ready c b field given ready = grind (arith, long_same)

-- ---- names
pub name_read : (c : Cursor) (found : Found) → IsNameAt c.message.now c.at found → found.end ≤ c.end → next_value c Name ≡ Ok (name found.labels, found.end)
unfolding value_at
name_read c found is fits = name_reads c.end found (outcome c.message.now (walk c.message.now c.at)) (name_walks c.message.now c.at found is) fits

pub name_over : (c : Cursor) (found : Found) → IsNameAt c.message.now c.at found → c.end < found.end → next_value c Name ≡ Err BadRdata
unfolding value_at
name_over c found is over = ap (name_before c.end) (name_walks c.message.now c.at found is) ∙ cond-false _ _ _ (lt-leb found.end c.end over)

pub name_faulty : (c : Cursor) (fault : Fault) → NameFault c.message.now c.at fault → next_value c Name ≡ Err fault
unfolding value_at
name_faulty c fault is = ap (name_before c.end) (name_refuses c.message.now c.at fault is).1

pub ruleset long_reads = (long_read, long_cut)

pub ruleset two_reads = (two_read, two_cut)

pub ruleset string_reads = (string_read, string_uncounted, string_cut)

pub ruleset field_pushed = (fault_answered, on_ok_weaker, long_same, sized_refused, fixed_sized, part_put, fixed_read, long_ready)
