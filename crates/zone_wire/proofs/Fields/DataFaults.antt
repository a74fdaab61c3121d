-- Data that is refused has one first fault, that at which its fields stop being read.
use Rattle.zone_wire.proofs.Common.{AnswerFault, AnswerStates, AreFieldsAt, AreValuesAt, BadRdata, ComesAfter, DataFault, Err, Fault, Field, FieldFault, FieldValue, FieldsFault, Found, HoldEach, IsDataAt, IsFieldAt, IsNameAt, List, MatchOption, MatchResult, Name, NameFault, None, Ok, Option, OrderFault, Outcome, OwnFault, Placed, QuestionAt, Record, RecordAt, Result, Some, Strings, StringsLast, [], and_then, ap, arith, cond_both, data_at, eqb-false, eqb-true, get_or, inl, inr, layout, length, name, name_before, named, nat_le, octets_between, octets_of, outcome, refl, refused, subst, sym, table_row, value_at, values_at, walk, ℕ, ◌<◌, ◌==◌, ◌∙◌, ◌∷◌, ◌≡◌, ◌≤◌}
use Rattle.zone_wire.proofs.Fields.ReadFields.{data_reads, value_reads, value_shows}
use Rattle.zone_wire.proofs.Messages.MessageFaults.{err_same, fails_test}
use Rattle.zone_wire.proofs.Names.Walking.{walk_names, one_name, name_refused, name_one, name_not_both}
use Rattle.zone_wire.proofs.Conditions.{unless_one, unless_holds}

-- what is read for a field is its value, and where none is read this is why
module _ (octets : List ℕ) (each : (k : ℕ) → get_or octets k 0 < 256) (end : ℕ) (within : end ≤ length octets) where
  name_fault : (start : ℕ) (o : Outcome) (fault : Fault) → outcome octets (walk octets start) ≡ o → name_before end o ≡ Err fault → FieldFault octets end Name start fault
  name_fault start (refused f steps) fault is e = inl (name_refused octets start fault steps (is ∙ ap (λ x. refused x steps) (err_same f fault e)))
  name_fault start (named found) fault is e = grind (arith, fails_test (nat_le found.end end) (name found.labels, found.end) BadRdata fault e, walk_names octets start found each is)

  no_value : (start : ℕ) (field : Field) (fault : Fault) → value_at octets end start field ≡ Err fault → (past : ℕ) (value : FieldValue) → IsFieldAt octets end field start past value → ⊥
  no_value start field fault e past value h = let is = value_reads octets end start past field value h.last h.held h.inside within h.stands in cc

  -- where a field has no value, this is why
  field_faults : (start : ℕ) (field : Field) (fault : Fault) → value_at octets end start field ≡ Err fault → FieldFault octets end field start fault
  unfolding value_at
  field_faults start Name fault e = name_fault start (outcome octets (walk octets start)) fault refl e
  field_faults start Strings fault e = (sym (fails_test _ _ BadRdata fault e).1, no_value start Strings fault e)
  field_faults start field fault e = (sym (fails_test _ _ BadRdata fault e).1, no_value start field fault e)

  pub values_told : (fields : List Field) (start : ℕ) → MatchResult (values_at octets end start fields) (λ values. HoldEach fields values × AreValuesAt octets start end values) (FieldsFault octets end fields start)
  values_told [] start = cond_both (start == end) (Ok []) (Err BadRdata) (λ r. MatchResult r (λ values. HoldEach [] values × AreValuesAt octets start end values) (FieldsFault octets end [] start)) (λ same. (tt, eqb-true start end same)) (λ other. (refl, eqb-false start end other))
  values_told (field ∷ fields) start = first (value_at octets end start field) refl (λ past. values_told fields past)
    where
      others : (v : FieldValue × ℕ) → IsFieldAt octets end field start v.1 v.0 → (r : Result (List FieldValue) Fault) → MatchResult r (λ values. HoldEach fields values × AreValuesAt octets v.1 end values) (FieldsFault octets end fields v.1) → MatchResult (and_then r (λ more. let x : Result (List FieldValue) Fault = Ok (v.0 ∷ more) in x)) (λ values. HoldEach (field ∷ fields) values × AreValuesAt octets start end values) (FieldsFault octets end (field ∷ fields) start)
      others v is (Ok values) rest = ((is.held, rest.0), (v.1, is.inside, is.stands, rest.1))
      others v is (Err fault) bad = inr (v.1, v.0, is, bad)

      first : (r : Result (FieldValue × ℕ) Fault) → value_at octets end start field ≡ r → ((past : ℕ) → MatchResult (values_at octets end past fields) (λ values. HoldEach fields values × AreValuesAt octets past end values) (FieldsFault octets end fields past)) → MatchResult (and_then r (λ v. and_then (values_at octets end v.1 fields) (λ more. let x : Result (List FieldValue) Fault = Ok (v.0 ∷ more) in x))) (λ values. HoldEach (field ∷ fields) values × AreValuesAt octets start end values) (FieldsFault octets end (field ∷ fields) start)
      first (Ok v) e more = others v (value_shows octets each end within start field v e) (values_at octets end v.1 fields) (more v.1)
      first (Err fault) e more = inl (field_faults start field fault e)

-- what is read as data is its data, and data that is refused has this first fault
pub data_told : (octets : List ℕ) (a : RecordAt) → ((k : ℕ) → get_or octets k 0 < 256) → a.end ≤ length octets → MatchResult (data_at octets a) (IsDataAt octets a) (DataFault octets a)
unfolding data_at
data_told octets a each within = by (layout a.class a.kind)
  where
    laid : (fields : List Field) (r : Result (List FieldValue) Fault) → MatchResult r (λ values. HoldEach fields values × AreValuesAt octets a.start a.end values) (FieldsFault octets a.end fields a.start) → MatchResult (and_then r (λ values. let x : Result (List ℕ) Fault = Ok (octets_of values) in x)) (AreFieldsAt octets a.start a.end fields) (FieldsFault octets a.end fields a.start)
    laid fields (Ok values) is = record { values = values; held = is.0; stand = is.1; whole = refl }
    laid fields (Err fault) bad = bad

    by : (o : Option (List Field)) → MatchResult (let r : Result (List ℕ) Fault = elim o [ None ↦ Ok (octets_between octets a.start a.end) | Some fields ↦ and_then (values_at octets a.end a.start fields) (λ values. Ok (octets_of values)) ] in r) (λ canonical. MatchOption o (canonical ≡ octets_between octets a.start a.end) (λ fields. AreFieldsAt octets a.start a.end fields canonical)) (λ fault. MatchOption o ⊥ (λ fields. FieldsFault octets a.end fields a.start fault))
    by None = refl
    by (Some fields) = laid fields (values_at octets a.end a.start fields) (values_told octets each a.end within fields a.start)

-- ---- data and answers have one first fault, and none where they have a value
module _ (octets : List ℕ) (end : ℕ) (within : end ≤ length octets) where
  value_one : (field : Field) (start past late : ℕ) (v w : FieldValue) → IsFieldAt octets end field start past v → IsFieldAt octets end field start late w → (v ≡ w) × (past ≡ late)
  value_one field start past late v w is too = grind (arith, value_reads octets end start past field v is.last is.held is.inside within is.stands, value_reads octets end start late field w too.last too.held too.inside within too.stands)

  field_not_both : (field : Field) (start past : ℕ) (v : FieldValue) (f : Fault) → IsFieldAt octets end field start past v → FieldFault octets end field start f → ⊥
  field_not_both Name start past (name labels) f h (inl is) = name_not_both octets start h.stands.0 f h.stands.1 is
  field_not_both Name start past (name labels) f h (inr is) = grind (arith, one_name)
  field_not_both Name start past v f h is = h.held
  field_not_both field start past v f h is = is.1 past v h

  name_past : (start : ℕ) (f g : Fault) → NameFault octets start f → (g ≡ BadRdata) × (found : Found) × IsNameAt octets start found × (end < found.end) → ⊥
  name_past start f g is too = name_not_both octets start too.1 f too.2 is

  field_one : (field : Field) (start : ℕ) (f g : Fault) → FieldFault octets end field start f → FieldFault octets end field start g → f ≡ g
  field_one Name start f g (inl is) (inl too) = name_one octets start f g is too
  field_one Name start f g (inl is) (inr too) = absurd (name_past start f g is too)
  field_one Name start f g (inr is) (inl too) = absurd (name_past start g f too is)
  field_one Name start f g (inr is) (inr too) = is.0 ∙ sym too.0
  field_one field start f g is too = is.0 ∙ sym too.0

  fields_one : (fields : List Field) (start : ℕ) (f g : Fault) → FieldsFault octets end fields start f → FieldsFault octets end fields start g → f ≡ g
  fields_one [] start f g is too = is.0 ∙ sym too.0
  fields_one fields start f g (inl is) too = grind (arith, field_one, field_not_both)
  fields_one (field ∷ fields) start f g (inr is) (inl too) = absurd (field_not_both field start is.0 is.1 g is.2 too)
  fields_one (field ∷ fields) start f g (inr is) (inr too) =
      let same = value_one field start is.0 too.0 is.1 too.1 is.2 too.2 in
      fields_one fields too.0 f g (subst (λ n. FieldsFault octets end fields n f) same.1 is.3) too.3

  -- a field that has its value leaves the fault to those after it
  after : (field : Field) (fields : List Field) (start past : ℕ) (v : FieldValue) (f : Fault) → IsFieldAt octets end field start past v → FieldsFault octets end (field ∷ fields) start f → FieldsFault octets end fields past f
  after field fields start past v f h given = grind (arith, field_not_both, value_one)

  fields_not_both : (fields : List Field) (values : List FieldValue) (start : ℕ) (f : Fault) → StringsLast fields → HoldEach fields values → AreValuesAt octets start end values → FieldsFault octets end fields start f → ⊥
  fields_not_both [] values start f last held stand is = grind arith
  fields_not_both (field ∷ fields) [] start f last held stand is = held
  fields_not_both (field ∷ []) (v ∷ []) start f last held stand is =
      (after field [] start stand.0 v f (record { held = held.0; stands = stand.2; inside = stand.1; last = λ e. stand.3 }) is).1 stand.3
  fields_not_both (field ∷ []) (v ∷ w ∷ values) start f last held stand is = held.1
  fields_not_both (field ∷ next ∷ fields) (v ∷ values) start f last held stand is =
      fields_not_both (next ∷ fields) values stand.0 f last.1 held.1 stand.3
      (after field (next ∷ fields) start stand.0 v f (record { held = held.0; stands = stand.2; inside = stand.1; last = λ e. absurd (last.0 e) }) is)

  row_one : (start : ℕ) (f g : Fault) (row : Option (List Field)) → MatchOption row ⊥ (λ fields. FieldsFault octets end fields start f) → MatchOption row ⊥ (λ fields. FieldsFault octets end fields start g) → f ≡ g
  row_one start f g None is too = absurd is
  row_one start f g (Some fields) is too = fields_one fields start f g is too

  row_not_both : (start : ℕ) (f : Fault) (canonical : List ℕ) (row : Option (List Field)) → ((fields : List Field) → row ≡ Some fields → StringsLast fields) → MatchOption row ⊥ (λ fields. FieldsFault octets end fields start f) → MatchOption row (canonical ≡ octets_between octets start end) (λ fields. AreFieldsAt octets start end fields canonical) → ⊥
  row_not_both start f canonical None last is has = is
  row_not_both start f canonical (Some fields) last is has = fields_not_both fields has.values start f (last fields refl) has.held has.stand is

pub data_one : (octets : List ℕ) (a : RecordAt) (f g : Fault) → a.end ≤ length octets → DataFault octets a f → DataFault octets a g → f ≡ g
data_one octets a f g within is too = row_one octets a.end within a.start f g (layout a.class a.kind) is too

pub data_not_both : (octets : List ℕ) (a : RecordAt) (f : Fault) (canonical : List ℕ) → a.end ≤ length octets → DataFault octets a f → IsDataAt octets a canonical → ⊥
data_not_both octets a f canonical within is has = row_not_both octets a.end within a.start f canonical (layout a.class a.kind) (λ fields e. (table_row a.class a.kind fields e).last) is has

-- the data of a record
pub one_data : (octets : List ℕ) (a : RecordAt) (c d : List ℕ) → a.end ≤ length octets → IsDataAt octets a c → IsDataAt octets a d → c ≡ d
one_data octets a c d inside is too = grind (arith, data_reads)

pub record_unique : (octets : List ℕ) (a : RecordAt) (r t : Record) → a.end ≤ length octets → AnswerStates octets a r → AnswerStates octets a t → r ≡ t
record_unique octets a r t inside x y = grind (arith, one_data)

-- an answer by itself
pub own_one : (octets : List ℕ) (a : RecordAt) (f g : Fault) → a.end ≤ length octets → OwnFault octets a f → OwnFault octets a g → f ≡ g
own_one octets a f g within = search (arith, unless_one, data_one)

pub own_not_both : (octets : List ℕ) (a : RecordAt) (f : Fault) (r : Record) → a.end ≤ length octets → OwnFault octets a f → AnswerStates octets a r → ⊥
own_not_both octets a f r within is s = grind (arith, data_not_both, unless_holds)

-- a record after others
order_one : (questions : List QuestionAt) (before : List Placed) (r : Record) (f g : Fault) → OrderFault questions before r f → OrderFault questions before r g → f ≡ g
order_one questions [] r f g = unless_one (λ _ _. unless_one (λ _ _ no. absurd no))
order_one questions (opening ∷ others) r f g = unless_one (λ _ _. unless_one (λ _ _ no. absurd no))

order_not_both : (questions : List QuestionAt) (before : List Placed) (r : Record) (f : Fault) → ComesAfter questions before r → OrderFault questions before r f → ⊥
order_not_both questions before r f comes is = grind arith

-- an answer after others
module _ (octets : List ℕ) (questions : List QuestionAt) (before : List Placed) (a : RecordAt) (within : a.end ≤ length octets) where
  pub answer_not_both : (f : Fault) (r : Record) → AnswerFault octets questions before a f → AnswerStates octets a r → ComesAfter questions before r → ⊥
  answer_not_both f r (inl is) states comes = own_not_both octets a f r within is states
  answer_not_both f r (inr is) states comes = grind (arith, order_not_both, record_unique)

  pub answer_one : (f g : Fault) → AnswerFault octets questions before a f → AnswerFault octets questions before a g → f ≡ g
  answer_one f g (inl is) (inl too) = own_one octets a f g within is too
  answer_one f g (inl is) (inr too) = absurd (own_not_both octets a f too.0 within is too.1)
  answer_one f g (inr is) (inl too) = absurd (own_not_both octets a g is.0 within too is.1)
  answer_one f g (inr is) (inr too) = grind (arith, order_one, record_unique)
