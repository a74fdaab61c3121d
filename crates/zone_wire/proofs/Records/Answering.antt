-- An answer of a message is read as the record that it states, in the order of a transfer, or has its first fault.
use Rattle.zone_wire.proofs.Common.{stands_stop, stands_none, stands_record, if_fault_passed, AgreeWith, AllByRecursion, AnswerFault, AnswerStates, AnswersGive, AreFieldsAt, AreRecordsAt, AreValuesAt, AsksFor, BadClass, Bool, Built, Bytes, ComesAfter, CompressibleType, Data, DataFault, Err, Failing, Fault, Field, FieldValue, HoldEach, IfErr, IfFault, IfOk, IsClass, IsData, IsDataAt, IsErr, IsKind, IsName, IsRead, IsReadable, IsRecord, IsRecordAt, List, MatchOption, MatchResult, Message, MetaType, None, Ok, Option, OrderFault, OwnFault, Placed, QuestionAt, RawRecord, Record, RecordAt, Result, Some, ZoneAsked, [], agrees, and_cases, and_from, and_parts, and_then, answer_record, answers_of, ap, arith, before_others, bytes_decides, bytes_each, common_steps, compressible, data_at, eq-eqb, eqb-false, eqb-true, fails, false, holds, if◌then◌else◌, inl, inr, is_meta, is_no_class, layout, length, list_any, nat_eq, ne_eqb, no_more, not, not-false, octets_between, octets_of, or_from, or_parts, order_fault, own_record, pointwise_decides, refl, rules, same_name, same_record, states, subst, sym, true, ttl_of, zone_of, ℕ, ⊤, ◌&&◌, ◌++◌, ◌<◌, ◌==◌, ◌∷◌, ◌≡◌, ◌≢◌, ◌≤◌}
use Rattle.zone_wire.proofs.Messages.Sections.{not_other}
use Rattle.zone_rdata.proofs.Octets.Layouts.{held_data, stringless_short}
use Rattle.zone_rdata.specs.declared.fault.Failing.TheVariants as failings
use Rattle.zone_wire.proofs.Fields.DataFaults.{data_told, own_not_both, record_unique}
use Rattle.zone_wire.proofs.Conditions.{option_unless, told_test}
use Rattle.zone_wire.proofs.Messages.MessageFaults.{some_same, same_by}
use Rattle.zone_wire.proofs.Names.Walking.{take_each, drop_each}
use Rattle.zone_wire.proofs.Fields.ReadFields.{IsRow, each_row}
use Rattle.zone_wire.specs.AnswerFault.{refused}

pub holds_data : (n : ℕ) → IsClass n → is_no_class n ≡ false
holds_data n is = grind arith

pub none_of : (kind : ℕ) (kinds : List ℕ) → AllByRecursion (λ k. kind ≢ k) kinds → list_any (nat_eq kind) kinds ≡ false
none_of kind [] each = refl
none_of kind (k ∷ kinds) each = or_from (nat_eq kind k) (list_any (nat_eq kind) kinds) (ne_eqb kind k each.0) (none_of kind kinds each.1)

pub names_same : (n m : List (List ℕ)) → n ≡ m → same_name n m ≡ true
names_same n m e = (pointwise_decides bytes_decides n m).1 e

pub records_same : (r s : Record) → r ≡ s → same_record r s ≡ true
records_same r s e = search (rules, true, and_from, names_same, eq-eqb)

-- records, if there are any, begin with the zone's SOA
abbrev pub OpensWith : Record → List Placed → Type 0
OpensWith zone [] = ⊤
OpensWith zone (opening ∷ placed) = opening.rr ≡ zone

abbrev pub is_soa : Placed → Bool
is_soa p = p.rr.kind == 6

-- a record that can stand after others
abbrev pub Follows : Record → List Placed → Placed → Type 0
Follows zone [] p = (p.rr ≡ zone) × (zone.kind ≡ 6)
Follows zone (opening ∷ others) p = (list_any is_soa others ≡ false) × (p.rr.kind ≡ 6 → p.rr ≡ opening.rr)

abbrev pub InOrder : Record → List Placed → List Placed → Type 0
InOrder zone before [] = ⊤
InOrder zone before (p ∷ placed) = Follows zone before p × InOrder zone (before ++ p ∷ []) placed

pub follows_comes : (zone : Record) (questions : List QuestionAt) (before : List Placed) (p : Placed) → AllByRecursion (AsksFor zone) questions → Follows zone before p → ComesAfter questions before p.rr
follows_comes zone questions before p ask follows = grind arith

-- ---- records and names that are told apart by tests
pub each_other : (kind : ℕ) (kinds : List ℕ) → list_any (nat_eq kind) kinds ≡ false → AllByRecursion (λ k. kind ≢ k) kinds
each_other kind [] e = tt
each_other kind (k ∷ kinds) e = let parts = or_parts (nat_eq kind k) (list_any (nat_eq kind) kinds) e in (eqb-false kind k parts.0, each_other kind kinds parts.1)

-- records that agree in each part
pub equal_parts : (r t : Record) → r.owner ≡ t.owner → r.class ≡ t.class → r.kind ≡ t.kind → r.ttl ≡ t.ttl → r.octets ≡ t.octets → r ≡ t
equal_parts r t owner class kind ttl octets = grind arith

pub names_equal : (n m : List (List ℕ)) → same_name n m ≡ true → n ≡ m
names_equal n m e = (pointwise_decides bytes_decides n m).0 e

pub records_equal : (r s : Record) → same_record r s ≡ true → r ≡ s
records_equal r s e = search (rules, and_parts, equal_parts, names_equal, eqb-true)

-- ---- the faults of answers are those at which their records stop being read
class_by : (n : ℕ) → n < 65536 → is_no_class n ≡ false → IsClass n
class_by n few e = grind arith

module _ (octets : List ℕ) (each : Bytes octets) (few : length octets ≤ 65535) where
  values_short : (class kind start end : ℕ) (fields : List Field) (values : List FieldValue) → layout class kind ≡ Some fields → HoldEach fields values → AreValuesAt octets start end values → IsRow (Some fields) → length (octets_of values) ≤ 65535
  values_short class kind start end fields values row held stand given = grind (arith, common_steps, stringless_short)

  data_by : (class kind start end : ℕ) (canonical : List ℕ) (row : Option (List Field)) → layout class kind ≡ row → MatchOption row (canonical ≡ octets_between octets start end) (λ fields. AreFieldsAt octets start end fields canonical) → IsData class kind canonical
  data_by class kind start end canonical None row is = grind (arith, common_steps, bytes_each, take_each, drop_each)
  data_by class kind start end canonical (Some fields) row is =
      subst (IsData class kind) (sym is.whole)
      (held_data class kind fields is.values row is.held (values_short class kind start end fields is.values row is.held is.stand (subst IsRow row (each_row class kind))))

  -- an answer that stands in octets states the record as which it is read by itself, and is refused with its first fault
  pub own_told : (offset : ℕ) (a : RecordAt) → IsRecordAt octets offset a → MatchResult (own_record octets a) (AnswerStates octets a) (OwnFault octets a)
  unfolding own_record
  own_told offset a at =
      let words : (a.class < 65536) × (a.kind < 65536) = grind arith in
      told_test (AnswerStates octets a) _ (is_no_class a.class) BadClass _ (holds_data a.class) (class_by a.class words.0) (λ class.
      told_test (AnswerStates octets a) _ (is_meta a.kind) MetaType _ (λ k. k.stored) (λ stored. record { short = words.1; stored = stored }) (λ kind.
      told_test (AnswerStates octets a) (DataFault octets a) (list_any (nat_eq a.kind) compressible) CompressibleType _ (none_of a.kind compressible) (each_other a.kind compressible) (λ readable.
      by class kind readable (data_at octets a) (data_told octets a each at.inside))))
    where
      by : IsClass a.class → IsKind a.kind → IsReadable a.kind → (r : Result (List ℕ) Fault) → MatchResult r (IsDataAt octets a) (DataFault octets a) → MatchResult (and_then r (λ canonical. let x : Result Record Fault = Ok (record { owner = a.owner; class = a.class; kind = a.kind; ttl = ttl_of a.ttl; octets = canonical }) in x)) (AnswerStates octets a) (DataFault octets a)
      by class kind readable (Ok canonical) is = record {
        owner = refl;
        class = refl;
        kind = refl;
        ttl = refl;
        rdata = is;
        readable = readable;
        fits = record {
          owner = subst IsName (sym (ap (λ (x : RecordAt). x.owner) at.stands)) at.name.name;
          ttl = grind arith;
          rdata = record { class = class; kind = kind; octets = data_by a.class a.kind a.start a.end canonical (layout a.class a.kind) refl is };
        };
      }
      by class kind readable (Err fault) bad = bad

pub agrees_by : (zone : Option ZoneAsked) (name : List (List ℕ)) (class : ℕ) → agrees zone name class ≡ true → AgreeWith zone name class
agrees_by None name class e = tt
agrees_by (Some zone) name class e = let p = and_parts (same_name name zone.name) (class == zone.class) e in (names_equal name zone.name p.0, eqb-true _ _ p.1)

pub agrees_true : (zone : Option ZoneAsked) (name : List (List ℕ)) (class : ℕ) → AgreeWith zone name class → agrees zone name class ≡ true
agrees_true None name class is = refl
agrees_true (Some zone) name class is = grind (arith, names_same)

pub disagrees : (zone : Option ZoneAsked) (name : List (List ℕ)) (class : ℕ) → agrees zone name class ≡ false → AgreeWith zone name class → ⊥
disagrees zone name class e is = let yes = agrees_true zone name class is in cc

last_test : (test : Bool) (fault other : Fault) → (if test then None else Some fault) ≡ Some other → (test ≡ false) × (fault ≡ other)
last_test true fault other e = cc
last_test false fault other e = (refl, some_same fault other e)

-- a record after others is refused with its first fault
pub order_faults : (questions : List QuestionAt) (before : List Placed) (r : Record) (fault : Fault) → order_fault questions before r ≡ Some fault → OrderFault questions before r fault
order_faults questions before r fault e = grind (arith, option_unless, not_other, same_by, last_test, disagrees, agrees, zone_of, fails, records_same, and_cases, eq-eqb, records_equal, not-false)

-- a record that isn't refused stands after others
pub order_stands : (questions : List QuestionAt) (before : List Placed) (r : Record) → order_fault questions before r ≡ None → ComesAfter questions before r
order_stands questions before r e = grind (arith, agrees_by, and_cases, eq-eqb, records_equal, not-false)

-- ---- the records of a message's answers up to the first that has a fault are those that are read
-- it stands somewhere
abbrev pub IsInMessage : List ℕ → RecordAt → Type 0
IsInMessage octets a = (offset : ℕ) × IsRecordAt octets offset a

pub each_stands : (octets : List ℕ) (offset end : ℕ) (answers : List RecordAt) → AreRecordsAt octets offset answers end → AllByRecursion (IsInMessage octets) answers
each_stands octets offset end [] are = tt
each_stands octets offset end (a ∷ answers) are = ((offset, are.0), each_stands octets a.end end answers are.1)

module _ (octets : List ℕ) (each : Bytes octets) (few : length octets ≤ 65535) (questions : List QuestionAt) where
  answer_told : (before : List Placed) (a : RecordAt) → IsInMessage octets a → MatchResult (answer_record octets questions before a) (λ r. AnswerStates octets a r × ComesAfter questions before r) (AnswerFault octets questions before a)
  unfolding answer_record
  answer_told before a at = by (own_record octets a) (own_told octets each few at.0 a at.1)
    where
      judged : (r : Record) → AnswerStates octets a r → (o : Option Fault) → order_fault questions before r ≡ o → MatchResult (let x : Result Record Fault = elim o [ Some fault ↦ Err fault | None ↦ Ok r ] in x) (λ r. AnswerStates octets a r × ComesAfter questions before r) (AnswerFault octets questions before a)
      judged r is None e = (is, order_stands questions before r e)
      judged r is (Some fault) e = inr (r, is, order_faults questions before r fault e)

      by : (r : Result Record Fault) → MatchResult r (AnswerStates octets a) (OwnFault octets a) → MatchResult (and_then r (λ r. let x : Result Record Fault = elim (order_fault questions before r) [ Some fault ↦ Err fault | None ↦ Ok r ] in x)) (λ r. AnswerStates octets a r × ComesAfter questions before r) (AnswerFault octets questions before a)
      by (Ok r) is = judged r is (order_fault questions before r) refl
      by (Err fault) bad = inl bad

  -- the records that are read are given
  pub answers_give : (number : ℕ) (answers : List RecordAt) (before : List Placed) → AllByRecursion (IsInMessage octets) answers → let x = answers_of number octets questions before answers in AnswersGive number octets questions before answers x.placed x.fault
  answers_give number [] before at = no_more
  answers_give number (a ∷ answers) before at = by (answer_record octets questions before a) (answer_told before a at.0) (λ p. answers_give number answers (before ++ p ∷ []) at.1)
    where
      by : (r : Result Record Fault) → MatchResult r (λ r. AnswerStates octets a r × ComesAfter questions before r) (AnswerFault octets questions before a) → ((p : Placed) → let x = answers_of number octets questions (before ++ p ∷ []) answers in AnswersGive number octets questions (before ++ p ∷ []) answers x.placed x.fault) → let x = before_others number a.offset r (λ p. answers_of number octets questions (before ++ p ∷ []) answers) in AnswersGive number octets questions before (a ∷ answers) x.placed x.fault
      by (Err fault) bad others = refused bad
      by (Ok r) is others = states is.0 refl is.1 (others (record { rr = r; place = Message number a.offset }))

-- ---- one record, or one fault
abbrev pub IsOnlyAnswer : List ℕ → RecordAt → Result Record Failing → Type 0
IsOnlyAnswer octets a result = (r : Record) → AnswerStates octets a r → IfOk result (λ s. s ≡ r) × IfErr result (λ e. e ≡ failings.Memory)

pub only_answer : (raw now : RawRecord) → raw ≡ now → (offset : ℕ) → Bytes raw.octets → IsRecordAt raw.octets offset raw.at → (result : Result Record Failing) → IfOk result (AnswerStates now.octets now.at) → IfErr result (IfFault (OwnFault now.octets now.at)) → IsOnlyAnswer now.octets now.at result
only_answer raw now view offset each at result shows faults =
    subst (λ (v : RawRecord). IfOk result (AnswerStates v.octets v.at) → IfErr result (IfFault (OwnFault v.octets v.at)) → IsOnlyAnswer v.octets v.at result) view (by result) shows faults
  where
    by : (result : Result Record Failing) → IfOk result (AnswerStates raw.octets raw.at) → IfErr result (IfFault (OwnFault raw.octets raw.at)) → IsOnlyAnswer raw.octets raw.at result
    by (Ok s) shows faults r is = (record_unique raw.octets raw.at s r at.inside shows is, tt)
    by (Err (failings.Fault fault)) shows faults r is = absurd (own_not_both raw.octets raw.at fault r at.inside faults is)
    by (Err failings.Memory) shows faults r is = (tt, refl)

pub only_failing : (raw now : RawRecord) → raw ≡ now → (offset : ℕ) → Bytes raw.octets → IsRecordAt raw.octets offset raw.at → (result : Result Record Failing) → IsErr result → IfErr result (IfFault (OwnFault now.octets now.at)) → IsOnlyAnswer now.octets now.at result
only_failing raw now view offset each at (Ok s) bad faults = absurd (let t : ⊥ = cc in t)
only_failing raw now view offset each at (Err e) bad faults = only_answer raw now view offset each at (Err e) tt faults

-- ---- class, type and data
pub own_data : (octets : List ℕ) (a : RecordAt) (fault : Fault) → IsClass a.class → IsKind a.kind → IsReadable a.kind → DataFault octets a fault → OwnFault octets a fault
own_data octets a fault class kind readable is = holds class (holds kind (holds readable is))

pub data_is_refused : (raw now : RawRecord) → raw ≡ now → (offset : ℕ) → Bytes raw.octets → IsRecordAt raw.octets offset raw.at → (fault : Fault) → data_at now.octets now.at ≡ Err fault → DataFault now.octets now.at fault
data_is_refused raw now view offset each at fault e = grind (arith, data_told now.octets now.at)

pub data_is_read : (raw now : RawRecord) → raw ≡ now → (offset : ℕ) → Bytes raw.octets → IsRecordAt raw.octets offset raw.at → (b : Built) (canonical : List ℕ) → IsRead now.octets now.at b → canonical ≡ octets_of b.parts → IsDataAt now.octets now.at canonical
data_is_read raw now view offset each at b canonical is same = grind (arith, data_told now.octets now.at)

-- the record of an answer that is made of its parts
pub stated : (raw now : RawRecord) → raw ≡ now → (class kind ttl : ℕ) (d : Data) (r : Record)
    → r ≡ record { owner = raw.at.owner; class = d.class; kind = d.kind; ttl = ttl; octets = d.octets }
    → IsRecord r → d.class ≡ class → d.kind ≡ kind → class ≡ now.at.class → kind ≡ now.at.kind → ttl ≡ ttl_of raw.at.ttl
    → IsDataAt now.octets now.at d.octets → IsReadable now.at.kind → AnswerStates now.octets now.at r
stated raw now view class kind ttl d r made fits its_class its_kind is_class is_kind is_ttl stands readable = grind arith

pub ruleset answer_refused = (own_data, if_fault_passed)

pub ruleset answer_judged = (if_fault_passed, order_faults, order_stands)

pub ruleset given_stands = (stands_record, stands_none, stands_stop)
