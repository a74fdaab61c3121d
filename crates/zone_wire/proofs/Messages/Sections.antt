-- The sections of a message: as what they are read, and where they end.
use Rattle.zone_wire.proofs.Common.{AreAt, AreRecordsAt, Bool, Err, Fault, Found, HasHeader, IsMessage, IsParsed, IsPartAt, IsQuestionAt, IsRecordAt, List, MatchResult, MessageFault, None, Ok, Option, Outcome, Result, Sections, Some, TrailingOctets, [], after_header, and_then, ap, arith, common_steps, cond-true, each_from, eq-eqb, false, get_or, header_fault, if◌then◌else◌, inside, length, name_end_of, named, ne_eqb, not, outcome, parsed, part_end_of, question_at, questions_from, record_at, records_from, refl, refused, run_end_of, sections_of, sections_or_none, subst, suc, sym, true, u16_at, unless_faulted, walk, zero, ℕ, ◌+◌, ◌-◌, ◌<◌, ◌==◌, ◌∙◌, ◌∷◌, ◌≡◌, ◌≢◌, ◌≤◌}
use Rattle.zone_wire.proofs.Names.Walking.{name_walks, walk_names, one_name, name_bounds}

pub and_then_ok : {X Y E : Type 0} (r : Result X E) (x : X) (next : X → Result Y E) → r ≡ Ok x → and_then r next ≡ next x
and_then_ok r x next e = ap (λ z. and_then z next) e

pub and_then_err : {X Y E : Type 0} (r : Result X E) (e : E) (next : X → Result Y E) → r ≡ Err e → and_then r next ≡ Err e
and_then_err r e next h = ap (λ z. and_then z next) h

pub not_other : (a b : ℕ) → a ≡ b → not (a == b) ≡ false
not_other a b e = ap not (eq-eqb a b e)

pub header_reads : (octets : List ℕ) → HasHeader octets → header_fault octets ≡ None
unfolding header_fault
header_reads octets is = grind arith

-- parts that begin with a name
module _ {X : Type 0} {octets : List ℕ} {by : Found → X} {end_of : X → ℕ} (offset : ℕ) where
  pub part_reads : (x : X) → IsPartAt octets by end_of offset x → inside octets by end_of (outcome octets (walk octets offset)) ≡ Ok x
  part_reads x is = grind (arith, name_walks)

  pub one_part : (x y : X) → IsPartAt octets by end_of offset x → IsPartAt octets by end_of offset y → x ≡ y
  one_part x y is too = grind (arith, one_name)

pub each_reads : {X : Type 0} (read : ℕ → Result X Fault) (end_of : X → ℕ) (Is : ℕ → X → Type 0) → ((offset : ℕ) (x : X) → Is offset x → read offset ≡ Ok x) → (xs : List X) (count offset past : ℕ) → length xs ≡ count → AreAt Is end_of offset xs past → each_from read end_of count offset ≡ Ok (xs, past)
each_reads read end_of Is reads [] count offset past size are = grind (arith, common_steps)
each_reads read end_of Is reads (x ∷ xs) zero offset past size are = absurd (omega arith)
each_reads read end_of Is reads (x ∷ xs) (suc count) offset past size are = grind (arith, reads offset x are.0, each_reads read end_of Is reads xs count (end_of x) past (omega arith) are.1)

pub questions_read : (octets : List ℕ) (s : Sections) (is : IsMessage octets s) → questions_from octets (u16_at octets 4) 12 ≡ Ok (s.questions, is.past_questions)
questions_read octets s is = each_reads (question_at octets) (λ q. q.end) (IsQuestionAt octets) part_reads s.questions (u16_at octets 4) 12 is.past_questions is.question_count is.questions

-- a message is read as its sections
pub sections_read : (octets : List ℕ) (s : Sections) → IsMessage octets s → sections_of octets ≡ Ok s
unfolding sections_of
sections_read octets s is =
    ap (λ (h : Option Fault). unless_faulted h (after_header octets)) (header_reads octets is.header)
    ∙ and_then_ok _ (s.questions, is.past_questions) _ (questions_read octets s is)
    ∙ and_then_ok _ (s.answers, is.past_answers) _ (each_reads (record_at octets) (λ r. r.end) (IsRecordAt octets) (λ o x. part_reads o x) s.answers (u16_at octets 6) is.past_questions is.past_answers is.answer_count is.answers)
    ∙ and_then_ok _ (s.additional, length octets) _ (each_reads (record_at octets) (λ r. r.end) (IsRecordAt octets) (λ o x. part_reads o x) s.additional (u16_at octets 10) is.past_answers (length octets) is.additional_count is.additional)
    ∙ cond-true _ _ _ (eq-eqb (length octets) (length octets) refl)
    ∙ ap (λ n. Ok (record s { id = n })) (sym is.id)

-- a test that is passed
pub passes : {X E : Type 0} (test : Bool) (x y : X) (fault : E) → (if test then Ok x else Err fault) ≡ Ok y → (test ≡ true) × (x ≡ y)
passes test x y fault e = grind arith

pub one_message : (octets : List ℕ) (s t : Sections) → IsMessage octets s → IsMessage octets t → s ≡ t
one_message octets s t is too = let read = sections_read octets s is in let also = sections_read octets t too in cc

-- ---- where names, questions and records of a message end, and the first fault before that
ended_inside : (message : List ℕ) (offset : ℕ) → ((k : ℕ) → get_or message k 0 < 256) → (o : Outcome) → outcome message (walk message offset) ≡ o → (end : ℕ) → Ok end ≡ name_end_of o → end ≤ length message
ended_inside message offset each (named found) e end ends = grind (arith, name_bounds message offset found (walk_names message offset found each e))
ended_inside message offset each (refused fault steps) e end ends = cc

-- a name ends inside its message
pub name_ends_inside : (message : List ℕ) (offset : ℕ) → ((k : ℕ) → get_or message k 0 < 256) → (end : ℕ) → Ok end ≡ name_end_of (outcome message (walk message offset)) → end ≤ length message
name_ends_inside message offset each end ends = grind (arith, ended_inside)

-- one more of so many records
pub records_go_on : (octets : List ℕ) (count done offset next : ℕ) → done < count → Ok next ≡ part_end_of (λ r. r.end) (record_at octets offset) → run_end_of (records_from octets (count - done) offset) ≡ run_end_of (records_from octets (count - (done + 1)) next)
records_go_on octets count done offset next h e = grind arith

pub records_refused : (octets : List ℕ) (count done offset : ℕ) (fault : Fault) → done < count → Err fault ≡ part_end_of (λ r. r.end) (record_at octets offset) → Err (fault, offset) ≡ run_end_of (records_from octets (count - done) offset)
records_refused octets count done offset fault h e = grind arith

pub records_end_here : (octets : List ℕ) (left offset : ℕ) → left ≡ 0 → run_end_of (records_from octets left offset) ≡ Ok offset
records_end_here octets left offset e = ap (λ n. run_end_of (records_from octets n offset)) e

-- ---- the sections of a message by where each of them ends
pub header_refused : (octets : List ℕ) (fault : Fault) → Some fault ≡ header_fault octets → sections_of octets ≡ Err (fault, 0)
unfolding sections_of
header_refused octets fault e = ap (λ (h : Option Fault). unless_faulted h (after_header octets)) (sym e)

-- a header without a fault counts its parts
pub has_header : (octets : List ℕ) → None ≡ header_fault octets → HasHeader octets
unfolding header_fault
has_header octets e = grind arith

module _ (octets : List ℕ) (none : None ≡ header_fault octets) where
  pub questions_refused : (e : Fault × ℕ) → Err e ≡ run_end_of (questions_from octets (u16_at octets 4) 12) → sections_of octets ≡ Err e
  unfolding sections_of
  questions_refused e h = grind arith

  module _ (answers : ℕ) (after : Ok answers ≡ run_end_of (questions_from octets (u16_at octets 4) 12)) where
    pub answers_refused : (e : Fault × ℕ) → Err e ≡ run_end_of (records_from octets (u16_at octets 6) answers) → sections_of octets ≡ Err e
    unfolding sections_of
    answers_refused e h = grind arith

    module _ (additional : ℕ) (later : Ok additional ≡ run_end_of (records_from octets (u16_at octets 6) answers)) where
      pub additional_refused : (e : Fault × ℕ) → Err e ≡ run_end_of (records_from octets (u16_at octets 10) additional) → sections_of octets ≡ Err e
      unfolding sections_of
      additional_refused e h = grind arith

      module _ (end : ℕ) (last : Ok end ≡ run_end_of (records_from octets (u16_at octets 10) additional)) where
        pub trailing : end ≢ length octets → sections_of octets ≡ Err (TrailingOctets, 0)
        unfolding sections_of
        trailing h = grind (arith, ne_eqb)

        passed : end ≡ length octets → (e : Fault × ℕ) → sections_of octets ≡ Err e → ⊥
        unfolding sections_of
        passed same e is = grind (arith, eq-eqb)

        -- the sections of a message whose answers begin there
        pub parses : end ≡ length octets → (r : Result Sections (Fault × ℕ)) → sections_of octets ≡ r → MatchResult r (IsMessage octets) (λ (e : Fault × ℕ). MessageFault octets e.0 e.1) → IsParsed octets answers
        parses e (Ok s) is m =
            let held : s ≡ (parsed octets).sections = ap sections_or_none (sym is) in
            let run = questions_read octets s m in
            let begin : m.past_questions ≡ answers = grind arith in
            record {
              message = subst (IsMessage octets) held m;
              past = m.past_answers;
              begin = subst (λ (t : Sections). AreRecordsAt octets answers t.answers m.past_answers) held (subst (λ n. AreRecordsAt octets n s.answers m.past_answers) begin m.answers);
            }
        parses e (Err f) is m = absurd (passed e f is)

pub ruleset structure_is_read = (header_refused, has_header, questions_refused, answers_refused, additional_refused, trailing)

pub ruleset records_are_passed = (records_go_on, records_refused, records_end_here)
