-- Octets are read as the sections of a message, and refused for its first fault.
use Rattle.zone_wire.proofs.Common.{err_from_is_err_and, AreAt, Bool, Bytes, EitherIs, Err, Fault, FaultIn, Found, HasCounts, IsMessage, IsNameAt, IsPartAt, IsQuestionAt, IsRecordAt, IsResponse, IsVerdict, List, MatchResult, MessageFault, NoFault, None, Ok, Option, Outcome, PartFault, QuestionAt, RecordAt, Result, Sections, ShortMessage, Some, TrailingOctets, Unless, [], ancount_of, and_from, and_parts, and_then, ap, arcount_of, arith, at_offset, cond-false, cond_both, each_from, eq-eqb, eqb-false, eqb-true, fails, false, false_from_ne_true, header_fault, holds, if◌then◌else◌, inl, inr, inside, le-leb, le-ltb, leb-true, length, ltb-false, named, nat_le, ne_eqb, not, not-false, outcome, qdcount_of, question_at, question_by, record_at, record_by, refl, refused, sections_of, slice_index, subst, suc, sym, to_the_end, true, u16_at, unless_faulted, walk, zero, ℕ, ◌&&◌, ◌/◌, ◌==◌, ◌∙◌, ◌∷◌, ◌≡◌, ◌⊎◌}
use Rattle.zone_wire.proofs.Conditions.{tells_more, unless_holds, unless_own}
use Rattle.zone_wire.proofs.Messages.Sections.{not_other, one_message, part_reads, sections_read}
use Rattle.zone_wire.proofs.Names.Walking.{name_refused, name_refuses, name_walks, walk_names}

pub err_same : {X E : Type 0} (e f : E) → (let r : Result X E = Err e in r) ≡ Err f → e ≡ f
err_same e f same = cc

pub some_same : {X : Type 0} (x y : X) → Some x ≡ Some y → x ≡ y
some_same x y e = cc

-- a test that fails
pub fails_test : {X E : Type 0} (test : Bool) (x : X) (fault other : E) → (if test then (let r : Result X E = Ok x in r) else Err fault) ≡ Err other → (test ≡ false) × (fault ≡ other)
fails_test test x fault other e = grind arith

-- the first of two stops, or it leads to the second, which stops
pub stops : {X Y E : Type 0} (r : Result X E) (next : X → Result Y E) (e : E) → and_then r next ≡ Err e → (r ≡ Err e) ⊎ ((x : X) × ((r ≡ Ok x) × (next x ≡ Err e)))
stops r next e h = grind arith

pub same_by : (a b : ℕ) → not (a == b) ≡ false → a ≡ b
same_by a b e = eqb-true a b (not-false _ e)

-- What decides between values and faults: what it gives is so, if octets are bytes, and a fault that is so is given.
pub record Judges {X E : Type 0} (Given : Type 0) (r : Result X E) (Is : X → Type 0) (Bad : E → Type 0) : Type 0 where
  pub tells : Given → MatchResult r Is Bad
  pub refuses : (e : E) → Bad e → r ≡ Err e

pub either : {X E : Type 0} (Is : X → Type 0) (Bad : E → Type 0) (r : Result X E) → MatchResult r Is Bad → EitherIs Is Bad
either Is Bad r found = grind arith

-- what begins with a name
part_judges : {X : Type 0} (octets : List ℕ) (by : Found → X) (end_of : X → ℕ) (offset : ℕ) → Judges (Bytes octets) (inside octets by end_of (outcome octets (walk octets offset))) (IsPartAt octets by end_of offset) (PartFault octets (IsPartAt octets by end_of) offset)
part_judges {X} octets by end_of offset = record { tells = λ each. told each (outcome octets (walk octets offset)) refl; refuses = refused_for }
  where
    over : (found : Found) → IsNameAt octets offset found → nat_le (end_of (by found)) (length octets) ≡ false → inside octets by end_of (outcome octets (walk octets offset)) ≡ Err ShortMessage
    over found name late = ap (inside octets by end_of) (name_walks octets offset found name) ∙ cond-false _ _ _ late

    fits : (found : Found) → IsNameAt octets offset found → nat_le (end_of (by found)) (length octets) ≡ true → IsPartAt octets by end_of offset (by found)
    fits found name here = record { found = found; name = name; stands = refl; inside = leb-true _ _ here }

    told : Bytes octets → (o : Outcome) → outcome octets (walk octets offset) ≡ o → MatchResult (inside octets by end_of o) (IsPartAt octets by end_of offset) (PartFault octets (IsPartAt octets by end_of) offset)
    told each (refused fault steps) is = inl (name_refused octets offset fault steps is)
    told each (named found) is =
        let name = walk_names octets offset found each is in
        cond_both _ _ _ (λ r. MatchResult r (IsPartAt octets by end_of offset) (PartFault octets (IsPartAt octets by end_of) offset)) (fits found name)
        (λ late. inr (refl, found, name, λ x at. let read = part_reads offset x at in let short = over found name late in cc))

    refused_for : (fault : Fault) → PartFault octets (IsPartAt octets by end_of) offset fault → inside octets by end_of (outcome octets (walk octets offset)) ≡ Err fault
    refused_for fault (inl bad) = ap (inside octets by end_of) (name_refuses octets offset fault bad).1
    refused_for fault (inr bad) = over bad.1 bad.2 (false_from_ne_true _ (λ here. bad.3 (by bad.1) (fits bad.1 bad.2 here))) ∙ ap Err (sym bad.0)

-- parts one after another
module _ {X Y : Type 0} (octets : List ℕ) (read : ℕ → Result X Fault) (end_of : X → ℕ) (Is : ℕ → X → Type 0) (reads : (offset : ℕ) (x : X) → Is offset x → read offset ≡ Ok x) (part : (offset : ℕ) → Judges (Bytes octets) (read offset) (Is offset) (PartFault octets Is offset)) (IsAll : Y → Type 0) (next : ℕ → Fault × ℕ → Type 0) where
  regroup : (x : X) (k : List X × ℕ → Result Y (Fault × ℕ)) (r : Result (List X × ℕ) (Fault × ℕ)) → and_then r (λ run. k (x ∷ run.0, run.1)) ≡ and_then (and_then r (λ others. Ok (x ∷ others.0, others.1))) k
  regroup x k r = grind arith

  each_judges : (count offset : ℕ) (k : List X × ℕ → Result Y (Fault × ℕ)) → ((xs : List X) (past : ℕ) → length xs ≡ count → AreAt Is end_of offset xs past → Judges (Bytes octets) (k (xs, past)) IsAll (next past)) → Judges (Bytes octets) (and_then (each_from read end_of count offset) k) IsAll (FaultIn octets Is end_of count next offset)
  each_judges zero offset k go = go [] offset refl refl
  each_judges (suc count) offset k go =
      let more : (x : X) → Is offset x → Judges (Bytes octets) (and_then (each_from read end_of count (end_of x)) (λ run. k (x ∷ run.0, run.1))) IsAll (FaultIn octets Is end_of count next (end_of x)) = λ x is. each_judges count (end_of x) (λ run. k (x ∷ run.0, run.1)) (λ xs past size are. go (x ∷ xs) past (ap suc size) (is, are)) in
      record { tells = λ each. told (read offset) ((part offset).tells each) (λ x is. (more x is).tells each); refuses = refused_for (λ x is. (more x is).refuses) }
    where
      told : (r : Result X Fault) → MatchResult r (Is offset) (PartFault octets Is offset) → ((x : X) → Is offset x → MatchResult (and_then (each_from read end_of count (end_of x)) (λ run. k (x ∷ run.0, run.1))) IsAll (FaultIn octets Is end_of count next (end_of x))) → MatchResult (and_then (and_then (at_offset offset r) (λ first. and_then (each_from read end_of count (end_of first)) (λ others. Ok (first ∷ others.0, others.1)))) k) IsAll (FaultIn octets Is end_of (suc count) next offset)
      told (Ok x) is more = subst (λ r. MatchResult r IsAll (FaultIn octets Is end_of (suc count) next offset)) (regroup x k (each_from read end_of count (end_of x))) (tells_more IsAll (FaultIn octets Is end_of count next (end_of x)) _ _ (λ e bad. inr (x, is, bad)) (more x is))
      told (Err fault) bad more = inl (bad, refl)

      refused_for : ((x : X) → Is offset x → (e : Fault × ℕ) → FaultIn octets Is end_of count next (end_of x) e → and_then (each_from read end_of count (end_of x)) (λ run. k (x ∷ run.0, run.1)) ≡ Err e) → (e : Fault × ℕ) → FaultIn octets Is end_of (suc count) next offset e → and_then (each_from read end_of (suc count) offset) k ≡ Err e
      refused_for more e (inl bad) = grind (arith, (part offset).refuses e.0 bad.0)
      refused_for more e (inr bad) = cc (reads offset bad.0 bad.1, more bad.0 bad.1 e bad.2, regroup bad.0 k (each_from read end_of count (end_of bad.0)))

-- a test of a header, and those after it
test_judges : {Given Holds : Type 0} {IsAll : Sections → Type 0} {next : Fault × ℕ → Type 0} (test : Bool) (own : Fault) (rest : Option Fault) (r : Result Sections (Fault × ℕ)) → (Holds → test ≡ false) → (test ≡ false → Holds) → (Holds → Judges Given (unless_faulted rest r) IsAll next) → Judges Given (unless_faulted (if test then Some own else rest) r) IsAll (Unless Holds (own, 0) next)
test_judges test own rest r passed passes judged = grind (arith, fails, holds, tells_more, unless_holds, unless_own)

-- a response to a query, by the first five bits of its third octet
sixteen : (octets : List ℕ) → IsResponse octets → not (slice_index octets 2 / 8 == 16) ≡ false
sixteen octets is = not_other _ _ (omega (arith, is.0, is.1))

response_of : (octets : List ℕ) → not (slice_index octets 2 / 8 == 16) ≡ false → IsResponse octets
response_of octets e = let same = same_by _ _ e in (omega (arith, same), omega (arith, same))

counts_of : (octets : List ℕ) → HasCounts octets → not (nat_le (qdcount_of octets) 1 && u16_at octets 8 == 0) ≡ false
counts_of octets h = ap not (and_from (nat_le (qdcount_of octets) 1) (u16_at octets 8 == 0) (le-leb _ _ h.0) (eq-eqb _ _ h.1))

counts_by : (octets : List ℕ) → not (nat_le (qdcount_of octets) 1 && u16_at octets 8 == 0) ≡ false → HasCounts octets
counts_by octets e = let p = and_parts (nat_le (qdcount_of octets) 1) (u16_at octets 8 == 0) (not-false _ e) in (leb-true _ _ p.0, eqb-true _ _ p.1)

module _ (octets : List ℕ) where
  end_judges : (end : ℕ) (s : Sections) → (end ≡ length octets → IsMessage octets s) → Judges (Bytes octets) (to_the_end octets end s) (IsMessage octets) (Unless (end ≡ length octets) (TrailingOctets, 0) NoFault)
  end_judges end s is = record { tells = λ each. grind (arith, eqb-true, eqb-false, fails); refuses = λ e bad. grind (arith, ne_eqb) }

  -- octets are read as the sections of a message, and refused for its first fault
  pub message_judged : Judges (Bytes octets) (sections_of octets) (IsMessage octets) (λ (e : Fault × ℕ). MessageFault octets e.0 e.1)
  unfolding sections_of header_fault
  message_judged =
      test_judges _ _ _ _ (le-ltb _ _) (ltb-false _ _) (λ twelve.
      test_judges _ _ _ _ (sixteen octets) (response_of octets) (λ response.
      test_judges _ _ _ _ (not_other _ _) (same_by _ _) (λ whole.
      test_judges _ _ _ _ (not_other _ _) (same_by _ _) (λ no_error.
      test_judges _ _ None _ (counts_of octets) (counts_by octets) (λ counts.
      each_judges octets (question_at octets) (λ q. q.end) (IsQuestionAt octets) part_reads (part_judges octets (question_by octets) (λ (q : QuestionAt). q.end)) (IsMessage octets) _ (qdcount_of octets) 12 _ (λ questions past_questions question_count questions_at.
      each_judges octets (record_at octets) (λ r. r.end) (IsRecordAt octets) (λ o x. part_reads o x) (λ o. part_judges octets (record_by octets o) (λ (r : RecordAt). r.end) o) (IsMessage octets) _ (ancount_of octets) past_questions _ (λ answers past_answers answer_count answers_at.
      each_judges octets (record_at octets) (λ r. r.end) (IsRecordAt octets) (λ o x. part_reads o x) (λ o. part_judges octets (record_by octets o) (λ (r : RecordAt). r.end) o) (IsMessage octets) _ (arcount_of octets) past_answers _ (λ additional end additional_count additional_at.
      end_judges end _ (λ same. record {
        header = record { twelve = twelve; response = response; whole = whole; no_error = no_error; counts = counts };
        id = refl;
        question_count = question_count;
        answer_count = answer_count;
        additional_count = additional_count;
        past_questions = past_questions;
        past_answers = past_answers;
        questions = questions_at;
        answers = answers_at;
        additional = subst (λ n. AreAt (IsRecordAt octets) (λ r. r.end) past_answers additional n) same additional_at;
      })))))))))

  pub sections_fault : (e : Fault × ℕ) → Bytes octets → sections_of octets ≡ Err e → MessageFault octets e.0 e.1
  sections_fault e each is = rw is at (message_judged.tells each)

  pub one_fault : (e f : Fault × ℕ) → MessageFault octets e.0 e.1 → MessageFault octets f.0 f.1 → e ≡ f
  one_fault e f is too = let refused = message_judged.refuses e is in let also = message_judged.refuses f too in cc

  pub never_both : (s : Sections) (e : Fault × ℕ) → IsMessage octets s → MessageFault octets e.0 e.1 → ⊥
  never_both s e is bad = let read = sections_read octets s is in let refused = message_judged.refuses e bad in cc

  -- octets are a message, or have a first fault
  pub message_verdict : Bytes octets → IsVerdict (IsMessage octets) (λ (e : Fault × ℕ). MessageFault octets e.0 e.1)
  message_verdict each = record { one_of = either (IsMessage octets) _ (sections_of octets) (message_judged.tells each); never_both = never_both; one_value = one_message octets; one_fault = one_fault }

pub ruleset message_refused = (sections_fault, err_from_is_err_and)
