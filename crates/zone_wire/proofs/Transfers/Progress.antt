-- Answers and messages that are read one after another.
use Rattle.zone_wire.proofs.Common.{AgreeWith, Among, AnswerFault, AnswersGive, AskAfter, Bool, Err, Failing, Fault, Gains, Hands, HasFirstId, HeadFault, IfFault, IfNoMemory, IsAfter, IsMessage, IsRefused, IsTaken, List, MatchOption, Message, MessageFault, None, Ok, Option, Placed, Question, QuestionAt, RawRecord, ReadsNext, Record, RecordAt, Result, Sections, Some, StatedMessage, StopsIn, Takes, TakesEach, TakesHead, TakesMessage, TakesMessageUpTo, TakesUpTo, TakesWhole, Transfer, [], ap, append-nil, append_assoc, asked, asked_in, fails, false, first_id, handed_on, holds, inl, is_some, length, length-append, map, nat_eq, no_more, placed_in, pointwise, raw_at, refl, reverse, reverse-reverse, same_name, same_record, states, subst, sym, true, unwrap_or, zone_held, zone_with, ℕ, ⊤, ◌++◌, ◌+◌, ◌↔◌, ◌∙◌, ◌∷◌, ◌≡◌, common_steps, arith, rules, on_ok_weaker}
use Rattle.zone_rdata.specs.declared.fault.Failing.TheVariants as failings
use Rattle.zone_rdata.specs.declared.queue.PendingRecords.{PendingRecords}
use Rattle.zone_wire.specs.AnswerFault.{refused}
use Rattle.std.proofs.lemmas.Bool.Decides.{same_from_decides}
use Rattle.zone_wire.proofs.Records.Answering.{names_same, records_same, names_equal, records_equal}
use Rattle.zone_wire.proofs.Transfers.GivenMessages.{asked_grow, placed_grow}

pub none_of : {X : Type 0} (o : Option X) → is_some o ≡ false → o ≡ None
none_of o e = grind arith

abbrev pub here_at : Record → ℕ → ℕ → Placed
here_at rr number offset = record { rr = rr; place = Message number offset }

-- the opening SOA is handed on
pub opening_gains : (questions : List QuestionAt) (placed : List Placed) (rr : Record) (offset : ℕ) (old mid new : Transfer) → Among questions placed old → is_some old.opening ≡ false → mid ≡ record old { decided = mid.decided } → mid.decided.placed ≡ old.decided.placed ++ here_at rr old.messages offset ∷ [] → new.opening ≡ Some rr → zone_held new.zone ≡ zone_with (zone_held mid.zone) rr → new ≡ record mid { zone = new.zone; opening = new.opening } → Gains (here_at rr old.messages offset ∷ []) questions placed old new
opening_gains questions placed rr offset old mid new among none mid_is items opening zone new_is = grind (arith, common_steps)

pub closing_gains : (questions : List QuestionAt) (placed : List Placed) (p : Placed) (old new : Transfer) → Among questions placed old → is_some old.opening ≡ true → p.rr.kind ≡ 6 → new ≡ record old { closed = true } → Gains (p ∷ []) questions placed old new
closing_gains questions placed p old new among some soa is = grind (arith, common_steps)

pub other_gains : (questions : List QuestionAt) (placed : List Placed) (rr : Record) (offset : ℕ) (old new : Transfer) → Among questions placed old → is_some old.opening ≡ true → (rr.kind ≡ 6 → ⊥) → new ≡ record old { decided = new.decided } → new.decided.placed ≡ old.decided.placed ++ here_at rr old.messages offset ∷ [] → Gains (here_at rr old.messages offset ∷ []) questions placed old new
other_gains questions placed rr offset old new among some other new_is items = grind (arith, common_steps)

-- answers up to some were read, and whatever those give that are still to come, all of them give it after the records of those
pub record SoFar (octets : List ℕ) (answers rest : List RecordAt) (questions : List QuestionAt) (placed : List Placed) (old new : Transfer) : Type 0 where
  pub here : List Placed
  pub goes_on : (more : List Placed) (stop : Option (Fault × ℕ)) → AnswersGive old.messages octets questions (placed ++ here) rest more stop → AnswersGive old.messages octets questions placed answers (here ++ more) stop
  pub gains : Gains here questions placed old new

-- what was read, whatever came before the answers
abbrev pub Reached : List ℕ → List RecordAt → List RecordAt → Transfer → Transfer → Type 0
Reached octets answers rest old new = (questions : List QuestionAt) (placed : List Placed) → Among questions placed old → SoFar octets answers rest questions placed old new

-- the answers that are still to come
pub record Pending (octets : List ℕ) (answers : List RecordAt) (left : List RawRecord) (old new : Transfer) : Type 0 where
  pub rest : List RecordAt
  pub left_is : left ≡ map (raw_at octets) rest
  pub messages : new.messages ≡ old.messages
  pub ending : new.decided.ending ≡ old.decided.ending
  pub so_far : Reached octets answers rest old new

pub pending_all : (octets : List ℕ) (answers : List RecordAt) (left : List RawRecord) (t : Transfer) → left ≡ map (raw_at octets) answers → Pending octets answers left t t
pending_all octets answers left t e = search rules

so_far_more : (octets : List ℕ) (answers : List RecordAt) (a : RecordAt) (rest : List RecordAt) (questions : List QuestionAt) (placed : List Placed) (old mid new : Transfer) → mid.messages ≡ old.messages → (s : SoFar octets answers (a ∷ rest) questions placed old mid) → Takes octets a questions (placed ++ s.here) mid new → SoFar octets answers rest questions placed old new
so_far_more octets answers a rest questions placed old mid new messages s takes = grind (arith, append_assoc, states, common_steps)

pub pending_more : (octets : List ℕ) (answers : List RecordAt) (first : RawRecord) (left before : List RawRecord) (old mid new : Transfer) → Pending octets answers before old mid → before ≡ first ∷ left → new.messages ≡ mid.messages → new.decided.ending ≡ mid.decided.ending → IsTaken first mid new → Pending octets answers left old new
pending_more octets answers first left before old mid new p e messages ending takes = by p.rest (sym e ∙ p.left_is) p.so_far
  where
    by : (rest : List RecordAt) → first ∷ left ≡ map (raw_at octets) rest → Reached octets answers rest old mid → Pending octets answers left old new
    by [] h so_far = cc
    by (a ∷ rest) h so_far =
        let is : first ≡ raw_at octets a = cc in
        record {
          rest = rest;
          left_is = cc;
          messages = messages ∙ p.messages;
          ending = ending ∙ p.ending;
          so_far = λ questions placed among.
              let s = so_far questions placed among in
              so_far_more octets answers a rest questions placed old mid new p.messages s (subst (λ (r : RawRecord). Takes r.octets r.at questions (placed ++ s.here) mid new) is (takes questions (placed ++ s.here) s.gains.among));
        }

-- all answers were read
takes_last : {octets : List ℕ} {answers rest : List RecordAt} {questions : List QuestionAt} {placed : List Placed} {old new : Transfer} {stop : Option (Fault × ℕ)} → (s : SoFar octets answers rest questions placed old new) → AnswersGive old.messages octets questions (placed ++ s.here) rest [] stop → TakesUpTo octets answers questions placed old new stop
takes_last {octets} {answers} {rest} {questions} {placed} {old} {new} {stop} s give = search rules

pub takes_all : (octets : List ℕ) (answers : List RecordAt) (left : List RawRecord) (old new : Transfer) → left ≡ [] → Pending octets answers left old new → (questions : List QuestionAt) (placed : List Placed) → Among questions placed old → TakesUpTo octets answers questions placed old new None
takes_all octets answers left old new none p = by p.rest (sym none ∙ p.left_is) p.so_far
  where
    by : (rest : List RecordAt) → [] ≡ map (raw_at octets) rest → Reached octets answers rest old new → (questions : List QuestionAt) (placed : List Placed) → Among questions placed old → TakesUpTo octets answers questions placed old new None
    by [] h so_far questions placed among = takes_last (so_far questions placed among) no_more
    by (a ∷ rest) h so_far questions placed among = cc

-- what the ID and the questions of a message leave
held_first : (id : Option ℕ) (n : ℕ) → unwrap_or id n ≡ n → MatchOption id ⊤ (λ first. n ≡ first)
held_first None n same = tt
held_first (Some first) n same = sym same

first_held : (id : Option ℕ) (n : ℕ) → MatchOption id ⊤ (λ first. n ≡ first) → unwrap_or id n ≡ n
first_held None n is = refl
first_held (Some first) n is = sym is

pub has_first_id : (before : List StatedMessage) (s : Sections) (id : Option ℕ) → id ≡ first_id before → unwrap_or id s.id ≡ s.id → HasFirstId before s
has_first_id before s id e h = grind (arith, held_first id s.id h)

pub no_first_id : (before : List StatedMessage) (s : Sections) (id : Option ℕ) → id ≡ first_id before → (unwrap_or id s.id ≡ s.id → ⊥) → HasFirstId before s → ⊥
no_first_id before s id e h has =
    let held : MatchOption id ⊤ (λ first. s.id ≡ first) → ⊥ = λ is. h (first_held id s.id is) in
    grind arith

pub takes_none : (before : List StatedMessage) (s : Sections) (old new : Transfer) (id : ℕ) → IsAfter before old → s.questions ≡ [] → id ≡ s.id → HasFirstId before s → new.messages ≡ old.messages + 1 → new.id ≡ Some id → new.zone ≡ old.zone → new.opening ≡ old.opening → new.closed ≡ old.closed → TakesHead before s old new
takes_none before s old new id after none is same count new_id zone opening closed = grind arith

pub takes_one : (before : List StatedMessage) (s : Sections) (old new : Transfer) (id : ℕ) (q : QuestionAt) → IsAfter before old → s.questions ≡ q ∷ [] → id ≡ s.id → HasFirstId before s → q.kind ≡ 252 → AgreeWith (zone_held old.zone) q.name q.class → new.messages ≡ old.messages + 1 → new.id ≡ Some id → zone_held new.zone ≡ Some (record { name = q.name; class = q.class }) → new.opening ≡ old.opening → new.closed ≡ old.closed → TakesHead before s old new
takes_one before s old new id q after one is same kind agree count new_id zone opening closed = grind arith

-- a question that doesn't ask for the zone
pub asks_other : (before : List StatedMessage) (s : Sections) (old : Transfer) (q : QuestionAt) → IsAfter before old → s.questions ≡ q ∷ [] → (q.kind ≡ 252 → AgreeWith (zone_held old.zone) q.name q.class → ⊥) → AskAfter before s → ⊥
asks_other before s old q after one other asks = grind arith

-- a message that was read whole
pub takes_whole : (octets : List ℕ) (before : List StatedMessage) (s : Sections) (old mid new : Transfer) → IsAfter before old → IsMessage octets s → TakesHead before s old mid → mid.decided ≡ old.decided → new.messages ≡ mid.messages → TakesUpTo octets s.answers (asked_in before ++ s.questions) (placed_in before) mid new None → TakesWhole octets before old new
takes_whole octets before s old mid new after is head decided count takes =
    let p : StatedMessage = record { octets = octets; sections = s; placed = takes.here } in
    let number : mid.messages ≡ length before + 1 = head.count ∙ ap (λ n. n + 1) after.count in
    record {
      part = p;
      octets_are = refl;
      read = record {
        message = is;
        same_id = head.same_id;
        asks = head.asks;
        gives = subst (λ n. AnswersGive n octets (asked_in before ++ s.questions) (placed_in before) s.answers takes.here None) number takes.gives;
      };
      after = record {
        count = count ∙ number ∙ sym (length-append before (p ∷ []));
        id = takes.gains.id ∙ head.id ∙ (grind arith);
        among = rw (asked_grow before p) at (rw (placed_grow before p) at takes.gains.among);
      };
      handed = λ given e. takes.gains.handed given (ap (λ d. given ++ d.placed) decided ∙ e) ∙ ap handed_on (placed_grow before p);
    }

hands_nothing : (placed : List Placed) (old new : Transfer) → new.decided ≡ old.decided → Hands placed (placed ++ []) old new
hands_nothing placed old new decided = λ given e. ap (λ d. given ++ d.placed) decided ∙ e ∙ ap handed_on (sym (append-nil placed))

pub stops_in_structure : (octets : List ℕ) (before : List StatedMessage) (t : Transfer) (e : Fault × ℕ) → MessageFault octets e.0 e.1 → StopsIn octets before t t e
stops_in_structure octets before t e fault = record { here = []; next = inl (refl, fault); handed = hands_nothing (placed_in before) t t refl }

pub stops_in_head : (octets : List ℕ) (before : List StatedMessage) (s : Sections) (old new : Transfer) (e : Fault × ℕ) → IsMessage octets s → HeadFault before s e → new.decided ≡ old.decided → StopsIn octets before old new e
stops_in_head octets before s old new e is given decided = grind (arith, hands_nothing, fails, placed_in, holds)

-- a message is refused: its fault at its place ends the records
pub stopped_next : (octets : List ℕ) (before : List StatedMessage) (old mid : Transfer) (decided : PendingRecords) (failing : Failing) (number offset : ℕ) → IsAfter before old → number ≡ old.messages + 1 → IfNoMemory (TakesMessageUpTo octets before old mid) (Err (failing, offset))
    → (f : Fault) × (failing ≡ failings.Fault f) × (decided ≡ record mid.decided { ending = Some (f, Message number offset) }) → ReadsNext octets before old (record mid { decided = decided })
stopped_next octets before old mid decided failing number offset after count takes e = grind arith

-- the next answer is refused, or memory is wanting
pub stopped_by : (octets : List ℕ) (answers : List RecordAt) (first : RawRecord) (left before : List RawRecord) (old mid new : Transfer) (failing : Failing) (offset : ℕ) → Pending octets answers before old mid → before ≡ first ∷ left → offset ≡ first.at.offset
    → IfFault (IsRefused first mid) failing → IfFault (λ _. new ≡ mid) failing
    → (questions : List QuestionAt) (placed : List Placed) → Among questions placed old → IfNoMemory (TakesUpTo octets answers questions placed old new) (Err (failing, offset))
stopped_by octets answers first left before old mid new (failings.Fault fault) offset p e there refuses same questions placed among = rw same (by p.rest (sym e ∙ p.left_is) p.so_far)
  where
    by : (rest : List RecordAt) → first ∷ left ≡ map (raw_at octets) rest → Reached octets answers rest old mid → TakesUpTo octets answers questions placed old mid (Some (fault, offset))
    by [] h so_far = cc
    by (a ∷ rest) h so_far =
        let is : first ≡ raw_at octets a = cc in
        let s = so_far questions placed among in
        rw (there ∙ ap (λ (r : RawRecord). r.at.offset) is) (takes_last s (refused (subst (λ (r : RawRecord). AnswerFault r.octets questions (placed ++ s.here) r.at fault) is (refuses questions (placed ++ s.here) s.gains.among))))
stopped_by octets answers first left before old mid new failings.Memory offset p e there refuses same questions placed among = tt

-- a message after others, by what its answers give
module _ (octets : List ℕ) (before : List StatedMessage) (s : Sections) (old mid new : Transfer) (after : IsAfter before old) (is : IsMessage octets s) (head : TakesHead before s old mid) (decided : mid.decided ≡ old.decided) (count : new.messages ≡ mid.messages) where
  failing_taken : (failing : Failing) (offset : ℕ) → IfNoMemory (TakesUpTo octets s.answers (asked_in before ++ s.questions) (placed_in before) mid new) (Err (failing, offset)) → IfNoMemory (TakesMessageUpTo octets before old new) (Err (failing, offset))
  failing_taken (failings.Fault fault) offset takes = grind (arith, holds, asked_in, placed_in)
  failing_taken failings.Memory offset takes = tt

  pub message_taken : (r : Result (Unit {0}) (Failing × ℕ)) → TakesEach octets s.answers (asked_in before ++ s.questions) (placed_in before) r mid new → TakesMessage octets before r old new
  message_taken (Ok done) takes = takes_whole octets before s old mid new after is head decided count takes
  message_taken (Err e) takes = failing_taken e.0 e.1 takes

-- a question as it is held
pub record Asked (questions : List QuestionAt) (q : Question) : Type 0 where
  pub at : QuestionAt
  pub one : questions ≡ at ∷ []
  pub same : asked at ≡ q

pub asked_one : (questions : List QuestionAt) (q : Question) → map asked questions ≡ q ∷ [] → Asked questions q
asked_one [] q e = cc
asked_one (x ∷ []) q e = record { at = x; one = refl; same = cc }
asked_one (x ∷ y ∷ questions) q e = cc

-- a test that tells whether names are equal
pub told_name : (b : Bool) (n m : List (List ℕ)) → (b ≡ true ↔ n ≡ m) → b ≡ same_name n m
told_name b n m tells = same_from_decides b (same_name n m) tells (names_equal n m, names_same n m)

-- a test that tells whether records are equal
pub told_same : (b : Bool) (r s : Record) → (b ≡ true ↔ r ≡ s) → b ≡ same_record r s
told_same b r s tells = same_from_decides b (same_record r s) tells (records_equal r s, records_same r s)

pub ruleset message_stops = (stops_in_structure, stops_in_head, message_taken)

pub ruleset answers_are_taken = (pending_all, pending_more, takes_all)

pub ruleset read_next = (stopped_next, on_ok_weaker)
