-- A message is judged by itself, and by what messages before it that are alike have in common.
use Rattle.zone_wire.proofs.Common.{AllByRecursion, AnswersGive, AreAlike, AskAfter, AsksIn, Fault, FaultAfter, GiveAfter, HasFirstId, IsReadAfter, List, Option, OrderFault, Placed, QuestionAt, Record, RecordAt, Sections, Some, StatedMessage, StreamKept, ZoneAsked, [], ap, asked_in, first_id, inl, inr, is_closed, no_more, opening_of, placed_in, refl, states, subst, sym, zone_of, ℕ, ◌++◌, ◌+◌, ◌∷◌, ◌≡◌, common_steps, arith}
use Rattle.zone_wire.specs.AnswerFault.{refused}
use Rattle.zone_wire.proofs.Conditions.{unless_same}

-- what an answer is judged by besides itself
record Alike (questions others : List QuestionAt) (before other : List Placed) : Type 0 where
  opening : opening_of before ≡ opening_of other
  closing : is_closed before ≡ is_closed other
  zone : before ≡ [] → zone_of questions [] ≡ zone_of others []

order_alike : (questions others : List QuestionAt) (before other : List Placed) (r : Record) (fault : Fault) → Alike questions others before other → OrderFault questions before r fault → OrderFault others other r fault
order_alike questions others before other r fault is bad = grind (arith, unless_same)

alike_more : (questions others : List QuestionAt) (before other : List Placed) (p : Placed) → Alike questions others before other → Alike questions others (before ++ p ∷ []) (other ++ p ∷ [])
alike_more questions others before other p is = grind (arith, common_steps)

alike_after : (questions others : List QuestionAt) (before other placed : List Placed) → Alike questions others before other → Alike questions others (before ++ placed) (other ++ placed)
alike_after questions others before other placed is = grind (arith, common_steps)

give_alike : {number : ℕ} {octets : List ℕ} {questions : List QuestionAt} {before : List Placed} {answers : List RecordAt} {placed : List Placed} {stop : Option (Fault × ℕ)} (others : List QuestionAt) (other : List Placed) → Alike questions others before other → AnswersGive number octets questions before answers placed stop → AnswersGive number octets others other answers placed stop
give_alike others other is no_more = no_more
give_alike {questions = questions} {before = before} others other is (states {p = p} s place comes rest) = grind (arith, give_alike others (other ++ p ∷ []) (alike_more questions others before other p is) rest, alike_more, states)
give_alike others other is (refused (inl fault)) = refused (inl fault)
give_alike {questions = questions} {before = before} others other is (refused {fault = fault} (inr bad)) = refused (inr (bad.0, bad.1, order_alike questions others before other bad.0 fault is bad.2))

module _ (before other : List StatedMessage) (is : AreAlike before other) where
  alike_answers : (questions : List QuestionAt) → Alike (asked_in before ++ questions) (asked_in other ++ questions) (placed_in before) (placed_in other)
  alike_answers questions = grind arith

  id_alike : (s : Sections) → HasFirstId before s → HasFirstId other s
  id_alike s has = grind arith

  asks_alike : (s : Sections) → AskAfter before s → AskAfter other s
  asks_alike s asks = subst (λ (k : StreamKept). AllByRecursion (AsksIn k.zone) s.questions) is asks

  give_after : (octets : List ℕ) (s : Sections) (placed : List Placed) (stop : Option (Fault × ℕ)) → GiveAfter before octets s placed stop → GiveAfter other octets s placed stop
  give_after octets s placed stop give =
      let questions = asked_in other ++ s.questions in
      subst (λ (k : StreamKept). AnswersGive (k.messages + 1) octets questions (placed_in other) s.answers placed stop) is (give_alike questions (placed_in other) (alike_answers s.questions) give)

  pub read_alike : (p : StatedMessage) → IsReadAfter before p → IsReadAfter other p
  read_alike p r = grind (arith, id_alike, asks_alike, give_after)

pub fault_alike : (before other : List StatedMessage) (octets : List ℕ) (here : List Placed) (fault : Fault) (offset : ℕ) → AreAlike before other → FaultAfter before octets here fault offset → FaultAfter other octets here fault offset
fault_alike before other octets here fault offset is (inl bad) = inl bad
fault_alike before other octets here fault offset is (inr bad) =
    let s = bad.0 in
    inr (s, bad.1, unless_same (id_alike before other is s) (id_alike other before (sym is) s) (unless_same (asks_alike before other is s) (asks_alike other before (sym is) s) (give_after before other is octets s here (Some (fault, offset)))) bad.2)

zone_grows : (asked other more : List QuestionAt) (placed late here : List Placed) (zone : Option ZoneAsked) → zone_of asked placed ≡ zone → zone_of other late ≡ zone → AllByRecursion (AsksIn zone) more → zone_of (asked ++ more) (placed ++ here) ≡ zone_of (other ++ more) (late ++ here)
zone_grows asked other more placed late here fixed e k asks = grind arith

id_grows : (before other : List StatedMessage) (p : StatedMessage) → first_id before ≡ first_id other → first_id (before ++ p ∷ []) ≡ first_id (other ++ p ∷ [])
id_grows before other p e = grind arith

-- messages that are alike stay so after one more
pub alike_grows : (before other : List StatedMessage) (p : StatedMessage) → AreAlike before other → IsReadAfter before p → AreAlike (before ++ p ∷ []) (other ++ p ∷ [])
alike_grows before other p is read =
    let questions = p.sections.questions in
    let records = alike_after (asked_in before ++ questions) (asked_in other ++ questions) (placed_in before) (placed_in other) p.placed (alike_answers before other is questions) in
    let id = id_grows before other p (ap (λ (k : StreamKept). k.id) is) in
    let zone = zone_grows (asked_in before) (asked_in other) questions (placed_in before) (placed_in other) p.placed (zone_of (asked_in before) (placed_in before)) refl (sym (ap (λ (k : StreamKept). k.zone) is)) read.asks in
    let opening = records.opening in
    let closing = records.closing in
    grind (arith, common_steps)
