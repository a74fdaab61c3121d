-- Messages are read in one way, and more messages only go on.
use Rattle.zone_wire.proofs.Common.{AllByRecursion, AnswersGive, AskAfter, BadQuestion, Fault, FaultAfter, GiveAfter, HasFirstId, IdMismatch, IsMessage, IsReadAfter, List, None, Option, Place, Placed, QuestionAt, ReadAfter, RecordAt, Sections, Some, StatedMessage, Unless, [], ap, append-nil, append_assoc, arith, common_steps, inl, inr, length, length-append, no_more, reads, refl, states, stops, subst, sym, whole, ℕ, ◌++◌, ◌∙◌, ◌∷◌, ◌≡◌, ◌≤◌, rules}
use Rattle.zone_wire.specs.AnswerFault.{refused}
use Rattle.zone_wire.proofs.Conditions.{unless_one, unless_holds}
use Rattle.zone_wire.proofs.Records.Answering.{IsInMessage, each_stands}
use Rattle.zone_wire.proofs.Messages.MessageFaults.{some_same, one_fault, never_both}
use Rattle.zone_wire.proofs.Messages.Sections.{one_message}
use Rattle.zone_wire.proofs.Fields.DataFaults.{answer_one, answer_not_both, record_unique}

pub placed_same : (p q : Placed) → p.rr ≡ q.rr → p.place ≡ q.place → p ≡ q
placed_same p q rr place = ap (λ x. record p { rr = x }) rr ∙ ap (λ x. record q { place = x }) place

-- what answers give is one thing
give_one : (number : ℕ) (octets : List ℕ) (questions : List QuestionAt) (answers : List RecordAt) (before placed other : List Placed) (stop late : Option (Fault × ℕ)) → AllByRecursion (IsInMessage octets) answers → AnswersGive number octets questions before answers placed stop → AnswersGive number octets questions before answers other late → (placed ≡ other) × (stop ≡ late)
give_one number octets questions [] before placed other stop late at no_more no_more = (refl, refl)
give_one number octets questions (a ∷ answers) before placed other stop late at (states {p = p} {placed = xs} is place comes rest) (states {p = q} {placed = ys} too there comes_too others) = grind (arith, common_steps, give_one number octets questions answers (before ++ q ∷ []) xs ys stop late, placed_same, record_unique)
give_one number octets questions (a ∷ answers) before placed other stop late at (states {p = p} is place comes rest) (refused {fault = f} fault) = search (arith, answer_not_both)
give_one number octets questions (a ∷ answers) before placed other stop late at (refused {fault = f} fault) (states {p = p} is place comes rest) = search (arith, answer_not_both)
give_one number octets questions (a ∷ answers) before placed other stop late at (refused {fault = f} is) (refused {fault = g} too) = (refl, ap (λ x. Some (x, a.offset)) (answer_one octets questions before a at.0.1.inside f g is too))

abbrev Stopped : Type 0
Stopped = List Placed × Fault × ℕ

same_stop : (e f : Stopped) → e.0 ≡ f.0 → (let x : Fault × ℕ = (e.1, e.2) in x) ≡ (f.1, f.2) → e ≡ f
same_stop e f first same = grind arith

module _ (before : List StatedMessage) (octets : List ℕ) where
  give_after : (s : Sections) (placed other : List Placed) (stop late : Option (Fault × ℕ)) → IsMessage octets s → GiveAfter before octets s placed stop → GiveAfter before octets s other late → (placed ≡ other) × (stop ≡ late)
  give_after s placed other stop late m = give_one _ octets _ s.answers _ placed other stop late (each_stands octets m.past_questions m.past_answers s.answers m.answers)

  -- the faults of a message of these sections
  abbrev Faults : Sections → Stopped → Type 0
  Faults s e = Unless {E = Stopped} (HasFirstId before s) ([], IdMismatch, 0) (Unless (AskAfter before s) ([], BadQuestion, 12) (λ x. GiveAfter before octets s x.0 (Some (x.1, x.2)))) e

  -- it is refused for one fault, or read
  pub fault_one : (e f : Stopped) → FaultAfter before octets e.0 e.1 e.2 → FaultAfter before octets f.0 f.1 f.2 → e ≡ f
  fault_one e f (inl is) (inl too) = same_stop e f (is.0 ∙ sym too.0) (one_fault octets (e.1, e.2) (f.1, f.2) is.1 too.1)
  fault_one e f (inl is) (inr too) = absurd (never_both octets too.0 (e.1, e.2) too.1 is.1)
  fault_one e f (inr is) (inl too) = absurd (never_both octets is.0 (f.1, f.2) is.1 too.1)
  fault_one e f (inr is) (inr too) =
      unless_one (λ _ _. unless_one (λ x y give also. let same = give_after too.0 x.0 y.0 (Some (x.1, x.2)) (Some (y.1, y.2)) too.1 give also in same_stop x y same.0 (some_same (x.1, x.2) (y.1, y.2) same.1)))
      (subst (λ s. Faults s e) (one_message octets is.0 too.0 is.1 too.1) is.2) too.2

pub read_not_refused : (before : List StatedMessage) (p : StatedMessage) (e : List Placed × Fault × ℕ) → IsReadAfter before p → FaultAfter before p.octets e.0 e.1 e.2 → ⊥
read_not_refused before p e is (inl fault) = never_both p.octets p.sections (e.1, e.2) is.message fault.1
read_not_refused before p e is (inr fault) =
    let last = unless_holds is.asks (unless_holds is.same_id (subst (λ s. Faults before p.octets s e) (one_message p.octets fault.0 p.sections fault.1 is.message) fault.2)) in
    let same = (give_after before p.octets p.sections p.placed e.0 None (Some (e.1, e.2)) is.message is.gives last).1 in
    cc

same_part : (p q : StatedMessage) → p.octets ≡ q.octets → p.sections ≡ q.sections → p.placed ≡ q.placed → p ≡ q
same_part p q octets sections placed = grind arith

pub one_read : (before : List StatedMessage) (p q : StatedMessage) → p.octets ≡ q.octets → IsReadAfter before p → IsReadAfter before q → p ≡ q
one_read before p q e is too =
    let moved : IsReadAfter before (record p { octets = q.octets }) = subst (λ (x : List ℕ). IsReadAfter before (record p { octets = x })) e is in
    let sections = one_message q.octets p.sections q.sections moved.message too.message in
    let gives = subst (λ s. GiveAfter before q.octets s p.placed None) sections moved.gives in
    same_part p q e sections (give_after before q.octets q.sections p.placed q.placed None None too.message gives too.gives).0

-- records that go on with more, and a fault that stays
pub record GoesOn (placed : List Placed) (ending : Option (Fault × Place)) (other : List Placed) (late : Option (Fault × Place)) : Type 0 where
  pub more : List Placed
  pub goes_on : other ≡ placed ++ more
  pub stays : (e : Fault × Place) → ending ≡ Some e → (other ≡ placed) × (late ≡ Some e)

-- more messages go on
pub read_goes_on : (messages after all : List (List ℕ)) (before : List StatedMessage) (placed other : List Placed) (ending late : Option (Fault × Place)) → all ≡ messages ++ after → ReadAfter before messages placed ending → ReadAfter before all other late → GoesOn placed ending other late
read_goes_on messages after all before placed other ending late e whole too = grind arith
read_goes_on messages after all before placed other ending late e given whole = grind arith
read_goes_on messages after all before placed other ending late e (reads {p = p} {messages = ms} {placed = xs} is rest) (reads {p = q} {messages = ns} {placed = ys} too others) =
    let octets : p.octets ≡ q.octets = cc in
    let tail : ns ≡ ms ++ after = cc in
    let same : p ≡ q = one_read before p q octets is too in
    let more = read_goes_on ms after ns (before ++ q ∷ []) xs ys ending late tail (subst (λ r. ReadAfter (before ++ r ∷ []) ms xs ending) same rest) others in
    grind (arith, one_read, append_assoc)
read_goes_on messages after all before placed other ending late e (reads {p = p} is rest) (stops {octets = octets} {fault = f} {offset = n} fault) =
    let same : octets ≡ p.octets = cc in
    absurd (read_not_refused before p (other, f, n) is (subst (λ o. FaultAfter before o other f n) same fault))
read_goes_on messages after all before placed other ending late e (stops {octets = octets} {fault = f} {offset = n} fault) (reads {p = p} is rest) =
    let same : octets ≡ p.octets = cc in
    absurd (read_not_refused before p (placed, f, n) is (subst (λ o. FaultAfter before o placed f n) same fault))
read_goes_on messages after all before placed other ending late e (stops {octets = octets} {fault = f} {offset = n} is) (stops {octets = others} {fault = g} {offset = m} too) =
    let octets_same : others ≡ octets = cc in
    let same = fault_one before octets (placed, f, n) (other, g, m) is (subst (λ o. FaultAfter before o other g m) octets_same too) in
    search rules

ending_one : (ending late : Option (Fault × Place)) → ((e : Fault × Place) → ending ≡ Some e → late ≡ Some e) → ((e : Fault × Place) → late ≡ Some e → ending ≡ Some e) → ending ≡ late
ending_one ending late f g = grind arith

no_others : (placed other more : List Placed) → other ≡ placed ++ more → length other ≤ length placed → placed ≡ other
no_others placed other more e few = grind (arith, common_steps)

-- messages are read in one way
pub one_way : (messages : List (List ℕ)) (placed other : List Placed) (ending late : Option (Fault × Place)) → ReadAfter [] messages placed ending → ReadAfter [] messages other late → (placed ≡ other) × (ending ≡ late)
one_way messages placed other ending late is too =
    let along = sym (append-nil messages) in
    let x = read_goes_on messages [] messages [] placed other ending late along is too in
    let y = read_goes_on messages [] messages [] other placed late ending along too is in
    (no_others placed other x.more x.goes_on (omega (arith, ap length y.goes_on, length-append other y.more, ap length x.goes_on, length-append placed x.more)), ending_one ending late (λ e h. (x.stays e h).1) (λ e h. (y.stays e h).1))
