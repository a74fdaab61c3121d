-- The records of messages up to the first fault are those that are read.
use Rattle.zone_wire.proofs.Common.{AllByRecursion, Answered, AreRead, AskAfter, AsksIn, Bool, Bytes, Err, Fault, FaultAfter, GiveAfter, HasFirstId, IsMessage, IsReadAfter, List, MatchResult, Message, MessageFault, None, Ok, Option, Place, Placed, QuestionAt, ReadAfter, Result, Sections, Some, StatedMessage, ZoneAsked, [], agrees, and_from, and_parts, ap, append-nil, append_assoc, asked_in, asks_for, eq-eqb, eqb-true, fails, false, flat_map-append, has_first_id, holds, if◌then◌else◌, inl, inr, length, list_all, next_message, octets_in, of_answers, of_sections, placed_in, reads, refl, sections_of, stops, stream_records, subst, sym, true, whole, zone_of, ℕ, ◌++◌, ◌+◌, ◌==◌, ◌∙◌, ◌∷◌, ◌≡◌, ◌≤◌, arith}
use Rattle.zone_wire.proofs.Records.Answering.{agrees_by, agrees_true, each_stands, answers_give}
use Rattle.zone_wire.proofs.Conditions.{all_by, all_pass}
use Rattle.zone_wire.proofs.Messages.MessageFaults.{message_judged}

-- one message more
pub placed_grow : (before : List StatedMessage) (p : StatedMessage) → placed_in before ++ p.placed ≡ placed_in (before ++ p ∷ [])
placed_grow before p = ap (λ x. placed_in before ++ x) (sym (append-nil p.placed)) ∙ sym (flat_map-append (λ (q : StatedMessage). q.placed) before (p ∷ []))

pub asked_grow : (before : List StatedMessage) (p : StatedMessage) → asked_in before ++ p.sections.questions ≡ asked_in (before ++ p ∷ [])
asked_grow before p = ap (λ x. asked_in before ++ x) (sym (append-nil p.sections.questions)) ∙ sym (flat_map-append (λ (q : StatedMessage). q.sections.questions) before (p ∷ []))

-- messages that are read, and what follows them
pub reads_all : (before parts : List StatedMessage) → AreRead before parts → ReadAfter before (octets_in parts) (placed_in parts) None
reads_all before [] are = whole
reads_all before (p ∷ parts) are = reads are.0 (reads_all (before ++ p ∷ []) parts are.1)

pub reads_up_to : (before parts : List StatedMessage) (rest : List (List ℕ)) (more : List Placed) (ending : Option (Fault × Place)) → AreRead before parts → ReadAfter (before ++ parts) rest more ending → ReadAfter before (octets_in parts ++ rest) (placed_in parts ++ more) ending
reads_up_to before [] rest more ending are is = subst (λ b. ReadAfter b rest more ending) (append-nil before) is
reads_up_to before (p ∷ parts) rest more ending are is =
    subst (λ x. ReadAfter before (octets_in (p ∷ parts) ++ rest) x ending) (sym (append_assoc p.placed (placed_in parts) more))
    (reads are.0 (reads_up_to (before ++ p ∷ []) parts rest more ending are.1 (subst (λ b. ReadAfter b rest more ending) (sym (append_assoc before (p ∷ []) parts)) is)))

-- the ID and the questions of a message after others
asks_by : (zone : Option ZoneAsked) (q : QuestionAt) → asks_for zone q ≡ true → AsksIn zone q
asks_by zone q e = let p = and_parts (q.kind == 252) (agrees zone q.name q.class) e in record { kind = eqb-true _ _ p.0; agrees = agrees_by zone q.name q.class p.1 }

asks_true : (zone : Option ZoneAsked) (q : QuestionAt) → AsksIn zone q → asks_for zone q ≡ true
asks_true zone q is = and_from (q.kind == 252) (agrees zone q.name q.class) (eq-eqb _ _ is.kind) (agrees_true zone q.name q.class is.agrees)

-- a message after others is read, or has a first fault
abbrev pub Judged : List StatedMessage → List ℕ → Result StatedMessage (List Placed × Fault × ℕ) → Type 0
Judged before octets r = MatchResult r (λ p. (p.octets ≡ octets) × IsReadAfter before p) (λ e. FaultAfter before octets e.0 e.1 e.2)

module _ (before : List StatedMessage) (octets : List ℕ) (each : Bytes octets) (few : length octets ≤ 65535) where
  by_test : (test : Bool) (good bad : Result StatedMessage (List Placed × Fault × ℕ)) → (test ≡ true → Judged before octets good) → (test ≡ false → Judged before octets bad) → Judged before octets (if test then good else bad)
  by_test test good bad passes others = grind arith

  by_answers : (s : Sections) (placed : List Placed) (stop : Option (Fault × ℕ)) → IsMessage octets s → HasFirstId before s → AskAfter before s → GiveAfter before octets s placed stop → Judged before octets (of_answers octets s (record { placed = placed; fault = stop }))
  by_answers s placed stop is id asks give = grind (arith, holds)

  by_sections : (r : Result Sections (Fault × ℕ)) → MatchResult r (IsMessage octets) (λ (e : Fault × ℕ). MessageFault octets e.0 e.1) → Judged before octets (of_sections before octets r)
  by_sections (Err e) bad = inl (refl, bad)
  by_sections (Ok s) m =
      let zone = zone_of (asked_in before) (placed_in before) in
      let all = list_all (asks_for zone) s.questions in
      let give = answers_give octets each few (asked_in before ++ s.questions) (length before + 1) s.answers (placed_in before) (each_stands octets m.past_questions m.past_answers s.answers m.answers) in
      by_test (has_first_id before s) _ _
      (λ t. let id : HasFirstId before s = grind arith in by_test all _ _
      (λ u. by_answers s _ _ m id (all_by (AsksIn zone) (asks_for zone) (asks_by zone) s.questions u) give)
      (λ u. inr (s, m, holds id (fails (λ asks. let yes : all ≡ true = all_pass (AsksIn zone) (asks_for zone) (asks_true zone) s.questions asks in cc)))))
      (λ t. inr (s, m, fails (λ id. let yes : has_first_id before s ≡ true = grind arith in cc)))

  pub judged : Judged before octets (next_message before octets)
  unfolding next_message
  judged = by_sections (sections_of octets) ((message_judged octets).tells each)

-- what is found is what is read
pub records_show : (messages : List (List ℕ)) (before : List StatedMessage) → AllByRecursion Bytes messages → AllByRecursion (λ octets. length octets ≤ 65535) messages → let x = stream_records before messages in ReadAfter before messages x.placed x.fault
unfolding stream_records
records_show [] before each few = whole
records_show (octets ∷ messages) before each few = by (next_message before octets) (judged before octets each.0 few.0) (λ p. records_show messages (before ++ p ∷ []) each.1 few.1)
  where
    by : (r : Result StatedMessage (List Placed × Fault × ℕ)) → Judged before octets r → ((p : StatedMessage) → let x = stream_records (before ++ p ∷ []) messages in ReadAfter (before ++ p ∷ []) messages x.placed x.fault) → let x : Answered (Fault × Place) = elim r [ Err e ↦ record { placed = e.0; fault = Some (e.1, Message (length before + 1) e.2) } | Ok p ↦ let rest = stream_records (before ++ p ∷ []) messages in record rest { placed = p.placed ++ rest.placed } ] in ReadAfter before (octets ∷ messages) x.placed x.fault
    by (Err e) is others = stops is
    by (Ok p) is others = let x = stream_records (before ++ p ∷ []) messages in subst (λ o. ReadAfter before (o ∷ messages) (p.placed ++ x.placed) x.fault) is.0 (reads is.1 (others p))
