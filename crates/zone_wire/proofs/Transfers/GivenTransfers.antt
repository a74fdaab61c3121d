-- A transfer is read as its records, and a stream that is read without a fault is a transfer.
use Rattle.zone_wire.proofs.Common.{ne_eqb, AllByRecursion, AreStatedMessages, List, Placed, Record, StatedMessage, [], ap, append-nil, append_assoc, arith, cond-true, false, filter, filter-append, flat_map, frame, handed_on, length, list_any, map, not, or_from, refl, rules, ℕ, ◌++◌, ◌+◌, ◌==◌, ◌||◌, ◌∙◌, ◌∷◌, ◌≡◌, ◌≢◌, ◌≤◌, common_steps, AnswersGive, AnswersState, AsksFor, AsksIn, HasFirstId, IsReadAfter, IsStatedMessage, None, QuestionAt, ReadAfter, RecordAt, Sections, StreamReads, StreamStates, asked_in, eq-eqb, is_closed, length-append, lit<, no_more, octets_in, or_left, or_right, placed_in, reads, states, subst, sym, true, whole, zone_of, AllByRecursion-append, AreRead, Bool, Bytes, ComesAfter, Fault, Option, Place, Some, ZoneAsked, back_bytes, end_fault, eqb-true, front_bytes, option_or, stops, suc, ⊤}
use Rattle.zone_wire.proofs.Records.Answering.{OpensWith, is_soa, InOrder, follows_comes}
use Rattle.zone_wire.proofs.Transfers.GivenMessages.{placed_grow, asked_grow}
use Rattle.zone_wire.specs.AnswerFault.{refused}
use Rattle.std.proofs.lemmas.List.Folds.{list_any-append}
use Rattle.zone_name.proofs.InOctets.Pushing.{AllByRecursion-back, AllByRecursion-front}

-- records in order, in two parts
pub in_order_parts : (zone : Record) (before xs ys : List Placed) → InOrder zone before (xs ++ ys) → InOrder zone before xs × InOrder zone (before ++ xs) ys
in_order_parts zone before [] ys order = search rules
in_order_parts zone before (x ∷ xs) ys order = grind (arith, in_order_parts zone (before ++ x ∷ []) xs ys order.1, append_assoc)

pub opens_more : (zone : Record) (before here : List Placed) → OpensWith zone before → InOrder zone before here → OpensWith zone (before ++ here)
opens_more zone before here opens order = grind arith

abbrev pub octets_of_parts : List StatedMessage → List (List ℕ)
octets_of_parts parts = map (λ p. p.octets) parts

-- an SOA, records that are none, and the SOA again are in order
pub rest_in_order : (zone : Record) (opening closing : Placed) (done others : List Placed) → closing.rr ≡ opening.rr → list_any is_soa done ≡ false → AllByRecursion (λ (p : Placed). p.rr.kind ≢ 6) others → InOrder zone (opening ∷ done) (others ++ closing ∷ [])
rest_in_order zone opening closing done [] same none each = ((none, λ kind. same), tt)
rest_in_order zone opening closing done (p ∷ others) same none each = grind (arith, rest_in_order zone opening closing (done ++ p ∷ []) others same (grind (arith, list_any-append, or_from, is_soa, ne_eqb)) each.1)

others_kept : (others : List Placed) → AllByRecursion (λ (p : Placed). p.rr.kind ≢ 6) others → filter (λ (p : Placed). not (p.rr.kind == 6)) others ≡ others
others_kept [] each = refl
others_kept (p ∷ others) each = cond-true (not (p.rr.kind == 6)) _ _ (ap not (ne_eqb p.rr.kind 6 each.0)) ∙ ap (λ x. p ∷ x) (others_kept others each.1)

pub framed_parts : (parts : List StatedMessage) → flat_map (λ p. frame p.octets) parts ≡ flat_map frame (octets_of_parts parts)
framed_parts [] = refl
framed_parts (p ∷ parts) = ap (λ x. frame p.octets ++ x) (framed_parts parts)

pub short_parts : (id : ℕ) (zone : Record) (number : ℕ) (parts : List StatedMessage) → AreStatedMessages id zone number parts → AllByRecursion (λ octets. length octets ≤ 65535) (octets_of_parts parts)
short_parts id zone number [] are = tt
short_parts id zone number (p ∷ parts) are = (are.0.short, short_parts id zone (number + 1) parts are.1)

pub handed_transfer : (opening : Placed) (others : List Placed) (closing : Placed) → AllByRecursion (λ (p : Placed). p.rr.kind ≢ 6) others → closing.rr.kind ≡ 6 → handed_on (opening ∷ (others ++ closing ∷ [])) ≡ opening ∷ others
handed_transfer opening others closing each soa = grind (arith, filter-append, others_kept, append-nil)

-- ---- a transfer is read as its records
-- answers that state records in the order of a transfer
give_in_order : (zone : Record) (number : ℕ) (octets : List ℕ) (questions : List QuestionAt) (before : List Placed) (answers : List RecordAt) (placed : List Placed) → AllByRecursion (AsksFor zone) questions → AnswersState number octets answers placed → InOrder zone before placed → AnswersGive number octets questions before answers placed None
give_in_order zone number octets questions before [] placed ask is order = grind (arith, no_more)
give_in_order zone number octets questions before (a ∷ answers) [] ask is order = absurd is
give_in_order zone number octets questions before (a ∷ answers) (p ∷ placed) ask is order = grind (arith, give_in_order zone number octets questions (before ++ p ∷ []) answers placed ask is.1 order.1, follows_comes, states)

first_id : (id : ℕ) (before : List StatedMessage) (s : Sections) → AllByRecursion (λ (p : StatedMessage). p.sections.id ≡ id) before → s.id ≡ id → HasFirstId before s
first_id id before s each e = grind arith

asks_in : (zone : Record) (before : List QuestionAt) (placed : List Placed) (questions : List QuestionAt) → AllByRecursion (AsksFor zone) before → OpensWith zone placed → AllByRecursion (AsksFor zone) questions → AllByRecursion (AsksIn (zone_of before placed)) questions
asks_in zone before placed [] asked opens ask = tt
asks_in zone before placed (q ∷ questions) asked opens ask = grind (arith, asks_in zone before placed questions asked opens ask.1)

-- a message of a transfer after others
stated_is_read : (id : ℕ) (zone : Record) (number : ℕ) (before : List StatedMessage) (p : StatedMessage) → number ≡ length before + 1 → IsStatedMessage id zone number p → AllByRecursion (λ (q : StatedMessage). q.sections.id ≡ id) before → AllByRecursion (AsksFor zone) (asked_in before) → OpensWith zone (placed_in before) → InOrder zone (placed_in before) p.placed → IsReadAfter before p
stated_is_read id zone number before p count is ids asked opens order = grind (arith, first_id, asks_in, asked_in, placed_in, give_in_order, AllByRecursion-append)

parts_are_read : (id : ℕ) (zone : Record) (parts before : List StatedMessage) (number : ℕ) → number ≡ length before + 1 → AreStatedMessages id zone number parts → AllByRecursion (λ (q : StatedMessage). q.sections.id ≡ id) before → AllByRecursion (AsksFor zone) (asked_in before) → OpensWith zone (placed_in before) → InOrder zone (placed_in before) (placed_in parts) → ReadAfter before (octets_in parts) (placed_in parts) None
parts_are_read id zone [] before number count are ids asked opens order = whole
parts_are_read id zone (p ∷ parts) before number count are ids asked opens order =
    let orders = in_order_parts zone (placed_in before) p.placed (placed_in parts) order in
    let s = p.sections in
    let questions = asked_grow before p in
    let placed = placed_grow before p in
    reads (stated_is_read id zone number before p count are.0 ids asked opens orders.0)
    (parts_are_read id zone parts (before ++ p ∷ []) (number + 1) (omega (arith, count, length-append before (p ∷ []))) are.1
    (AllByRecursion-append (λ (q : StatedMessage). q.sections.id ≡ id) before (p ∷ []) ids (are.0.same_id, tt))
    (subst (AllByRecursion (AsksFor zone)) questions (AllByRecursion-append (AsksFor zone) (asked_in before) s.questions asked are.0.questions))
    (subst (OpensWith zone) placed (opens_more zone (placed_in before) p.placed opens orders.0))
    (subst (λ x. InOrder zone x (placed_in parts)) placed orders.1))

-- a transfer is read as its records
pub transfer_reads : (stream : List ℕ) (placed : List Placed) → StreamStates stream placed → StreamReads stream placed None
transfer_reads stream placed s =
    let all : List Placed = s.opening ∷ (s.others ++ s.closing ∷ []) in
    let order : InOrder s.opening.rr [] all = ((refl, s.soa), rest_in_order s.opening.rr s.opening s.closing [] s.others s.same refl s.no_soa) in
    let read = parts_are_read s.id s.opening.rr s.parts [] 1 refl s.each tt tt tt (subst (InOrder s.opening.rr []) (sym s.answers) order) in
    let kind : s.closing.rr.kind ≡ 6 = ap (λ (r : Record). r.kind) s.same ∙ s.soa in
    let soa : is_soa s.closing ≡ true = eq-eqb s.closing.rr.kind 6 kind in
    let kept : handed_on all ≡ s.opening ∷ s.others = handed_transfer s.opening s.others s.closing s.no_soa kind in
    let last : is_closed all ≡ true = list_any-append is_soa s.others (s.closing ∷ []) ∙ or_right (list_any is_soa s.others) (list_any is_soa (s.closing ∷ [])) (or_left (is_soa s.closing) _ soa) in
    record {
      first = None;
      frames = record {
        messages = octets_in s.parts;
        rest = [];
        framed = record { whole = s.framed ∙ framed_parts s.parts ∙ sym (append-nil (flat_map frame (octets_in s.parts))); short = short_parts s.id s.opening.rr 1 s.parts s.each; cut = lit< tt };
        all = all;
        read = subst (λ x. ReadAfter [] (octets_in s.parts) x None) s.answers read;
        stated = s.stated ∙ sym kept;
      };
      ends = sym (cond-true _ _ _ last);
    }

-- ---- a stream that is read without a fault is a transfer
-- messages that are all read
record AllRead (before : List StatedMessage) (messages : List (List ℕ)) (placed : List Placed) : Type 0 where
  parts : List StatedMessage
  read : AreRead before parts
  octets : messages ≡ octets_in parts
  stated : placed ≡ placed_in parts

all_read : {before : List StatedMessage} {messages : List (List ℕ)} {placed : List Placed} {ending : Option (Fault × Place)} → ending ≡ None → ReadAfter before messages placed ending → AllRead before messages placed
all_read e whole = record { parts = []; read = tt; octets = refl; stated = refl }
all_read e (reads {p = p} is rest) = let r = all_read e rest in record { parts = p ∷ r.parts; read = (is, r.read); octets = ap (λ x. p.octets ∷ x) r.octets; stated = ap (λ x. p.placed ++ x) r.stated }
all_read e (stops fault) = cc

-- questions and records of one zone
abbrev OpensIn : ZoneAsked → List Placed → Type 0
OpensIn zone [] = ⊤
OpensIn zone (opening ∷ placed) = (opening.rr.owner ≡ zone.name) × (opening.rr.class ≡ zone.class)

record OfZone (zone : ZoneAsked) (questions : List QuestionAt) (placed : List Placed) : Type 0 where
  asked : AllByRecursion (AsksIn (Some zone)) questions
  opens : OpensIn zone placed

abbrev OfOneZone : List QuestionAt → List Placed → Type 0
OfOneZone questions placed = (zone : ZoneAsked) × OfZone zone questions placed

one_question : (questions : List QuestionAt) (placed : List Placed) (q : QuestionAt) → AsksIn (zone_of questions placed) q → OfOneZone questions placed → OfOneZone (questions ++ q ∷ []) placed
one_question [] [] q ask of = (record { name = q.name; class = q.class }, record { asked = (record { kind = ask.kind; agrees = (refl, refl) }, tt); opens = tt })
one_question [] (opening ∷ placed) q ask of = grind arith
one_question (first ∷ questions) placed q ask of = grind (arith, AllByRecursion-append)

-- at most one question
questions_in_zone : (questions : List QuestionAt) (placed : List Placed) (asked : List QuestionAt) → length asked ≤ 1 → AllByRecursion (AsksIn (zone_of questions placed)) asked → OfOneZone questions placed → OfOneZone (questions ++ asked) placed
questions_in_zone questions placed [] few ask of = grind (arith, append-nil)
questions_in_zone questions placed (q ∷ xs) few ask of = grind (arith, common_steps, one_question)

records_in_zone : {number : ℕ} {octets : List ℕ} {answers : List RecordAt} {placed : List Placed} {stop : Option (Fault × ℕ)} (questions : List QuestionAt) (before : List Placed) → AnswersGive number octets questions before answers placed stop → OfOneZone questions before → OfOneZone questions (before ++ placed)
records_in_zone questions (opening ∷ before) give of = grind arith
records_in_zone questions [] no_more of = of
records_in_zone questions [] (refused fault) of = of
records_in_zone [] [] (states {p = p} is place comes rest) of = (record { name = p.rr.owner; class = p.rr.class }, record { asked = tt; opens = (refl, refl) })
records_in_zone (q ∷ questions) [] (states is place comes rest) of = grind arith

-- records that come one after another, whatever the questions
abbrev Orders : List Placed → List Placed → Type 0
Orders before [] = ⊤
Orders before (p ∷ placed) = ((questions : List QuestionAt) × ComesAfter questions before p.rr) × Orders (before ++ p ∷ []) placed

orders_from : {number : ℕ} {octets : List ℕ} {questions : List QuestionAt} {before : List Placed} {answers : List RecordAt} {placed : List Placed} {stop : Option (Fault × ℕ)} → AnswersGive number octets questions before answers placed stop → Orders before placed
orders_from no_more = tt
orders_from (states is place comes rest) = ((_, comes), orders_from rest)
orders_from (refused fault) = tt

orders_append : (before xs ys : List Placed) → Orders before xs → Orders (before ++ xs) ys → Orders before (xs ++ ys)
orders_append before [] ys o p = subst (λ b. Orders b ys) (append-nil before) p
orders_append before (x ∷ xs) ys o p = (o.0, orders_append (before ++ x ∷ []) xs ys o.1 (subst (λ b. Orders b ys) (sym (append_assoc before (x ∷ []) xs)) p))

-- one ID
abbrev OfOneId : List StatedMessage → Type 0
OfOneId before = (id : ℕ) × AllByRecursion (λ (p : StatedMessage). p.sections.id ≡ id) before

id_more : (before : List StatedMessage) (p : StatedMessage) → IsReadAfter before p → OfOneId before → OfOneId (before ++ p ∷ [])
id_more [] p is of = (p.sections.id, (refl, tt))
id_more (first ∷ before) p is of = grind (arith, AllByRecursion-append)

zone_more : (before : List StatedMessage) (p : StatedMessage) → IsReadAfter before p → OfOneZone (asked_in before) (placed_in before) → OfOneZone (asked_in (before ++ p ∷ [])) (placed_in (before ++ p ∷ []))
zone_more before p is of = grind (arith, asked_in, records_in_zone, placed_in, questions_in_zone, asked_grow, placed_grow)

-- messages that are read are of one ID and one zone, and their records in order
record AreAccepted (before parts : List StatedMessage) : Type 0 where
  one_id : OfOneId (before ++ parts)
  one_zone : OfOneZone (asked_in (before ++ parts)) (placed_in (before ++ parts))
  order : Orders (placed_in before) (placed_in parts)

accepted : (parts before : List StatedMessage) → AreRead before parts → OfOneId before → OfOneZone (asked_in before) (placed_in before) → AreAccepted before parts
accepted [] before are id zone = grind (arith, append-nil)
accepted (p ∷ parts) before are id zone = grind (arith, accepted parts (before ++ p ∷ []) are.1 (id_more before p are.0 id) (zone_more before p are.0 zone), id_more, zone_more, append_assoc, orders_append, orders_from, placed_grow)

-- records that are none of them an SOA, and the opening SOA again
record Closes (opening : Placed) (rest : List Placed) : Type 0 where
  others : List Placed
  closing : Placed
  is : rest ≡ others ++ closing ∷ []
  none : AllByRecursion (λ p. p.rr.kind ≢ 6) others
  same : closing.rr ≡ opening.rr

no_soa : (p : Placed) → is_soa p ≡ false → p.rr.kind ≢ 6
no_soa p e same = let yes : is_soa p ≡ true = eq-eqb p.rr.kind 6 same in cc

closes_by : (opening : Placed) (done : List Placed) (p : Placed) (rest : List Placed) (soa : Bool) → is_soa p ≡ soa → Orders (opening ∷ done) (p ∷ rest) → (is_soa p || list_any is_soa rest) ≡ true → (Orders (opening ∷ (done ++ p ∷ [])) rest → list_any is_soa rest ≡ true → Closes opening rest) → Closes opening (p ∷ rest)
closes_by opening done p [] true e order some more = record { others = []; closing = p; is = refl; none = tt; same = order.0.1.1 (eqb-true _ _ e) }
closes_by opening done p (q ∷ rest) true e order some more = grind (arith, list_any-append)
closes_by opening done p rest false e order some more =
    let c = more order.1 (grind arith) in
    record { others = p ∷ c.others; closing = c.closing; is = ap (λ x. p ∷ x) c.is; none = (no_soa p e, c.none); same = c.same }

closes : (opening : Placed) (done rest : List Placed) → Orders (opening ∷ done) rest → list_any is_soa rest ≡ true → Closes opening rest
closes opening done [] order some = cc
closes opening done (p ∷ rest) order some = closes_by opening done p rest (is_soa p) refl order some (λ o s. closes opening (done ++ p ∷ []) rest o s)

-- the records of a whole transfer
record AreWhole (all : List Placed) : Type 0 where
  opening : Placed
  soa : opening.rr.kind ≡ 6
  rest : List Placed
  is : all ≡ opening ∷ rest
  closed : Closes opening rest

are_whole : (all : List Placed) → Orders [] all → is_closed all ≡ true → AreWhole all
are_whole all order closed = grind (arith, closes)

ended : (number : ℕ) (placed : List Placed) (fault : Option (Fault × Place)) (rest : List ℕ) → None ≡ option_or fault (end_fault number placed rest) → (fault ≡ None) × (rest ≡ []) × (is_closed placed ≡ true)
ended number placed fault rest e = grind arith

pub message_bytes : (messages : List (List ℕ)) → Bytes (flat_map frame messages) → AllByRecursion Bytes messages
message_bytes [] each = tt
message_bytes (m ∷ messages) each =
    let body : Bytes (m ++ flat_map frame messages) = λ i. each (suc (suc i)) in
    (front_bytes m (flat_map frame messages) body, message_bytes messages (back_bytes m (flat_map frame messages) body))

answers_state : {number : ℕ} {octets : List ℕ} {questions : List QuestionAt} {before : List Placed} {answers : List RecordAt} {placed : List Placed} {stop : Option (Fault × ℕ)} → stop ≡ None → AnswersGive number octets questions before answers placed stop → AnswersState number octets answers placed
answers_state e no_more = tt
answers_state e (states is place comes rest) = ((is, place), answers_state e rest)
answers_state e (refused fault) = cc

parts_from : (id : ℕ) (zone : Record) (number : ℕ) (before parts : List StatedMessage) → number ≡ length before + 1 → AreRead before parts → AllByRecursion (λ octets. length octets ≤ 65535) (octets_in parts) → AllByRecursion (λ (p : StatedMessage). p.sections.id ≡ id) parts → AllByRecursion (AsksFor zone) (asked_in parts) → AreStatedMessages id zone number parts
parts_from id zone number before [] count are short ids ask = tt
parts_from id zone number before (p ∷ parts) count are short ids ask = (
  record { short = short.0; message = are.0.message; same_id = ids.0; questions = AllByRecursion-front (AsksFor zone) p.sections.questions (asked_in parts) ask; answers = subst (λ n. AnswersState n p.octets p.sections.answers p.placed) (sym count) (answers_state refl are.0.gives) },
  parts_from id zone (number + 1) (before ++ p ∷ []) parts (omega (arith, count, length-append before (p ∷ []))) are.1 short.1 ids.1 (AllByRecursion-back (AsksFor zone) p.sections.questions (asked_in parts) ask),
)

asks_for : (zone : ZoneAsked) (r : Record) → r.owner ≡ zone.name → r.class ≡ zone.class → (questions : List QuestionAt) → AllByRecursion (AsksIn (Some zone)) questions → AllByRecursion (AsksFor r) questions
asks_for zone r name class [] ask = tt
asks_for zone r name class (q ∷ questions) ask = (record { name = ask.0.agrees.0 ∙ sym name; kind = ask.0.kind; class = ask.0.agrees.1 ∙ sym class }, asks_for zone r name class questions ask.1)

-- what is read without a fault is a transfer
pub read_is_transfer : (stream : List ℕ) (placed : List Placed) → StreamReads stream placed None → StreamStates stream placed
read_is_transfer stream placed r =
    let d = r.frames in
    let end = ended (length d.messages + 1) d.all r.first d.rest r.ends in
    let m = all_read end.0 d.read in
    let a = accepted m.parts [] m.read (0, tt) (record { name = []; class = 0 }, record { asked = tt; opens = tt }) in
    let w = are_whole d.all (subst (Orders []) (sym m.stated) a.order) end.2 in
    let c = w.closed in
    let all : d.all ≡ w.opening ∷ (c.others ++ c.closing ∷ []) = w.is ∙ ap (λ x. w.opening ∷ x) c.is in
    let closing_kind : c.closing.rr.kind ≡ 6 = ap (λ (x : Record). x.kind) c.same ∙ w.soa in
    let parts : placed_in m.parts ≡ w.opening ∷ (c.others ++ c.closing ∷ []) = sym m.stated ∙ all in
    let opens : OpensIn a.one_zone.0 (w.opening ∷ (c.others ++ c.closing ∷ [])) = subst (OpensIn a.one_zone.0) parts a.one_zone.1.opens in
    grind (arith, append-nil, framed_parts, parts_from, asks_for, no_soa, handed_transfer)

pub ruleset transfers_are_read = (read_is_transfer, transfer_reads)
