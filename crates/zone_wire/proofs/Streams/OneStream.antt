-- A stream is cut into frames and read in one way, and what is decided for its beginning stays.
use Rattle.zone_wire.proofs.Common.{AllByRecursion, AllByRecursion-append, AnswersGive, AreRead, Bool, Bytes, Fault, FaultAfter, IsFramed, IsReadAfter, IsRecord, IsVerdict, List, Message, None, Option, Place, Placed, QuestionAt, ReadAfter, RecordAt, Some, StatedMessage, StreamDecides, StreamReads, [], ap, append-nil, append_assoc, arith, cases_lt, common_steps, drop, filter, filter-append, flat_map, frame, front_bytes, get_or, get_or-drop, handed_on, inl, inr, length, length-drop, length-take-le, lit<, next_message, no_more, not, octets_in, placed_in, reads, refl, rules, states, stops, stream_records, subst, suc, sym, take, take-append-drop, u16_at, whole, zero, ℕ, ◌%◌, ◌*◌, ◌++◌, ◌+◌, ◌/◌, ◌<◌, ◌==◌, ◌∙◌, ◌∷◌, ◌≡◌, ◌≤◌}
use Rattle.zone_wire.specs.AnswerFault.{refused}
use Rattle.zone_rdata.proofs.Octets.Sent.{append_same}
use Rattle.zone_wire.proofs.Conditions.{unless_each}
use Rattle.zone_wire.proofs.Transfers.GivenMessages.{records_show, reads_up_to, judged}
use Rattle.zone_wire.proofs.Messages.MessageFaults.{either}
use Rattle.zone_wire.proofs.Transfers.GivenTransfers.{message_bytes}
use Rattle.zone_wire.proofs.Transfers.OneReading.{GoesOn, read_goes_on, one_way, fault_one, one_read, read_not_refused}

-- a frame at the beginning of a stream
pub frame_unique : (a b c d : List ℕ) → frame a ++ c ≡ frame b ++ d → (a ≡ b) × (c ≡ d)
frame_unique a b c d e = grind (arith, append_same)

-- octets are cut into frames in one way, if what is left holds no whole one
pub frames_unique : (ms ns : List (List ℕ)) (r s : List ℕ) → length r < 2 + u16_at r 0 → length s < 2 + u16_at s 0 → flat_map frame ms ++ r ≡ flat_map frame ns ++ s → (ms ≡ ns) × (r ≡ s)
frames_unique [] [] r s cut end e = (refl, e)
frames_unique [] (n ∷ ns) r s cut end e = grind (arith, common_steps)
frames_unique (m ∷ ms) [] r s cut end e = grind (arith, common_steps)
frames_unique (m ∷ ms) (n ∷ ns) r s cut end e =
    let one = frame_unique m n (flat_map frame ms ++ r) (flat_map frame ns ++ s) (sym (append_assoc (frame m) (flat_map frame ms) r) ∙ e ∙ append_assoc (frame n) (flat_map frame ns) s) in
    let rest = frames_unique ms ns r s cut end one.1 in
    (ap (λ x. x ∷ ms) one.0 ∙ ap (λ xs. n ∷ xs) rest.0, rest.1)

pub framed_unique : (stream : List ℕ) (ms ns : List (List ℕ)) (r s : List ℕ) → IsFramed stream ms r → IsFramed stream ns s → (ms ≡ ns) × (r ≡ s)
framed_unique stream ms ns r s is too = grind (arith, frames_unique)

-- the frames of a longer stream begin with those of a stream
pub frames_extend : (ms ns : List (List ℕ)) (r s more : List ℕ) → length s < 2 + u16_at s 0 → flat_map frame ms ++ (r ++ more) ≡ flat_map frame ns ++ s → (after : List (List ℕ)) × (ns ≡ ms ++ after)
frames_extend [] ns r s more cut e = (ns, refl)
frames_extend (m ∷ ms) [] r s more cut e = grind (arith, common_steps)
frames_extend (m ∷ ms) (n ∷ ns) r s more cut e =
    let one = frame_unique m n (flat_map frame ms ++ (r ++ more)) (flat_map frame ns ++ s) (grind (arith, append_assoc)) in
    let rest = frames_extend ms ns r s more cut one.1 in
    (rest.0, cc)

-- frames of a stream, and a rest
pub record Framing (stream : List ℕ) : Type 0 where
  pub messages : List (List ℕ)
  pub rest : List ℕ
  pub framed : IsFramed stream messages rest

-- a length and so many octets are a frame
framed_after : (high low : ℕ) (more : List ℕ) → high < 256 → low < 256 → high * 256 + low ≤ length more → Framing (drop (high * 256 + low) more) → Framing (high ∷ low ∷ more)
framed_after high low more h l fits next =
    let size : ℕ = high * 256 + low in
    let octets : List ℕ = take size more in
    let len : length octets ≡ size = length-take-le size more fits in
    let high_is : high ≡ length octets / 256 = omega arith in
    let low_is : low ≡ length octets % 256 = omega arith in
    let body : more ≡ (octets ++ flat_map frame next.messages) ++ next.rest = grind (arith, take-append-drop, append_assoc) in
    record {
      messages = octets ∷ next.messages;
      rest = next.rest;
      framed = search rules;
    }

cut_off : (stream : List ℕ) → length stream < 2 + u16_at stream 0 → Framing stream
cut_off stream h = grind arith

-- each stream of octets is cut into frames
frames_by : (n : ℕ) (stream : List ℕ) → length stream ≤ n → ((i : ℕ) → get_or stream i 0 < 256) → Framing stream
frames_by n [] few each = cut_off [] (lit< tt)
frames_by n (c ∷ []) few each = cut_off (c ∷ []) (omega arith)
frames_by zero (high ∷ low ∷ more) few each = absurd (omega (arith, few))
frames_by (suc n) (high ∷ low ∷ more) few each =
    elim (cases_lt (length more) (high * 256 + low)) [
      | inl short ↦ cut_off (high ∷ low ∷ more) (omega (arith, short))
      | inr fits ↦ framed_after high low more (each 0) (each 1) fits (frames_by n (drop (high * 256 + low) more) (omega (arith, few, length-drop (high * 256 + low) more)) (λ i. rw get_or-drop (each (suc (suc (high * 256 + low + i))))))
    ]

pub framing : (stream : List ℕ) → ((i : ℕ) → get_or stream i 0 < 256) → Framing stream
framing stream each = frames_by (length stream) stream (omega arith) each

-- ---- what a stream is read as is what is found in it, and records
-- what is found in whole frames is what is decided
abbrev pub stream_decides : (stream : List ℕ) → Bytes stream → (messages : List (List ℕ)) (rest : List ℕ) → IsFramed stream messages rest → let x = stream_records [] messages in StreamDecides stream (handed_on x.placed) x.fault
stream_decides stream each messages rest framed = record {
  messages = messages;
  rest = rest;
  framed = framed;
  all = (stream_records [] messages).placed;
  read = records_show messages [] (message_bytes messages (front_bytes (flat_map frame messages) rest (subst Bytes framed.whole each))) framed.short;
  stated = refl;
}

-- what is read is records
abbrev Fit : List Placed → Type 0
Fit placed = AllByRecursion (λ (p : Placed). IsRecord p.rr) placed

filter_fit : (test : Placed → Bool) (placed : List Placed) → Fit placed → Fit (filter test placed)
filter_fit test [] fits = tt
filter_fit test (p ∷ placed) fits = let rest = filter_fit test placed fits.1 in grind arith

handed_fit : (placed : List Placed) → Fit placed → Fit (handed_on placed)
handed_fit placed fits = grind (arith, filter_fit)

give_fit : {number : ℕ} {octets : List ℕ} {questions : List QuestionAt} {before : List Placed} {answers : List RecordAt} {placed : List Placed} {stop : Option (Fault × ℕ)} → AnswersGive number octets questions before answers placed stop → Fit placed
give_fit no_more = tt
give_fit (states is place comes rest) = (is.fits, give_fit rest)
give_fit (refused fault) = tt

fault_fit : (before : List StatedMessage) (octets : List ℕ) (e : List Placed × Fault × ℕ) → FaultAfter before octets e.0 e.1 e.2 → Fit e.0
fault_fit before octets e given = grind (arith, unless_each, give_fit)

all_fit : {before : List StatedMessage} {messages : List (List ℕ)} {placed : List Placed} {ending : Option (Fault × Place)} → ReadAfter before messages placed ending → Fit placed
all_fit whole = tt
all_fit (reads {p = p} {placed = placed} is rest) = AllByRecursion-append (λ (x : Placed). IsRecord x.rr) p.placed placed (give_fit is.gives) (all_fit rest)
all_fit (stops {before = before} {octets = octets} {placed = placed} {fault = fault} {offset = offset} is) = fault_fit before octets (placed, fault, offset) is

pub read_fits : (stream : List ℕ) (placed : List Placed) (ending : Option (Fault × Place)) → StreamReads stream placed ending → Fit placed
read_fits stream placed ending r = let d = r.frames in subst Fit (sym d.stated) (handed_fit d.all (all_fit d.read))

-- ---- a stream is read in one way, and what is decided for its beginning stays
pub one_reading : (stream : List ℕ) (placed other : List Placed) (ending late : Option (Fault × Place)) → StreamReads stream placed ending → StreamReads stream other late → (placed ≡ other) × (ending ≡ late)
one_reading stream placed other ending late given also =
    let same = framed_unique stream given.frames.messages also.frames.messages given.frames.rest also.frames.rest given.frames.framed also.frames.framed in
    grind (arith, framed_unique, one_way)

pub one_decision : (stream : List ℕ) (placed other : List Placed) (ending late : Option (Fault × Place)) → StreamDecides stream placed ending → StreamDecides stream other late → (placed ≡ other) × (ending ≡ late)
one_decision stream placed other ending late is too =
    let same = framed_unique stream is.messages too.messages is.rest too.rest is.framed too.framed in
    grind (arith, framed_unique, one_way)

-- the messages of a longer stream go on
messages_go_on : (stream more : List ℕ) (ms ns : List (List ℕ)) (r s : List ℕ) (placed other : List Placed) (ending late : Option (Fault × Place)) → IsFramed stream ms r → IsFramed (stream ++ more) ns s → ReadAfter [] ms placed ending → ReadAfter [] ns other late → GoesOn placed ending other late
messages_go_on stream more ms ns r s placed other ending late is longer read also = grind (arith, read_goes_on, frames_extend, append_assoc, flat_map, frame)

pub handed_more : (placed more : List Placed) → (rest : List Placed) × (handed_on (placed ++ more) ≡ handed_on placed ++ rest)
handed_more [] more = (handed_on more, refl)
handed_more (opening ∷ others) more = let test = λ (p : Placed). not (p.rr.kind == 6) in (filter test more, ap (λ x. opening ∷ x) (filter-append test others more))

decided_goes_on : (stream more : List ℕ) (placed other : List Placed) (ending late : Option (Fault × Place)) → StreamDecides stream placed ending → StreamDecides (stream ++ more) other late → GoesOn placed ending other late
decided_goes_on stream more placed other ending late is too =
    let x = messages_go_on stream more is.messages too.messages is.rest too.rest is.all too.all ending late is.framed too.framed is.read too.read in
    grind (arith, handed_more is.all x.more)

pub records_stay : (stream more : List ℕ) (placed other : List Placed) (ending late : Option (Fault × Place)) → StreamDecides stream placed ending → StreamDecides (stream ++ more) other late → (rest : List Placed) × (other ≡ placed ++ rest)
records_stay stream more placed other ending late is too = let x = decided_goes_on stream more placed other ending late is too in (x.more, x.goes_on)

pub fault_stays : (stream more : List ℕ) (placed other : List Placed) (e : Fault × Place) (late : Option (Fault × Place)) → StreamDecides stream placed (Some e) → StreamDecides (stream ++ more) other late → (other ≡ placed) × (late ≡ Some e)
fault_stays stream more placed other e late is too = (decided_goes_on stream more placed other (Some e) late is too).stays e refl

pub fault_is_read : (stream more : List ℕ) (placed other : List Placed) (e : Fault × Place) (late : Option (Fault × Place)) → StreamDecides stream placed (Some e) → StreamReads (stream ++ more) other late → (other ≡ placed) × (late ≡ Some e)
fault_is_read stream more placed other e late is too = grind (arith, fault_stays stream more placed other e too.first is too.frames)

-- each stream has a reading, and something is decided for it
pub some_reading : (stream : List ℕ) → ((i : ℕ) → get_or stream i 0 < 256) → (placed : List Placed) × (ending : Option (Fault × Place)) × StreamReads stream placed ending
some_reading stream each = let f = framing stream each in (_, _, record { first = _; frames = stream_decides stream each f.messages f.rest f.framed; ends = refl })

pub some_decision : (stream : List ℕ) → ((i : ℕ) → get_or stream i 0 < 256) → (placed : List Placed) × (ending : Option (Fault × Place)) × StreamDecides stream placed ending
some_decision stream each = let f = framing stream each in (_, _, stream_decides stream each f.messages f.rest f.framed)

-- ---- frame by frame
-- octets appended to octets: their frames after those before, where the rest begins them
pub frames_join : (stream more : List ℕ) (messages others : List (List ℕ)) (rest last : List ℕ) → IsFramed stream messages rest → IsFramed (rest ++ more) others last → IsFramed (stream ++ more) (messages ++ others) last
frames_join stream more messages others rest last is next = grind (arith, common_steps)

pub frame_is : (octets : List ℕ) → length octets ≤ 65535 → IsFramed (frame octets) (octets ∷ []) []
frame_is octets few = record { whole = sym (append-nil (frame octets ++ []) ∙ append-nil (frame octets)); short = (few, tt); cut = lit< tt }

pub frame_read : (stream : List ℕ) (before : List StatedMessage) (p : StatedMessage) → IsFramed stream (octets_in before) [] → AreRead [] before → length p.octets ≤ 65535 → IsReadAfter before p → StreamDecides (stream ++ frame p.octets) (handed_on (placed_in before ++ p.placed)) None
frame_read stream before p framed are few is = record {
  messages = octets_in before ++ p.octets ∷ [];
  rest = [];
  framed = frames_join stream (frame p.octets) (octets_in before) (p.octets ∷ []) [] [] framed (frame_is p.octets few);
  all = placed_in before ++ p.placed;
  read = reads_up_to [] before (p.octets ∷ []) p.placed None are (subst (λ x. ReadAfter before (p.octets ∷ []) x None) (append-nil p.placed) (reads is whole));
  stated = refl;
}

pub frame_refused : (stream octets : List ℕ) (before : List StatedMessage) (here : List Placed) (fault : Fault) (offset : ℕ) → IsFramed stream (octets_in before) [] → AreRead [] before → length octets ≤ 65535 → FaultAfter before octets here fault offset → StreamDecides (stream ++ frame octets) (handed_on (placed_in before ++ here)) (Some (fault, Message (length before + 1) offset))
frame_refused stream octets before here fault offset framed are few is = record {
  messages = octets_in before ++ octets ∷ [];
  rest = [];
  framed = frames_join stream (frame octets) (octets_in before) (octets ∷ []) [] [] framed (frame_is octets few);
  all = placed_in before ++ here;
  read = reads_up_to [] before (octets ∷ []) here _ are (stops is);
  stated = refl;
}

-- a message after others is read, or refused for one fault
abbrev pub IsOne : List StatedMessage → List ℕ → StatedMessage → Type 0
IsOne before octets p = (p.octets ≡ octets) × IsReadAfter before p

abbrev pub IsRefused : List StatedMessage → List ℕ → List Placed × Fault × ℕ → Type 0
IsRefused before octets e = FaultAfter before octets e.0 e.1 e.2

pub message_verdict : (before : List StatedMessage) (octets : List ℕ) → Bytes octets → length octets ≤ 65535 → IsVerdict (IsOne before octets) (IsRefused before octets)
message_verdict before octets each few = record {
  one_of = either (IsOne before octets) (IsRefused before octets) (next_message before octets) (judged before octets each few);
  never_both = λ p e is fault. read_not_refused before p e is.1 (subst (λ o. FaultAfter before o e.0 e.1 e.2) (sym is.0) fault);
  one_value = λ p q is too. one_read before p q (is.0 ∙ sym too.0) is.1 too.1;
  one_fault = fault_one before octets;
}

pub ruleset something_of_streams = (some_reading, some_decision)

pub ruleset next_frame = (frame_read, frame_refused, handed_more)
