-- What is decided of a stream by one frame more, by octets that end inside a frame, and by the
-- stream's end.
use Rattle.zone_wire.proofs.Common.{AreRead, Bytes, Fault, Finished, Follow, Going, IfSome, IsAfter, IsCut, IsFramed, IsReadAfter, List, MatchOption, Message, None, Option, Place, Placed, ReadAfter, ReadsNext, Some, StandsForStream, StatedMessage, StopsIn, StreamDecides, StreamKept, StreamReads, TakesWhole, Transfer, [], ap, append-nil, append_assoc, arith, bytes_append, drop, end_fault, false, frame, handed_on, is_closed, length, length-append, length-drop, length-map, length-take-le, map-append, octets_in, placed_in, refl, stops, subst, sym, take, take-append-drop, u16_at, zone_held, ℕ, ◌++◌, ◌+◌, ◌-◌, ◌<◌, ◌∙◌, ◌∷◌, ◌≡◌, ◌≤◌, common_steps, rules}
use Rattle.zone_rdata.specs.FedSource.{is_failed, is_finished, SourceState}
use Rattle.zone_rdata.specs.declared.fed.FedStatus.{FedStatus}
use Rattle.zone_wire.specs.declared.framer.Framer.{Framer}
use Rattle.zone_wire.proofs.Streams.OneStream.{frames_join, frame_is, one_decision, fault_stays, some_decision}
use Rattle.zone_wire.proofs.Transfers.GivenMessages.{reads_all, reads_up_to}

-- octets of the length that they begin with are a frame
pub framed_whole : (whole : List ℕ) → Bytes whole → length whole ≡ 2 + u16_at whole 0 → whole ≡ frame (drop 2 whole)
framed_whole whole each e = grind arith

framed_more : (fed front octets unfinished : List ℕ) (messages : List (List ℕ)) → IsFramed fed messages unfinished → unfinished ++ front ≡ frame octets → length octets ≤ 65535 → IsFramed (fed ++ front) (messages ++ octets ∷ []) []
framed_more fed front octets unfinished messages is e short = frames_join fed front messages (octets ∷ []) unfinished [] is (subst (λ x. IsFramed x (octets ∷ []) []) (sym e) (frame_is octets short))

read_append : (before parts : List StatedMessage) (p : StatedMessage) → AreRead before parts → IsReadAfter (before ++ parts) p → AreRead before (parts ++ p ∷ [])
read_append before [] p are is = (subst (λ b. IsReadAfter b p) (append-nil before) is, tt)
read_append before (q ∷ parts) p are is = (are.0, read_append (before ++ q ∷ []) parts p are.1 (subst (λ b. IsReadAfter b p) (sym (append_assoc before (q ∷ []) parts)) is))

-- one frame more, without a fault or with one
framed_state : (old new : Transfer) (unfinished fed front octets : List ℕ) (given : List Placed) → (g : Going old unfinished fed given) → unfinished ++ front ≡ frame octets → length octets ≤ 65535 → (ending : Option (Fault × Place)) → MatchOption ending (TakesWhole octets g.parts old new) (λ f. (offset : ℕ) × (StopsIn octets g.parts old new (f.0, offset) × (f.1 ≡ Message (length g.parts + 1) offset))) → MatchOption ending (Going new [] (fed ++ front) given) (λ f. StreamDecides (fed ++ front) (given ++ new.decided.placed) (Some f))
framed_state old new unfinished fed front octets given g e short None w = record {
  parts = g.parts ++ w.part ∷ [];
  framed = subst (λ (ms : List (List ℕ)). IsFramed (fed ++ front) ms []) (ap (λ (m : List ℕ). octets_in g.parts ++ m ∷ []) (sym w.octets_are) ∙ sym (map-append (λ (p : StatedMessage). p.octets) g.parts (w.part ∷ []))) (framed_more fed front octets unfinished (octets_in g.parts) g.framed e short);
  read = read_append [] g.parts w.part g.read w.read;
  after = w.after;
  handed = w.handed given g.handed;
}
framed_state old new unfinished fed front octets given g e short (Some f) (offset, (s, place)) = record {
  messages = octets_in g.parts ++ octets ∷ [];
  rest = [];
  framed = framed_more fed front octets unfinished (octets_in g.parts) g.framed e short;
  all = placed_in g.parts ++ s.here;
  read = subst (λ (p : Place). ReadAfter [] (octets_in g.parts ++ octets ∷ []) (placed_in g.parts ++ s.here) (Some (f.0, p))) (sym place) (reads_up_to [] g.parts (octets ∷ []) s.here _ g.read (stops s.next));
  stated = s.handed given g.handed;
}

still_going : (t : Transfer) (unfinished fed : List ℕ) (given : List Placed) (ending : Option (Fault × Place)) → ending ≡ None → MatchOption ending (Going t unfinished fed given) (λ e. StreamDecides fed (given ++ t.decided.placed) (Some e)) → Going t unfinished fed given
still_going t unfinished fed given ending e state = grind arith

pub one_frame : (old new : Transfer) (unfinished fed front octets : List ℕ) (given : List Placed) → old.decided.ending ≡ None → Bytes front → unfinished ++ front ≡ frame octets → length octets ≤ 65535 → ((before : List StatedMessage) → IsAfter before old → ReadsNext octets before old new) → Follow old unfinished fed given → Follow new [] (fed ++ front) given
one_frame old new unfinished fed front octets given going each e short next follow =
    let g = still_going old unfinished fed given old.decided.ending going follow.state in
    record { octets = bytes_append fed front follow.octets each; state = framed_state old new unfinished fed front octets given g e short new.decided.ending (next g.parts g.after) }

-- octets that end inside the frame
pub inside_frame : (t : Transfer) (unfinished fed more : List ℕ) (given : List Placed) → t.decided.ending ≡ None → Bytes more → IsCut (unfinished ++ more) → Follow t unfinished fed given → Follow t (unfinished ++ more) (fed ++ more) given
inside_frame t unfinished fed more given going each cut follow = grind (arith, still_going, append_assoc, bytes_append)

-- after a fault nothing more is decided
faulted_state : (t : Transfer) (unfinished other fed more : List ℕ) (given : List Placed) (ending : Option (Fault × Place)) → (ending ≡ None → ⊥) → Bytes (fed ++ more) → MatchOption ending (Going t unfinished fed given) (λ e. StreamDecides fed (given ++ t.decided.placed) (Some e)) → MatchOption ending (Going t other (fed ++ more) given) (λ e. StreamDecides (fed ++ more) (given ++ t.decided.placed) (Some e))
faulted_state t unfinished other fed more given ending some each state = grind (arith, some_decision, fault_stays)

pub after_fault : (t : Transfer) (unfinished other fed more : List ℕ) (given : List Placed) → (t.decided.ending ≡ None → ⊥) → Bytes more → Follow t unfinished fed given → Follow t other (fed ++ more) given
after_fault t unfinished other fed more given some each follow = search (rules, bytes_append, faulted_state)

-- the end of the stream after a fault
pub ends_after_fault : (t : Transfer) (unfinished fed : List ℕ) (given : List Placed) → (t.decided.ending ≡ None → ⊥) → Follow t unfinished fed given → StreamReads fed (given ++ t.decided.placed) t.decided.ending
ends_after_fault t unfinished fed given some follow = grind arith

-- a piece of which a front was taken
pub record FedSoFar (piece rest : List ℕ) (old new : Framer) : Type 0 where
  pub front : List ℕ
  pub parts : piece ≡ front ++ rest
  pub cut : IsCut new.unfinished.items
  pub dropped : IfSome new.transfer.decided.ending (λ _. new.unfinished.items ≡ [])
  pub count : new.transfer.messages ≤ old.transfer.messages + length front
  pub same : IfSome old.transfer.decided.ending (λ _. new ≡ old)
  pub follow : (fed : List ℕ) (given : List Placed) → Follow old.transfer old.unfinished.items fed given → Follow new.transfer new.unfinished.items (fed ++ front) given

-- the end of the stream after frames without a fault
pub finishes : (t : Transfer) (unfinished fed : List ℕ) (given : List Placed) (ending : Option (Fault × Place)) → t.decided.ending ≡ None → ((placed : List Placed) → t.closed ≡ is_closed placed → ending ≡ end_fault (t.messages + 1) placed unfinished) → Follow t unfinished fed given → StreamReads fed (given ++ t.decided.placed) ending
finishes t unfinished fed given ending going ends follow =
    let g = still_going t unfinished fed given t.decided.ending going follow.state in
    record {
      first = None;
      frames = record {
        messages = octets_in g.parts;
        rest = unfinished;
        framed = g.framed;
        all = placed_in g.parts;
        read = reads_all [] g.parts g.read;
        stated = g.handed;
      };
      ends = ends (placed_in g.parts) g.after.among.closed ∙ ap (λ n. end_fault (n + 1) (placed_in g.parts) unfinished) (g.after.count ∙ sym (length-map g.parts (λ (p : StatedMessage). p.octets)));
    }

pub fed_more : (piece rest : List ℕ) (taken : ℕ) (old mid new : Framer) → Bytes piece → (s : FedSoFar piece rest old mid) → mid.transfer.decided.ending ≡ None → 0 < taken → taken ≤ length rest → IsCut new.unfinished.items → IfSome new.transfer.decided.ending (λ _. new.unfinished.items ≡ []) → new.transfer.messages ≤ mid.transfer.messages + 1
    → ((fed : List ℕ) (given : List Placed) → Follow mid.transfer mid.unfinished.items fed given → Follow new.transfer new.unfinished.items (fed ++ take taken rest) given) → FedSoFar piece (drop taken rest) old new
fed_more piece rest taken old mid new each s going some within cut dropped count follow = record {
  front = s.front ++ take taken rest;
  parts = s.parts ∙ ap (λ x. s.front ++ x) (sym (take-append-drop taken rest)) ∙ sym (append_assoc s.front (take taken rest) (drop taken rest));
  cut = cut;
  dropped = dropped;
  count = omega (arith, count, s.count, some, length-append s.front (take taken rest), length-take-le taken rest within);
  same = not_faulted old.transfer.decided.ending refl s.same;
  follow = λ fed given f. subst (λ xs. Follow new.transfer new.unfinished.items xs given) (append_assoc fed s.front (take taken rest)) (follow (fed ++ s.front) given (s.follow fed given f));
}
  where
    not_faulted : (ending : Option (Fault × Place)) → old.transfer.decided.ending ≡ ending → IfSome ending (λ _. mid ≡ old) → IfSome ending (λ _. new ≡ old)
    not_faulted None is same = tt
    not_faulted (Some f) is same =
        let still : old.transfer.decided.ending ≡ None = ap (λ (i : Framer). i.transfer.decided.ending) (sym same) ∙ going in
        let none : ⊥ = cc in
        absurd none

pub take_whole : {X : Type 0} (xs : List X) → take (length xs) xs ≡ xs
take_whole xs = grind (arith, common_steps)

-- what a part of a list up to its end is
pub rest_taken : {X : Type 0} (n : ℕ) (xs : List X) → take (length xs - n) (drop n xs) ≡ drop n xs
rest_taken n xs = ap (λ k. take k (drop n xs)) (sym (length-drop n xs)) ∙ take_whole (drop n xs)

pub empty_of : {X : Type 0} (xs : List X) → length xs ≡ 0 → xs ≡ []
empty_of xs e = grind (arith, common_steps)

abbrev kept_in : Transfer → StreamKept
kept_in t = record { messages = t.messages; id = t.id; zone = zone_held t.zone; opening = t.opening; closed = t.closed }

-- a source as it holds this
abbrev pub source_of : FedStatus → ℕ → Transfer → List ℕ → SourceState StreamKept
source_of status count t unfinished = record {
  pending = record { failed = is_failed status; records = t.decided.placed; ending = t.decided.ending };
  held = record { finished = is_finished status; fed = count; kept = kept_in t; unfinished = unfinished };
}

decided_by : (fed unfinished : List ℕ) (parts : List StatedMessage) → IsFramed fed (octets_in parts) unfinished → AreRead [] parts → StreamDecides fed (handed_on (placed_in parts)) None
decided_by fed unfinished parts framed read = grind (arith, reads_all)

-- what a source stands for before the end of its stream
pub stands_follow : (status : FedStatus) (count : ℕ) (t : Transfer) (unfinished fed : List ℕ) (given : List Placed) → is_finished status ≡ false → StandsForStream (source_of status count t unfinished) fed given → Follow t unfinished fed given
stands_follow status count t unfinished fed given going stands = record { octets = stands.octets; state = by t.decided.ending refl }
  where
    by : (ending : Option (Fault × Place)) → t.decided.ending ≡ ending → MatchOption ending (Going t unfinished fed given) (λ e. StreamDecides fed (given ++ t.decided.placed) (Some e))
    by None e =
        let l = stands.leave going e in
        let decided = subst (λ o. StreamDecides fed (given ++ t.decided.placed) o) e (stands.decided going) in
        record {
          parts = l.parts;
          framed = l.framed;
          read = l.read;
          after = (let k = l.kept_is in record { count = ap (λ (x : StreamKept). x.messages) k; id = ap (λ (x : StreamKept). x.id) k; among = record { zone = ap (λ (x : StreamKept). x.zone) k; opening = ap (λ (x : StreamKept). x.opening) k; closed = ap (λ (x : StreamKept). x.closed) k } });
          handed = (one_decision fed (given ++ t.decided.placed) (handed_on (placed_in l.parts)) None None decided (decided_by fed unfinished l.parts l.framed l.read)).0;
        }
    by (Some f) e = subst (λ o. StreamDecides fed (given ++ t.decided.placed) o) e (stands.decided going)

pub follow_stands : (status : FedStatus) (count : ℕ) (t : Transfer) (unfinished fed : List ℕ) (given : List Placed) → is_failed status ≡ false → is_finished status ≡ false → count ≡ length fed → Follow t unfinished fed given → StandsForStream (source_of status count t unfinished) fed given
follow_stands status count t unfinished fed given works going counted follow =
    grind (arith, still_going, decided_by)

pub finished_stands : (count : ℕ) (t : Transfer) (unfinished fed : List ℕ) (given : List Placed) → Bytes fed → count ≡ length fed → StreamReads fed (given ++ t.decided.placed) t.decided.ending → StandsForStream (source_of Finished count t unfinished) fed given
finished_stands count t unfinished fed given octets counted reads = grind arith

pub ruleset frames_taken = (framed_whole, rest_taken)
