-- A piece fed part by part.
use Rattle.zone_text.proofs.Common.{EndedEntries, EntrySplitter, Fault, Follow, IsBrokenOff, IsOneEntry, IsOpen, IsSplitter, Labels, Line, List, None, Place, Placed, ReadsOctets, Some, [], ap, append-nil, append_assoc, arith, drop, false, length, length-append, length-take, rules, subst, sym, take, take-append-drop, ℕ, ◌++◌, ◌+◌, ◌<◌, ◌==◌, ◌∙◌, ◌≡◌, ◌≤◌}
use Rattle.std.proofs.lemmas.List.{take-take}
use Rattle.zone_text.proofs.Entries.Begun.{none_found, none_left, nothing_taken}
use Rattle.zone_text.proofs.Files.Followed.{follow_break, follow_fault, follow_on, follow_one}
use Rattle.zone_text.specs.Machine.Feeding.{TakesPart}
use Rattle.zone_text.specs.OpenEntry.{EntryIs, HeldEntry, TakesFrom}
use Rattle.zone_text.specs.declared.open_entry.EntryState.TheVariants as states
use Rattle.zone_text.specs.declared.open_entry.Taken.{Taken}

-- what follows from octets goes on with more of them
abbrev pub FollowsOn : EndedEntries → List ℕ → EndedEntries → List ℕ → List ℕ → Type 0
FollowsOn old unfinished new left part =
    (origin : Labels) (fed : List ℕ) (given : List Placed) → Follow origin old unfinished fed given → Follow origin new left (fed ++ part) given

-- ---- a part of a piece, where no fault is decided

-- what an entry that is open takes of octets
pub record TakesFront (held : HeldEntry) (octets left : List ℕ) (taken : Taken) (now : HeldEntry) : Type 0 where
  pub within : taken.len ≤ length octets
  pub more : now.octets ≡ held.octets ++ take taken.len octets
  pub state : now.state ≡ taken.state
  pub is : EntryIs now.octets now.state
  pub some : 0 < taken.len
  pub back : left ≡ drop taken.len octets

-- what it takes of the first of them
pub takes_front : (held now : HeldEntry) (octets front left : List ℕ) (taken : Taken) (n : ℕ) → front ≡ take n octets → TakesFrom held front taken now → held.state ≡ states.Open → 0 < length front → left ≡ drop taken.len octets → TakesFront held octets left taken now
takes_front held now octets front left taken n cut takes is_open some back =
    let size : length front ≡ length (take n octets) = ap length cut in
    record {
      within = omega (arith, takes.within, size, length-take n octets);
      more = takes.octets ∙ ap (λ t. held.octets ++ t) (ap (take taken.len) cut ∙ take-take taken.len n octets (omega (arith, takes.within, size, length-take n octets)));
      state = takes.state;
      is = takes.is;
      some = takes.some is_open some;
      back = back;
    }

whole_of : (held now : HeldEntry) (octets left : List ℕ) (taken : Taken) → TakesFront held octets left taken now → octets ≡ take taken.len octets ++ left
whole_of held now octets left taken front = sym (take-append-drop taken.len octets) ∙ ap (λ t. take taken.len octets ++ t) (sym front.back)

len_of : (held now : HeldEntry) (octets left : List ℕ) (taken : Taken) → TakesFront held octets left taken now → length (take taken.len octets) ≡ taken.len
len_of held now octets left taken front = omega (arith, length-take taken.len octets, front.within)

-- they lead on
pub part_open : (old new : EntrySplitter) (octets left : List ℕ) (taken : Taken) → IsSplitter old.ended old.unfinished → old.ended.decided.ending ≡ None → TakesFront old.unfinished octets left taken new.unfinished → taken.state ≡ states.Open → new.ended ≡ old.ended → TakesPart old octets left new
part_open old new octets left taken is none front state same =
    let part : List ℕ = take taken.len octets in
    let len = len_of old.unfinished new.unfinished octets left taken front in
    let is_open = subst (λ s. EntryIs new.unfinished.octets s) (front.state ∙ state) front.is in
    record {
      part = part;
      whole = whole_of old.unfinished new.unfinished octets left taken front;
      some = omega (arith, len, front.some);
      is = record {
        state = front.state ∙ state;
        dropped = λ found ending. absurd (let e : Some found ≡ None = sym ending ∙ ap (λ (s : EndedEntries). s.decided.ending) same ∙ none in let t : ⊥ = cc in t);
        line = subst (λ (s : EndedEntries). 1 ≤ s.line) (sym same) is.line;
      };
      near = omega (arith, len, ap length front.more, length-append old.unfinished.octets part, ap (λ (s : EndedEntries). s.line) same);
      follow = λ origin fed given follow.
          subst (λ (s : EndedEntries). Follow origin s new.unfinished.octets (fed ++ part) given) (sym same)
          (subst (λ t. Follow origin old.ended t (fed ++ part) given) (sym front.more)
          (follow_on origin old.ended old.unfinished.octets part fed given (subst (λ t. IsOpen t) front.more is_open) none follow));
    }

-- they end an entry
pub part_ended : (old new : EntrySplitter) (octets left : List ℕ) (taken : Taken) (now : HeldEntry) → IsSplitter old.ended old.unfinished → old.ended.decided.ending ≡ None → TakesFront old.unfinished octets left taken now → taken.state ≡ states.Ended → ReadsOctets now.octets old.ended new.ended → new.unfinished.octets ≡ [] → new.unfinished.state ≡ states.Open → TakesPart old octets left new
part_ended old new octets left taken now is none front state reads empty is_open =
    let part : List ℕ = take taken.len octets in
    let len = len_of old.unfinished now octets left taken front in
    let entry = subst (λ s. EntryIs now.octets s) (front.state ∙ state) front.is in
    record {
      part = part;
      whole = whole_of old.unfinished now octets left taken front;
      some = omega (arith, len, front.some);
      is = nothing_taken new.ended new.unfinished empty is_open (omega (arith, is.line, reads.later));
      near = omega (arith, len, reads.near, ap length empty, ap length front.more, length-append old.unfinished.octets part);
      follow = λ origin fed given follow.
          subst (λ t. Follow origin new.ended t (fed ++ part) given) (sym empty)
          (follow_one origin old.ended new.ended old.unfinished.octets part fed given entry.0 (subst (λ t. IsOneEntry t entry.0) front.more entry.1) none (subst (λ t. ReadsOctets t old.ended new.ended) front.more reads) follow);
    }

-- they break the text for good
pub part_broken : (old new : EntrySplitter) (octets left : List ℕ) (taken : Taken) (now : HeldEntry) (fault : Fault) → IsSplitter old.ended old.unfinished → old.ended.decided.ending ≡ None → TakesFront old.unfinished octets left taken now → taken.state ≡ states.Broken fault → new.ended.decided.placed ≡ old.ended.decided.placed → new.ended.decided.ending ≡ Some (fault, Line old.ended.line) → new.ended.line ≡ old.ended.line → new.unfinished.octets ≡ [] → new.unfinished.state ≡ states.Open → TakesPart old octets left new
part_broken old new octets left taken now fault is none front state records ending line empty is_open =
    let part : List ℕ = take taken.len octets in
    let len = len_of old.unfinished now octets left taken front in
    let off = subst (λ s. EntryIs now.octets s) (front.state ∙ state) front.is in
    record {
      part = part;
      whole = whole_of old.unfinished now octets left taken front;
      some = omega (arith, len, front.some);
      is = nothing_taken new.ended new.unfinished empty is_open (omega (arith, is.line, line));
      near = omega (arith, len, line, ap length empty);
      follow = λ origin fed given follow.
          subst (λ t. Follow origin new.ended t (fed ++ part) given) (sym empty)
          (follow_break origin old.ended new.ended fault old.unfinished.octets part fed given (subst (λ t. IsBrokenOff t fault) front.more off) none records ending follow);
    }

pub part_less : (old new : EntrySplitter) (octets left : List ℕ) → TakesPart old octets left new → length left < length octets
part_less old new octets left takes = omega (arith, takes.some, ap length takes.whole, length-append takes.part left)

-- ---- a piece

-- so far the beginning of the piece was taken
pub record HasFed (old new : EntrySplitter) (piece rest : List ℕ) : Type 0 where
  pub front : List ℕ
  pub whole : piece ≡ front ++ rest
  pub is : IsSplitter new.ended new.unfinished
  pub near : new.ended.line + length new.unfinished.octets + length rest ≤ old.ended.line + length old.unfinished.octets + length piece
  pub settled : (found : Fault × Place) → old.ended.decided.ending ≡ Some found → new ≡ old
  pub follow : FollowsOn old.ended old.unfinished.octets new.ended new.unfinished.octets front

-- a part more
pub fed_more : (old mid new : EntrySplitter) (piece rest part after : List ℕ) → HasFed old mid piece rest → mid.ended.decided.ending ≡ None → rest ≡ part ++ after → length rest ≡ length part + length after → IsSplitter new.ended new.unfinished → new.ended.line + length new.unfinished.octets ≤ mid.ended.line + length mid.unfinished.octets + length part → FollowsOn mid.ended mid.unfinished.octets new.ended new.unfinished.octets part → HasFed old new piece after
fed_more old mid new piece rest part after before none cut len is near follow = record {
  front = before.front ++ part;
  whole = before.whole ∙ ap (λ t. before.front ++ t) cut ∙ sym (append_assoc before.front part after);
  is = is;
  near = omega (arith, before.near, near, len);
  settled = λ found ending. absurd (let same : mid ≡ old = before.settled found ending in let e : Some found ≡ None = sym ending ∙ ap (λ (s : EntrySplitter). s.ended.decided.ending) (sym same) ∙ none in let t : ⊥ = cc in t);
  follow = λ origin fed given f. subst (λ t. Follow origin new.ended new.unfinished.octets t given) (append_assoc fed before.front part) (follow origin (fed ++ before.front) given (before.follow origin fed given f));
}

pub fed_part : (old mid new : EntrySplitter) (piece rest after : List ℕ) → HasFed old mid piece rest → mid.ended.decided.ending ≡ None → TakesPart mid rest after new → HasFed old new piece after
fed_part old mid new piece rest after before none takes = fed_more old mid new piece rest takes.part after before none takes.whole (ap length takes.whole ∙ length-append takes.part after) takes.is takes.near takes.follow

-- all of the piece
pub fed_all : (old new : EntrySplitter) (piece rest : List ℕ) → HasFed old new piece rest → rest ≡ [] → FollowsOn old.ended old.unfinished.octets new.ended new.unfinished.octets piece
fed_all old new piece rest before none origin fed given f =
    subst (λ t. Follow origin new.ended new.unfinished.octets (fed ++ t) given) (sym (append-nil before.front) ∙ ap (λ t. before.front ++ t) (sym none) ∙ sym before.whole) (before.follow origin fed given f)

-- or the beginning of it, after which a fault is decided
pub fed_fault : (old new : EntrySplitter) (piece rest : List ℕ) (found : Fault × Place) → HasFed old new piece rest → new.ended.decided.ending ≡ Some found → FollowsOn old.ended old.unfinished.octets new.ended new.unfinished.octets piece
fed_fault old new piece rest found before ending origin fed given f = grind (arith, append_assoc fed before.front rest, follow_fault origin new.ended found new.unfinished.octets rest (fed ++ before.front) given ending (before.follow origin fed given f))

-- ---- what every feeding of a piece stands on

pub not_empty : (octets : List ℕ) → false ≡ (length octets == 0) → octets ≡ [] → ⊥
not_empty octets some none = search rules

pub ruleset feeds = (fed_part, part_less, none_found, none_left, not_empty)
