-- Octets that leave an entry open: more of them, and the end of the input after them.
use Rattle.std.proofs.Math.Logic.{⊎_elim}
use Rattle.std.specs.Prelude.{IfOk}
use Rattle.zone_text.proofs.Common.{AllByRecursion, AreTokens, BadEscape, Bool, BreaksForGood, Cut, Fault, IsBrokenOff, IsCutOff, IsOneEntry, IsOpen, IsToken, IsUnit, List, None, Ok, Err, Option, RawItem, Result, Some, Token, UnbalancedParenthesis, UnclosedQuote, Written, [], after_backslash, after_digit, after_two_digits, ap, append-nil, append_assoc, arith, at_end, bare, both_ways, cases_lt, comment, count_by, cut_from, depth_past, drop, ends_item, entry_of, false, inl, inr, is_quote, length, length-append, length-take, no_escape, no_quote, no_quoted_escape, not_closed, refl, subst, suc, sym, take, take-append-drop, take-append_seam, take-length, token_text, true, written_text, zero, ℕ, ◌++◌, ◌+◌, ◌-◌, ◌<◌, ◌==◌, ◌∙◌, ◌∷◌, ◌≡◌, ◌≢◌, ◌≤◌, ended_entries, numbered}
use Rattle.zone_text.proofs.Files.Left.{ended_entries_stay}
use Rattle.zone_text.proofs.Scanning.Walking.{AreUnits, EndsEntry, IsCut, IsOpenToken, IsSeen, RunsOut, StandsAt, StandsOpen, Walked, all_of, between, breaks_there, in_bare, in_comment, in_quotes, none_ended, none_seen, one_by, one_open, rest_at, walk_open, walked_none, walked_on}
use Rattle.zone_text.proofs.Scanning.Walking.{breaks_after as bare_breaks}
use Rattle.zone_text.proofs.Tokens.Cuttings.{cut_not_broken, one_break, HasRoom, Stops, begins, breaks, cuts, one_token_more}
use Rattle.zone_text.proofs.Tokens.ForGood.{malformed_is_bad}
use Rattle.zone_text.proofs.Tokens.Lasting.{breaks_for_good}
use Rattle.zone_text.proofs.Tokens.Spans.{take_past}
use Rattle.zone_text.specs.Machine.OpenEntry.{IsHeld, len_of, state_of}
use Rattle.zone_text.specs.OpenEntry.{EndIs, EntryIs, HeldEntry, TakesFrom}
use Rattle.zone_text.specs.declared.open_entry.EntryState.{EntryState}
use Rattle.zone_text.specs.declared.open_entry.EntryState.TheVariants as states
use Rattle.zone_text.specs.declared.open_entry.Taken.{Taken}
use Rattle.zone_text.specs.declared.walk.At.{At}
use Rattle.zone_text.specs.declared.walk.Reached.{Reached}
use Rattle.zone_text.specs.declared.walk.Reached.TheVariants as reached
use Rattle.zone_text.specs.Machine.Walk.{IsWalked}

-- ---- the open token, with more octets

first_of_cut : (after : List ℕ) → IsCutOff after → (more : List ℕ) × (after ≡ 92 ∷ more)
first_of_cut after (after_backslash e) = ([], e)
first_of_cut after (after_digit x e dx) = (x ∷ [], e)
first_of_cut after (after_two_digits x y e dx dy) = (x ∷ y ∷ [], e)

-- what begins a bare item, or its escape
bare_begins : (rest more : List ℕ) (c : ℕ) (units : List Written) (after : List ℕ) → AllByRecursion (IsUnit ends_item) units → rest ≡ written_text units ++ after → RunsOut after → rest ≡ c ∷ more → ends_item c ≡ false
bare_begins rest more c [] after each whole (inl none) first = absurd (omega (arith, ap length first, ap length whole, ap length none))
bare_begins rest more c [] after each whole (inr cut) first = let mark = first_of_cut after cut in let same : c ≡ 92 = (let e : c ∷ more ≡ 92 ∷ mark.0 = sym first ∙ whole ∙ mark.1 in cc) in ap ends_item same
bare_begins rest more c (w ∷ units) after each whole ended first = begins c more (bare (w ∷ units)) after (omega arith, each) (sym first ∙ whole)

no_mark : (rest piece left : List ℕ) (d n : ℕ) (are : AreUnits ends_item rest n) → RunsOut are.rest → 0 < length rest → rest ++ piece ≡ d ∷ left → ends_item d ≡ true → ⊥
no_mark [] piece left d n are ended some first ends_it = omega (arith, some)
no_mark (c ∷ rest) piece left d n are ended some first ends_it =
    let same : c ≡ d = cc in
    both_ways (ends_item d) (ap ends_item (sym same) ∙ bare_begins (c ∷ rest) rest c are.units are.rest are.each are.whole ended refl) ends_it

units_on : (ends : ℕ → Bool) (octets piece all : List ℕ) (n k : ℕ) → AreUnits ends octets k → all ≡ octets ++ piece → n ≡ k → AreUnits ends all n
units_on ends octets piece all n k are more count = record {
  units = are.units;
  rest = are.rest ++ piece;
  each = are.each;
  whole = more ∙ ap (λ t. t ++ piece) are.whole ∙ append_assoc (written_text are.units) are.rest piece;
  len = count ∙ are.len;
}

apart : (c d : ℕ) (xs ys : List ℕ) → c ∷ xs ≡ d ∷ ys → c ≢ d → ⊥
apart c d xs ys e other = other (let same : c ≡ d = cc in same)

seen_on : (rest piece : List ℕ) (n : ℕ) → IsOpenToken rest n → IsSeen (rest ++ piece) n
seen_on rest piece n (between none len) = subst (IsSeen (rest ++ piece)) (sym len) (none_seen (rest ++ piece))
seen_on rest piece n (in_comment note first each len) = record {
  of_comment = λ more e.
      let whole : more ≡ note ++ piece = (let t : 59 ∷ (note ++ piece) ≡ 59 ∷ more = ap (λ t. t ++ piece) (sym first) ∙ e in cc) in
      let size : n - 1 ≡ length note = omega (arith, len, ap length first) in
      let front : take (n - 1) more ≡ note = ap (λ k. take k more) size ∙ ap (take (length note)) whole ∙ take-append_seam note piece in
      record { each = subst (AllByRecursion (λ c. c ≢ 10)) (sym front) each; within = omega (arith, size, ap length whole, length-append note piece) };
  of_quoted = λ inside e. absurd (let t : 59 ∷ (note ++ piece) ≡ 34 ∷ inside = ap (λ t. t ++ piece) (sym first) ∙ e in apart 59 34 (note ++ piece) inside t (omega arith));
  of_bare = λ no_comment no_quote. absurd (no_comment (note ++ piece) (ap (λ t. t ++ piece) first));
}
seen_on rest piece n (in_quotes inside k are first ended len) = record {
  of_comment = λ more e. absurd (let t : 34 ∷ (inside ++ piece) ≡ 59 ∷ more = ap (λ t. t ++ piece) (sym first) ∙ e in apart 34 59 (inside ++ piece) more t (omega arith));
  of_quoted = λ more e.
      let whole : more ≡ inside ++ piece = (let t : 34 ∷ (inside ++ piece) ≡ 34 ∷ more = ap (λ t. t ++ piece) (sym first) ∙ e in cc) in
      units_on is_quote inside piece more (n - 1) k are whole (omega (arith, len));
  of_bare = λ no_comment no_quote. absurd (no_quote (inside ++ piece) (ap (λ t. t ++ piece) first));
}
seen_on rest piece n (in_bare are ended some) = record {
  of_comment = λ note e. absurd (no_mark rest piece note 59 n are ended some e refl);
  of_quoted = λ inside e. absurd (no_mark rest piece inside 34 n are ended some e refl);
  of_bare = λ no_comment no_quote. units_on ends_item rest piece (rest ++ piece) n n are refl refl;
}

-- a walk goes on over more octets
pub stands_on : (octets piece : List ℕ) (at : At) → StandsOpen octets at false [] → StandsAt (octets ++ piece) at false []
stands_on octets piece at is =
    let rest : List ℕ = drop at.start octets in
    let on : Walked (octets ++ piece) (rest ++ piece) at.depth at.feeds false [] = walked_on octets rest piece at.depth at.feeds false [] is.walked in
    let size : length octets ≡ at.start + length rest = omega (arith, is.within, ap length (take-append-drop at.start octets), length-append (take at.start octets) rest, length-take at.start octets) in
    let count : length (octets ++ piece) - length (rest ++ piece) ≡ at.start = omega (arith, size, length-append octets piece, length-append rest piece) in
    let here : rest ++ piece ≡ drop at.start (octets ++ piece) = rest_at (octets ++ piece) (rest ++ piece) at.depth at.feeds false [] on ∙ ap (λ n. drop n (octets ++ piece)) count in
    record {
      walked = subst (λ t. Walked (octets ++ piece) t at.depth at.feeds false []) here on;
      seen = subst (λ t. IsSeen t (at.seen - at.start)) here (seen_on rest piece (at.seen - at.start) is.is_open);
      within = omega (arith, is.within, length-append octets piece);
      order = is.order;
    }

no_kept : {A : Type 0} → false ≡ true → A
no_kept e = absurd (let t : ⊥ = cc in t)

-- nothing is kept, so nothing is said of it
none_kept : (octets rest : List ℕ) (depth feeds : ℕ) (kept : List RawItem) → Walked octets rest depth feeds false kept → Walked octets rest depth feeds false []
none_kept octets rest depth feeds kept is = record { before = is.before; whole = is.whole; goes = is.goes; entries = is.entries; are_kept = λ e. no_kept e; feeds_are = is.feeds_are; deep = is.deep }

pub walked_bare_of_items : (octets : List ℕ) (kept : List RawItem) (found : Reached) → IsWalked octets false kept found → IsWalked octets false [] found
walked_bare_of_items octets kept (reached.Open at) is = record { walked = none_kept octets (drop at.start octets) at.depth at.feeds kept is.walked; is_open = is.is_open; within = is.within; order = is.order }
walked_bare_of_items octets kept (reached.Ends n feeds) is = record { tokens = is.tokens; one = is.one; stated = λ e. no_kept e; some = is.some; within = is.within; feeds_are = is.feeds_are }
walked_bare_of_items octets kept (reached.LostEscape n) is = is
walked_bare_of_items octets kept (reached.ClosesNothing n) is = is

pub without_items : {E : Type 0} (octets : List ℕ) (kept : List RawItem) (result : Result Reached E) → IfOk result (λ found. IsWalked octets false kept found) → IfOk result (λ found. IsWalked octets false [] found)
without_items octets kept (Ok found) is = walked_bare_of_items octets kept found is
without_items octets kept (Err refused) is = tt

-- ---- the entry that octets hold

pub none_held : (octets : List ℕ) (at : At) → octets ≡ [] → at.start ≡ 0 → at.seen ≡ 0 → at.depth ≡ 0 → at.feeds ≡ 0 → StandsOpen octets at false []
none_held octets at none start seen depth feeds =
    rw (start, seen, depth, feeds) (record { walked = walked_none octets false [] refl; is_open = between none refl; within = omega arith; order = omega arith })

pub held_is : (octets : List ℕ) (found : Reached) → IsHeld octets found → EntryIs octets (state_of found)
held_is octets (reached.Open at) is = walk_open octets at false [] is
held_is octets (reached.Ends n feeds) (ends, all) =
    (ends.tokens, subst (λ t. IsOneEntry t ends.tokens) (ap (λ k. take k octets) all ∙ take-length octets) ends.one)
held_is octets (reached.LostEscape n) is = is
held_is octets (reached.ClosesNothing n) is = is

take_before : (xs ys : List ℕ) (n : ℕ) → n ≤ length xs → take n (xs ++ ys) ≡ take n xs
take_before xs ys zero within = refl
take_before [] ys (suc n) within = absurd (omega (arith, within))
take_before (x ∷ xs) ys (suc n) within = ap (λ t. x ∷ t) (take_before xs ys n (omega (arith, within)))

-- an entry that was open ends after the octets held
ends_after : (held piece : List ℕ) (n feeds : ℕ) → IsOpen held → EndsEntry (held ++ piece) n feeds false [] → length held < n
ends_after held piece n feeds is_open ends = ⊎_elim (λ less. less) (λ within. absurd (early within)) (cases_lt (length held) n)
  where
    early : n ≤ length held → ⊥
    early within =
        let front : take n (held ++ piece) ≡ take n held = take_before held piece n within in
        let one : IsOneEntry (take n held) ends.tokens = subst (λ t. IsOneEntry t ends.tokens) front ends.one in
        let stay = ended_entries_stay (take n held) (drop n held) ends.tokens is_open.tokens (inl one.cut) (subst (λ t. AreTokens t is_open.tokens) (sym (take-append-drop n held)) is_open.are) in
        let none : ended_entries is_open.tokens ≡ [] = ap (numbered 1) is_open.none in
        let some : ended_entries ends.tokens ≡ entry_of 1 ends.tokens ∷ [] = ap (λ (cut : Cut). numbered 1 cut.ended) one.ended in
        let e : [] ≡ entry_of 1 ends.tokens ∷ stay.0 = sym none ∙ stay.1 ∙ ap (λ t. t ++ stay.0) some in
        let t : ⊥ = cc in t

-- octets after those that break stay broken off
pub broken_on : (octets : List ℕ) (n : ℕ) (fault : Fault) → IsBrokenOff (take n octets) fault → IsBrokenOff octets fault
broken_on octets n fault off = record {
  tokens = off.tokens;
  breaks = subst (λ t. BreaksForGood t off.tokens fault) (take-append-drop n octets) (breaks_for_good (take n octets) (drop n octets) off.tokens fault off.breaks);
  none = off.none;
}

-- what is open isn't broken off
not_broken : (octets : List ℕ) (fault : Fault) → IsOpen octets → IsBrokenOff octets fault → ⊥
not_broken octets fault is_open off = by is_open.are
  where
    by : AreTokens octets is_open.tokens → ⊥
    by (inl cut) = cut_not_broken octets is_open.tokens off.tokens fault cut off.breaks.breaks
    by (inr broken) = is_open.goes_on fault (subst (λ t. BreaksForGood octets t fault) (sym (one_break octets is_open.tokens off.tokens broken.0 fault broken.1 off.breaks.breaks).0) off.breaks)

breaks_after : (held piece : List ℕ) (n : ℕ) (fault : Fault) → IsOpen held → IsBrokenOff (take n (held ++ piece)) fault → length held < n
breaks_after held piece n fault is_open off = ⊎_elim (λ less. less) (λ within. absurd (not_broken held fault is_open (broken_on held n fault (subst (λ t. IsBrokenOff t fault) (take_before held piece n within) off)))) (cases_lt (length held) n)

takes_ended : (old new : HeldEntry) (piece held : List ℕ) (n feeds : ℕ) (taken : Taken) → IsOpen held → old ≡ record { octets = held; state = states.Open } → EndsEntry (held ++ piece) n feeds false [] → taken.len ≡ n - length held → taken.state ≡ states.Ended → new ≡ record { octets = take n (held ++ piece); state = states.Ended } → TakesFrom old piece taken new
takes_ended old new piece held n feeds taken is_open old_is ends len state new_is =
    let more = ends_after held piece n feeds is_open ends in
    rw (old_is, new_is) (record {
      within = omega (arith, len, ends.within, length-append held piece);
      octets = take_past held piece n (omega (arith, more)) ∙ ap (λ k. held ++ take k piece) (sym len);
      state = sym state;
      is = (ends.tokens, ends.one);
      all = λ is_o. absurd (let e : states.Ended ≡ states.Open = sym state ∙ is_o in let t : ⊥ = cc in t);
      some = λ is_o some. omega (arith, len, more);
      settled = λ no_open. absurd (no_open refl);
    })

takes_all : (old new : HeldEntry) (piece held : List ℕ) (state : EntryState) (taken : Taken) → old ≡ record { octets = held; state = states.Open } → EntryIs (held ++ piece) state → taken.len ≡ length piece → taken.state ≡ state → new ≡ record { octets = held ++ piece; state = state } → TakesFrom old piece taken new
takes_all old new piece held state taken old_is is len state_is new_is =
    rw (old_is, new_is) (record {
      within = omega (arith, len);
      octets = ap (λ t. held ++ t) (sym (take-length piece) ∙ ap (λ k. take k piece) (sym len));
      state = sym state_is;
      is = is;
      all = λ is_o. len;
      some = λ is_o some. subst (λ k. 0 < k) (sym len) some;
      settled = λ no_open. absurd (no_open refl);
    })

takes_broken : (old new : HeldEntry) (piece held : List ℕ) (n : ℕ) (fault : Fault) (taken : Taken) → IsOpen held → old ≡ record { octets = held; state = states.Open } → IsBrokenOff (take n (held ++ piece)) fault → n ≤ length (held ++ piece) → taken.len ≡ n - length held → taken.state ≡ states.Broken fault → new ≡ record { octets = take n (held ++ piece); state = states.Broken fault } → TakesFrom old piece taken new
takes_broken old new piece held n fault taken is_open old_is off within len state new_is =
    let more = breaks_after held piece n fault is_open off in
    rw (old_is, new_is) (record {
      within = omega (arith, len, within, length-append held piece);
      octets = take_past held piece n (omega (arith, more)) ∙ ap (λ k. held ++ take k piece) (sym len);
      state = sym state;
      is = off;
      all = λ is_o. absurd (let e : states.Broken fault ≡ states.Open = sym state ∙ is_o in let t : ⊥ = cc in t);
      some = λ is_o some. omega (arith, len, more);
      settled = λ no_open. absurd (no_open refl);
    })

-- an entry that was open takes what a walk over its octets and others came to
pub takes_by : (old new : HeldEntry) (piece held : List ℕ) (found : Reached) (n : ℕ) (taken : Taken) → IsOpen held → old ≡ record { octets = held; state = states.Open } → IsWalked (held ++ piece) false [] found → n ≡ len_of found (length (held ++ piece)) → taken.len ≡ n - length held → taken.state ≡ state_of found → new ≡ record { octets = take n (held ++ piece); state = state_of found } → TakesFrom old piece taken new
takes_by old new piece held (reached.Open at) n taken is_open old_is is count len state new_is =
    takes_all old new piece held states.Open taken old_is (walk_open (held ++ piece) at false [] is) (omega (arith, len, count, length-append held piece)) state
    (new_is ∙ ap (λ t. record { octets = t; state = states.Open }) (ap (λ k. take k (held ++ piece)) count ∙ take-length (held ++ piece)))
takes_by old new piece held (reached.Ends k feeds) n taken is_open old_is is count len state new_is =
    takes_ended old new piece held k feeds taken is_open old_is is (omega (arith, len, count)) state (new_is ∙ ap (λ j. record { octets = take j (held ++ piece); state = states.Ended }) count)
takes_by old new piece held (reached.LostEscape k) n taken is_open old_is is count len state new_is =
    takes_broken old new piece held k BadEscape taken is_open old_is is.0 is.1 (omega (arith, len, count)) state (new_is ∙ ap (λ j. record { octets = take j (held ++ piece); state = states.Broken BadEscape }) count)
takes_by old new piece held (reached.ClosesNothing k) n taken is_open old_is is count len state new_is =
    takes_broken old new piece held k UnbalancedParenthesis taken is_open old_is is.0 is.1 (omega (arith, len, count)) state (new_is ∙ ap (λ j. record { octets = take j (held ++ piece); state = states.Broken UnbalancedParenthesis }) count)

-- and keeps its octets
pub held_by : (held piece : List ℕ) (found : Reached) (n : ℕ) → IsOpen held → IsWalked (held ++ piece) false [] found → n ≡ len_of found (length (held ++ piece)) → (length held ≤ n) × IsHeld (take n (held ++ piece)) found
held_by held piece (reached.Open at) n is_open is count =
    (omega (arith, count, length-append held piece), subst (λ t. StandsOpen t at false []) (sym (ap (λ k. take k (held ++ piece)) count ∙ take-length (held ++ piece))) is)
held_by held piece (reached.Ends k feeds) n is_open is count =
    let more = ends_after held piece k feeds is_open is in
    let all : List ℕ = take k (held ++ piece) in
    let size : k ≡ length all = omega (arith, length-take k (held ++ piece), is.within) in
    let again : take k all ≡ all = ap (λ j. take j all) size ∙ take-length all in
    let ends : EndsEntry all k feeds false [] = record {
      tokens = is.tokens;
      one = subst (λ t. IsOneEntry t is.tokens) (sym again) is.one;
      stated = λ e. no_kept e;
      some = is.some;
      within = omega (arith, size);
      feeds_are = ap (count_by (λ c. c == 10)) again ∙ is.feeds_are;
    } in
    (omega (arith, count, more), subst (λ j. IsHeld (take j (held ++ piece)) (reached.Ends k feeds)) (sym count) (ends, size))
held_by held piece (reached.LostEscape k) n is_open is count =
    let more = breaks_after held piece k BadEscape is_open is.0 in
    (omega (arith, count, more), subst (λ j. IsBrokenOff (take j (held ++ piece)) BadEscape) (sym count) is.0)
held_by held piece (reached.ClosesNothing k) n is_open is count =
    let more = breaks_after held piece k UnbalancedParenthesis is_open is.0 in
    (omega (arith, count, more), subst (λ j. IsBrokenOff (take j (held ++ piece)) UnbalancedParenthesis) (sym count) is.0)

pub takes_none : (old new : HeldEntry) (piece held : List ℕ) (found : Reached) (taken : Taken) → IsHeld held found → ((at : At) → found ≡ reached.Open at → ⊥) → old ≡ record { octets = held; state = state_of found } → new ≡ old → taken.len ≡ 0 → taken.state ≡ state_of found → TakesFrom old piece taken new
takes_none old new piece held found taken is settled old_is new_is len state =
    rw (new_is, old_is) (record {
      within = omega (arith, len);
      octets = sym (ap (λ k. held ++ take k piece) len ∙ append-nil held);
      state = sym state;
      is = held_is held found is;
      all = λ is_o. absurd (not_open found settled (sym state ∙ is_o));
      some = λ is_o some. absurd (not_open found settled is_o);
      settled = λ no_open. (len, refl);
    })
  where
    not_open : (found : Reached) → ((at : At) → found ≡ reached.Open at → ⊥) → state_of found ≡ states.Open → ⊥
    not_open (reached.Open at) settled e = settled at refl
    not_open (reached.Ends n feeds) settled e = let t : ⊥ = cc in t
    not_open (reached.LostEscape n) settled e = let t : ⊥ = cc in t
    not_open (reached.ClosesNothing n) settled e = let t : ⊥ = cc in t

-- ---- the end of the input

end_of : (octets rest : List ℕ) (depth feeds : ℕ) (so_far : Walked octets rest depth feeds false []) (more : List Token) (fault : Option Fault) → IsCut depth rest more fault → cut_from depth more ≡ one_open more → EndIs octets fault
end_of octets rest depth feeds so_far more None is open_is = (so_far.before ++ more, cuts octets (so_far.before ++ more) (all_of octets rest depth feeds false [] so_far more None is), none_ended octets rest depth feeds false [] so_far more open_is)
end_of octets rest depth feeds so_far more (Some fault) is open_is = (so_far.before ++ more, breaks octets (so_far.before ++ more) fault (all_of octets rest depth feeds false [] so_far more (Some fault) is), none_ended octets rest depth feeds false [] so_far more open_is)

-- the octets end within an escape
escape_left : (octets rest : List ℕ) (depth feeds n : ℕ) → Walked octets rest depth feeds false [] → IsOpenToken rest n → n < length rest → EndIs octets (Some BadEscape)
escape_left octets rest depth feeds n so_far (between none len) less = absurd (omega (arith, less, ap length none))
escape_left octets rest depth feeds n so_far (in_comment note first each len) less = absurd (omega (arith, less, len))
escape_left octets rest depth feeds n so_far (in_quotes inside k are first (inl none) len) less = absurd (omega (arith, less, len, are.len, ap length first, ap length are.whole, length-append (written_text are.units) are.rest, ap length none))
escape_left octets rest depth feeds n so_far (in_quotes inside k are first (inr cut) len) less =
    end_of octets rest depth feeds so_far [] (Some BadEscape) (breaks_there depth rest BadEscape (no_quoted_escape are.units are.rest are.each (first ∙ ap (λ t. 34 ∷ t) are.whole) (malformed_is_bad are.rest (inr cut)))) refl
escape_left octets rest depth feeds n so_far (in_bare are (inl none) some) less = absurd (omega (arith, less, are.len, ap length are.whole, length-append (written_text are.units) are.rest, ap length none))
escape_left octets rest depth feeds n so_far (in_bare are (inr cut) some) less = by are.units are.rest are.each are.whole cut
  where
    by : (units : List Written) (after : List ℕ) → AllByRecursion (IsUnit ends_item) units → rest ≡ written_text units ++ after → IsCutOff after → EndIs octets (Some BadEscape)
    by [] after each whole cut = end_of octets rest depth feeds so_far [] (Some BadEscape) (breaks_there depth rest BadEscape (no_escape (malformed_is_bad rest (inr (subst IsCutOff (sym whole) cut))))) refl
    by (w ∷ units) after each whole cut = end_of octets rest depth feeds so_far (bare (w ∷ units) ∷ []) (Some BadEscape) (bare_breaks depth rest after w units each whole (malformed_is_bad after (inr cut))) (one_by depth (bare (w ∷ units)) tt)

-- they end within quotes
quote_left : (octets rest after : List ℕ) (c depth feeds n : ℕ) → Walked octets rest depth feeds false [] → IsOpenToken rest n → (n < length rest → ⊥) → rest ≡ c ∷ after → c ≡ 34 → EndIs octets (Some UnclosedQuote)
quote_left octets rest after c depth feeds n so_far (between none len) all begin is = absurd (omega (arith, ap length begin, ap length none))
quote_left octets rest after c depth feeds n so_far (in_comment note first each len) all begin is = absurd (let same : c ≡ 59 = (let e : c ∷ after ≡ 59 ∷ note = sym begin ∙ first in cc) in omega (arith, same, is))
quote_left octets rest after c depth feeds n so_far (in_quotes inside k are first (inl none) len) all begin is =
    let whole : rest ≡ 34 ∷ written_text are.units = first ∙ ap (λ t. 34 ∷ t) (are.whole ∙ ap (λ t. written_text are.units ++ t) none ∙ append-nil (written_text are.units)) in
    end_of octets rest depth feeds so_far [] (Some UnclosedQuote) (breaks_there depth rest UnclosedQuote (no_quote are.units are.each whole)) refl
quote_left octets rest after c depth feeds n so_far (in_quotes inside k are first (inr cut) len) all begin is =
    let mark = first_of_cut are.rest cut in
    absurd (all (omega (arith, len, are.len, ap length first, ap length are.whole, length-append (written_text are.units) are.rest, ap length mark.1)))
quote_left octets rest after c depth feeds n so_far (in_bare are ended some) all begin is = absurd (both_ways (ends_item 34) (subst (λ d. ends_item d ≡ false) is (bare_begins rest after c are.units are.rest are.each are.whole ended begin)) refl)

fault_at : ℕ → Option Fault
fault_at zero = None
fault_at (suc depth) = Some UnbalancedParenthesis

nothing_at : (depth : ℕ) → IsCut depth [] [] (fault_at depth)
unfolding fault_at
nothing_at zero = record { rest = []; at = zero; whole = refl; each = tt; follow = tt; last = tt; parentheses = refl; ends = (refl, refl) }
nothing_at (suc depth) = record { rest = []; at = suc depth; whole = refl; each = tt; follow = tt; last = tt; parentheses = refl; ends = not_closed (omega arith) refl }

token_at : (depth : ℕ) (p : Token) → IsToken p → Stops p [] → HasRoom depth p → depth_past depth p ≡ depth → IsCut depth (token_text p) (p ∷ []) (fault_at depth)
token_at depth p token stop room same =
    one_token_more depth (token_text p) [] p [] (fault_at depth) (record { whole = sym (append-nil (token_text p)); token = token; stop = stop; room = room }) (subst (λ d. IsCut d [] [] (fault_at depth)) (sym same) (nothing_at depth))

-- they end after a token or in one that they end
else_left : (octets rest : List ℕ) (depth feeds n : ℕ) → Walked octets rest depth feeds false [] → IsOpenToken rest n → (n < length rest → ⊥) → ((after : List ℕ) → rest ≡ 34 ∷ after → ⊥) → EndIs octets (fault_at depth)
else_left octets rest depth feeds n so_far (between none len) all other = end_of octets rest depth feeds so_far [] (fault_at depth) (subst (λ t. IsCut depth t [] (fault_at depth)) (sym none) (nothing_at depth)) refl
else_left octets rest depth feeds n so_far (in_comment note first each len) all other =
    end_of octets rest depth feeds so_far (comment note ∷ []) (fault_at depth) (subst (λ t. IsCut depth t (comment note ∷ []) (fault_at depth)) (sym first) (token_at depth (comment note) each tt tt refl)) (one_by depth (comment note) tt)
else_left octets rest depth feeds n so_far (in_quotes inside k are first ended len) all other = absurd (other inside first)
else_left octets rest depth feeds n so_far (in_bare are (inr cut) some) all other =
    let mark = first_of_cut are.rest cut in
    absurd (all (omega (arith, are.len, ap length are.whole, length-append (written_text are.units) are.rest, ap length mark.1)))
else_left octets rest depth feeds n so_far (in_bare are (inl none) some) all other = by are.units are.each (are.whole ∙ ap (λ t. written_text are.units ++ t) none ∙ append-nil (written_text are.units))
  where
    by : (units : List Written) → AllByRecursion (IsUnit ends_item) units → rest ≡ written_text units → EndIs octets (fault_at depth)
    by [] each whole = absurd (omega (arith, some, ap length whole))
    by (w ∷ units) each whole = end_of octets rest depth feeds so_far (bare (w ∷ units) ∷ []) (fault_at depth) (subst (λ t. IsCut depth t (bare (w ∷ units) ∷ []) (fault_at depth)) (sym whole) (token_at depth (bare (w ∷ units)) (omega arith, each) (at_end refl) tt refl)) (one_by depth (bare (w ∷ units)) tt)

-- an entry that is open has no other state
pub end_is : (octets : List ℕ) (at : At) (state : EntryState) (fault : Option Fault) → state ≡ states.Open → EndIs octets fault → (state ≡ states.Open → EndIs octets fault) × (state ≡ states.Ended → fault ≡ None) × ((found : Fault) → state ≡ states.Broken found → fault ≡ Some found)
end_is octets at state fault is_o ends = (λ e. ends, λ e. absurd (let t : states.Open ≡ states.Ended = sym is_o ∙ e in let b : ⊥ = cc in b), λ found e. absurd (let t : states.Open ≡ states.Broken found = sym is_o ∙ e in let b : ⊥ = cc in b))

pub end_in_escape : (octets : List ℕ) (at : At) → StandsOpen octets at false [] → at.seen - at.start < length (drop at.start octets) → EndIs octets (Some BadEscape)
end_in_escape octets at is less = escape_left octets (drop at.start octets) at.depth at.feeds (at.seen - at.start) is.walked is.is_open less

pub end_in_quotes : (octets rest after : List ℕ) (c : ℕ) (at : At) → StandsOpen octets at false [] → rest ≡ drop at.start octets → (at.seen - at.start < length rest → ⊥) → rest ≡ c ∷ after → c ≡ 34 → EndIs octets (Some UnclosedQuote)
end_in_quotes octets rest after c at is back all begin quote = quote_left octets (drop at.start octets) after c at.depth at.feeds (at.seen - at.start) is.walked is.is_open (λ less. all (subst (λ t. at.seen - at.start < length t) (sym back) less)) (sym back ∙ begin) quote

pub end_in_parentheses : (octets rest : List ℕ) (at : At) → StandsOpen octets at false [] → rest ≡ drop at.start octets → (at.seen - at.start < length rest → ⊥) → ((after : List ℕ) → rest ≡ 34 ∷ after → ⊥) → 0 < at.depth → EndIs octets (Some UnbalancedParenthesis)
unfolding fault_at
end_in_parentheses octets rest at is back all other deep = subst (EndIs octets) (by at.depth deep) (else_left octets (drop at.start octets) at.depth at.feeds (at.seen - at.start) is.walked is.is_open (λ less. all (subst (λ t. at.seen - at.start < length t) (sym back) less)) (λ after e. other after (back ∙ e)))
  where
    by : (depth : ℕ) → 0 < depth → fault_at depth ≡ Some UnbalancedParenthesis
    by zero deep = absurd (omega (arith, deep))
    by (suc depth) deep = refl

pub end_between : (octets rest : List ℕ) (at : At) → StandsOpen octets at false [] → rest ≡ drop at.start octets → (at.seen - at.start < length rest → ⊥) → ((after : List ℕ) → rest ≡ 34 ∷ after → ⊥) → at.depth ≡ 0 → EndIs octets None
unfolding fault_at
end_between octets rest at is back all other none = subst (EndIs octets) (ap fault_at none) (else_left octets (drop at.start octets) at.depth at.feeds (at.seen - at.start) is.walked is.is_open (λ less. all (subst (λ t. at.seen - at.start < length t) (sym back) less)) (λ after e. other after (back ∙ e)))
