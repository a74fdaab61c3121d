-- What was written for octets that are fed, part by part.
use Rattle.zone_text.proofs.Tokens.Lasting.{breaks_for_good, stays_some}
use Rattle.zone_words.proofs.Common.{AddsTold, AreInShort, BecomesUnder, Breaks, Cut, Cuts, Entry, Err, Fault, FollowInPart, FollowOn, GoesOn, HasWritten, HasWrittenAll, HasWrittenInPart, HeldText, IsBrokenOff, IsFedWriter, IsFirstEntry, IsInherited, IsLeft, IsOneEntry, IsOpen, IsRewriting, IsRewrittenInPart, IsRewrittenSoFar, IsSoFar, IsStopped, Labels, List, None, Ok, OnErr, Option, PushesOctets, RawItem, Refused, Result, Some, TakesFront, Token, WritesAll, [], ap, append-nil, append_assoc, arith, both_ways, common_steps, count_by-le-length, count_reach, cut_from, drop, drop_all, ended_entries, entry_of, false, first_of, flat_map, flat_map-append, going, held_of, inl, inr, length, length-append, length-take, line_feeds, line_reach, numbered, numbered_then, option_map, option_or, refl, refused_of, reverse, reverse-append, split, stopped, subst, sum_by-append, sym, take, take-append-drop, take-length, text, true, zero, ℕ, ◌++◌, ◌+◌, ◌<◌, ◌==◌, ◌∙◌, ◌∷◌, ◌≡◌, ◌≤◌, ◌⊎◌}
use Rattle.zone_text.proofs.Entries.Begun.{no_tokens}
use Rattle.zone_text.proofs.Tokens.CutAgain.{joined}
use Rattle.zone_text.specs.OpenEntry.{EndIs, EntryIs, HeldEntry, TakesFrom}
use Rattle.zone_text.specs.declared.open_entry.Taken.{Taken}
use Rattle.zone_text.specs.declared.open_entry.EntryState.{EntryState}
use Rattle.zone_text.specs.declared.open_entry.EntryState.TheVariants.{Broken, Ended, Open}
use Rattle.zone_words.proofs.Files.{HasDone, NextBecomes, broken_last, closed, from_entries, whole_cut, whole_done, whole_last}
unfoldable use Rattle.zone_words.proofs.Files.{as_entries, done_entry}
use Rattle.zone_words.specs.Machine.EntryWriting.{IsPushed, PushesEntry}
use Rattle.zone_words.specs.Rewriting as rewriting
use Rattle.zone_words.specs.declared.entry_writer.EntryWriter.{EntryWriter}
use Rattle.zone_words.specs.declared.fed_writer.FedWriter.{FedWriter}
use Rattle.zone_words.specs.declared.refusal.Refusals.{Refusals}

-- ---- what is told

first_append : (told more : List Refused) → option_or (first_of told) (first_of more) ≡ first_of (told ++ more)
first_append [] more = refl
first_append (r ∷ told) more = refl

pub in_short_more : (told more : List Refused) (old new : Refusals) → AreInShort told old → AddsTold more old new → AreInShort (told ++ more) new
in_short_more told more old new short adds = record {
  first = adds.first ∙ ap (λ o. option_or o (first_of more)) short.first ∙ first_append told more;
  count = omega (arith, adds.count, short.count, length-append told more);
}

-- ---- the entries before the octets that wait, and what they leave

pub record Goes (origin : Labels) (held : HeldText) (fed new : List ℕ) (told : List Refused) : Type 0 where
  pub has : HasDone (BecomesUnder origin) fed held.waiting new told
  pub is_open : IsOpen held.waiting
  pub line : held.line ≡ 1 + line_feeds (flat_map text has.ended)
  pub inherited : IsInherited origin (reverse (numbered 1 has.ended)) held.inherited

pub goes : (origin : Labels) (held : HeldText) (fed new : List ℕ) (told : List Refused) → GoesOn origin held fed new told → Goes origin held fed new told
goes origin held fed new told on = record {
  has = record {
    done = on.done;
    begun = on.whole;
    ended = (cut_from zero on.are.tokens).ended;
    outcomes = on.are.outcomes;
    parts = split on.done on.are.tokens [] (inl on.are.cut) (closed on.done on.are.tokens on.are.cut on.are.ended);
    each = on.are.each;
    new_is = on.are.new_is;
    told_is = on.are.told_is;
  };
  is_open = on.is_open;
  line = on.line;
  inherited = on.inherited;
}

pub goes_on : (origin : Labels) (held : HeldText) (fed new : List ℕ) (told : List Refused) → Goes origin held fed new told → GoesOn origin held fed new told
unfolding as_entries
goes_on origin held fed new told g =
    let ended : List (List Token) = g.has.ended in
    let same : (cut_from zero (joined ended)).ended ≡ ended = ap (λ (c : Cut). c.ended) (whole_cut ended g.has.parts.stays) in
    record {
      done = g.has.done;
      are = as_entries (BecomesUnder origin) fed held.waiting new told g.has;
      whole = g.has.begun;
      is_open = g.is_open;
      line = g.line ∙ ap (λ (e : List (List Token)). 1 + line_feeds (flat_map text e)) (sym same);
      inherited = subst (λ e. IsInherited origin (reverse (numbered 1 e)) held.inherited) (sym same) g.inherited;
    }

-- where nothing broke
going_only : (origin : Labels) (held : HeldText) (fed new : List ℕ) (told : List Refused) → held.broken ≡ false → IsSoFar origin held fed new told → GoesOn origin held fed new told
going_only origin held fed new told is (going same on) = on
going_only origin held fed new told is (stopped broken none so) = absurd (both_ways held.broken is broken)

stopped_only : (origin : Labels) (held : HeldText) (fed new : List ℕ) (told : List Refused) → held.broken ≡ true → IsSoFar origin held fed new told → IsStopped (BecomesUnder origin) fed new told
stopped_only origin held fed new told is (going same on) = absurd (both_ways held.broken same is)
stopped_only origin held fed new told is (stopped broken none so) = so

pub goes_of : (origin : Labels) (w : FedWriter) (fed given : List ℕ) → w.is_broken ≡ false → (h : HasWritten origin w fed given) → Goes origin (held_of w) fed (given ++ w.entries.written.items) h.told
goes_of origin w fed given is h = goes origin (held_of w) fed (given ++ w.entries.written.items) h.told (going_only origin (held_of w) fed (given ++ w.entries.written.items) h.told is h.so_far)

-- more octets
abbrev longer : (origin : Labels) (fed rest new part : List ℕ) (told : List Refused) → HasDone (BecomesUnder origin) fed rest new told → HasDone (BecomesUnder origin) (fed ++ part) (rest ++ part) new told
longer origin fed rest new part told has = record {
  done = has.done;
  begun = ap (λ t. t ++ part) has.begun ∙ append_assoc has.done rest part;
  ended = has.ended;
  outcomes = has.outcomes;
  parts = has.parts;
  each = has.each;
  new_is = has.new_is;
  told_is = has.told_is;
}

-- other octets that are the same
abbrev again : (origin : Labels) (fed rest left new : List ℕ) (told : List Refused) → left ≡ rest → HasDone (BecomesUnder origin) fed rest new told → HasDone (BecomesUnder origin) fed left new told
again origin fed rest left new told same has = record {
  done = has.done;
  begun = has.begun ∙ ap (λ t. has.done ++ t) (sym same);
  ended = has.ended;
  outcomes = has.outcomes;
  parts = has.parts;
  each = has.each;
  new_is = has.new_is;
  told_is = has.told_is;
}

-- ---- an entry more

-- what becomes of the octets, which are one entry, is written and told
pub record PushesOne (octets : List ℕ) (old new : EntryWriter) : Type 0 where
  pub tokens : List Token
  pub one : IsOneEntry octets tokens
  pub pushes : (origin : Labels) (before : List Entry) → IsInherited origin before old.inherited → IsPushed origin before tokens old new

next_of : (origin : Labels) (ended : List (List Token)) (old new : EntryWriter) (entry : List Token) (given : List ℕ) (told : List Refused) → old.line ≡ 1 + line_feeds (flat_map text ended) → (p : IsPushed origin (reverse (numbered 1 ended)) entry old new) → NextBecomes (BecomesUnder origin) ended entry (given ++ old.written.items) (given ++ new.written.items) told (told ++ p.outcome.told)
next_of origin ended old new entry given told line p = record {
  outcome = p.outcome;
  is = subst (λ l. BecomesUnder origin (reverse (numbered 1 ended) ++ []) l entry p.outcome) line (subst (λ b. BecomesUnder origin b old.line entry p.outcome) (sym (append-nil (reverse (numbered 1 ended)))) p.becomes);
  new_is = ap (λ t. given ++ t) p.written ∙ sym (append_assoc given old.written.items (text p.outcome.written));
  told_is = refl;
}

line_after : (ended : List (List Token)) (entry : List Token) (line now : ℕ) → line ≡ 1 + line_feeds (flat_map text ended) → now ≡ line + line_feeds (text entry) → now ≡ 1 + line_feeds (flat_map text (ended ++ entry ∷ []))
line_after ended entry line now before after =
    let parts : flat_map text (ended ++ entry ∷ []) ≡ flat_map text ended ++ text entry = flat_map-append text ended (entry ∷ []) ∙ ap (λ t. flat_map text ended ++ t) (append-nil (text entry)) in
    let sums : line_feeds (flat_map text (ended ++ entry ∷ [])) ≡ line_feeds (flat_map text ended) + line_feeds (text entry) = ap line_feeds parts ∙ sum_by-append _ (flat_map text ended) (text entry) in
    omega (arith, before, after, sums)

none_left : (octets rest : List ℕ) → [] ≡ octets ++ rest → rest ≡ []
none_left [] rest none = sym none
none_left (c ∷ octets) rest none = absurd cc

pub nothing_open : IsOpen []
nothing_open = record {
  tokens = [];
  are = inl no_tokens;
  none = refl;
  goes_on = λ fault good. stays_some good.breaks.rest good.stays (none_left (text []) good.breaks.rest good.breaks.whole);
}

entry_goes : (origin : Labels) (old new : FedWriter) (fed part given : List ℕ) (told : List Refused) → (g : Goes origin (held_of old) fed (given ++ old.entries.written.items) told) → new.unfinished.octets ≡ [] → (p : PushesOne (old.unfinished.octets ++ part) old.entries new.entries) → Goes origin (held_of new) (fed ++ part) (given ++ new.entries.written.items) (told ++ (p.pushes origin (reverse (numbered 1 g.has.ended)) g.inherited).outcome.told)
unfolding done_entry
entry_goes origin old new fed part given told g none p =
    let waiting : List ℕ = old.unfinished.octets in
    let ended : List (List Token) = g.has.ended in
    let pushed : IsPushed origin (reverse (numbered 1 ended)) p.tokens old.entries new.entries = p.pushes origin (reverse (numbered 1 ended)) g.inherited in
    let later : List Refused = told ++ pushed.outcome.told in
    let more = longer origin fed waiting (given ++ old.entries.written.items) part told g.has in
    let next = next_of origin ended old.entries new.entries p.tokens given told g.line pushed in
    record {
      has = again origin (fed ++ part) [] new.unfinished.octets (given ++ new.entries.written.items) later none
          (done_entry (BecomesUnder origin) (fed ++ part) (waiting ++ part) (waiting ++ part) [] (given ++ old.entries.written.items) (given ++ new.entries.written.items) told later more (sym (append-nil (waiting ++ part))) p.tokens p.one next);
      is_open = subst IsOpen (sym none) nothing_open;
      line = line_after ended p.tokens old.entries.line new.entries.line g.line pushed.line;
      inherited = subst (λ b. IsInherited origin b new.entries.inherited) (ap (λ n. entry_of n p.tokens ∷ reverse (numbered 1 ended)) g.line ∙ sym (ap reverse (numbered_then 1 ended (p.tokens ∷ [])) ∙ reverse-append (numbered 1 ended) (entry_of (1 + line_feeds (flat_map text ended)) p.tokens ∷ []))) pushed.inherited;
    }

pub entry_follows : (old new : FedWriter) (part : List ℕ) → old.is_broken ≡ false → new.is_broken ≡ old.is_broken → new.unfinished.octets ≡ [] → PushesOne (old.unfinished.octets ++ part) old.entries new.entries → FollowOn old part new
entry_follows old new part is same none p origin fed given h =
    let g = goes_of origin old fed given is h in
    let pushed = p.pushes origin (reverse (numbered 1 g.has.ended)) g.inherited in
    record {
      told = h.told ++ pushed.outcome.told;
      in_short = in_short_more h.told pushed.outcome.told old.entries.refusals new.entries.refusals h.in_short pushed.told;
      so_far = going (same ∙ is) (goes_on origin (held_of new) (fed ++ part) (given ++ new.entries.written.items) (h.told ++ pushed.outcome.told) (entry_goes origin old new fed part given h.told g none p));
    }

-- ---- octets more of an entry that isn't ended

pub open_follows : (old new : FedWriter) (part : List ℕ) → old.is_broken ≡ false → new.is_broken ≡ old.is_broken → new.entries ≡ old.entries → new.unfinished.octets ≡ old.unfinished.octets ++ part → IsOpen new.unfinished.octets → FollowOn old part new
open_follows old new part is same entries octets waits origin fed given h =
    let g = goes_of origin old fed given is h in
    let new_is : given ++ old.entries.written.items ≡ given ++ new.entries.written.items = ap (λ (w : EntryWriter). given ++ w.written.items) (sym entries) in
    record {
      told = h.told;
      in_short = subst (λ (w : EntryWriter). AreInShort h.told w.refusals) (sym entries) h.in_short;
      so_far = going (same ∙ is) (subst (λ t. GoesOn origin (held_of new) (fed ++ part) t h.told) new_is
          (goes_on origin (held_of new) (fed ++ part) (given ++ old.entries.written.items) h.told (record {
            has = again origin (fed ++ part) (old.unfinished.octets ++ part) new.unfinished.octets (given ++ old.entries.written.items) h.told octets (longer origin fed old.unfinished.octets (given ++ old.entries.written.items) part h.told g.has);
            is_open = waits;
            line = ap (λ (w : EntryWriter). w.line) entries ∙ g.line;
            inherited = subst (λ (w : EntryWriter). IsInherited origin (reverse (numbered 1 g.has.ended)) w.inherited) (sym entries) g.inherited;
          })));
    }

-- ---- octets that break

pub broken_follows : (old new : FedWriter) (part : List ℕ) (fault : Fault) → old.is_broken ≡ false → new.is_broken ≡ true → new.unfinished.octets ≡ [] → new.entries.refusals ≡ old.entries.refusals → new.entries.written.items ≡ old.entries.written.items ++ (old.unfinished.octets ++ part) → IsBrokenOff (old.unfinished.octets ++ part) fault → FollowOn old part new
broken_follows old new part fault is broken none same pushed breaks origin fed given h =
    let on = going_only origin (held_of old) fed (given ++ old.entries.written.items) h.told is h.so_far in
    record {
      told = h.told;
      in_short = subst (AreInShort h.told) (sym same) h.in_short;
      so_far = stopped broken none (record {
        done = on.done;
        old = given ++ old.entries.written.items;
        rest = old.unfinished.octets ++ part;
        fault = fault;
        are = on.are;
        whole = ap (λ t. t ++ part) on.whole ∙ append_assoc on.done old.unfinished.octets part;
        breaks = breaks;
        new_is = ap (λ t. given ++ t) pushed ∙ sym (append_assoc given old.entries.written.items (old.unfinished.octets ++ part));
      });
    }

-- what follows them
pub as_it_is_follows : (old new : FedWriter) (part : List ℕ) → old.is_broken ≡ true → new.is_broken ≡ old.is_broken → new.unfinished.octets ≡ old.unfinished.octets → new.entries.refusals ≡ old.entries.refusals → new.entries.written.items ≡ old.entries.written.items ++ part → FollowOn old part new
as_it_is_follows old new part is same left told pushed origin fed given h = record {
  told = h.told;
  in_short = subst (AreInShort h.told) (sym told) h.in_short;
  so_far = by h.so_far;
}
  where
    by : IsSoFar origin (held_of old) fed (given ++ old.entries.written.items) h.told → IsSoFar origin (held_of new) (fed ++ part) (given ++ new.entries.written.items) h.told
    by (going not on) = absurd (both_ways old.is_broken not is)
    by (stopped broken none so) = stopped (same ∙ is) (left ∙ none) (record {
      done = so.done;
      old = so.old;
      rest = so.rest ++ part;
      fault = so.fault;
      are = so.are;
      whole = ap (λ t. t ++ part) so.whole ∙ append_assoc so.done so.rest part;
      breaks = record {
        tokens = so.breaks.tokens;
        breaks = breaks_for_good so.rest part so.breaks.tokens so.fault so.breaks.breaks;
        none = so.breaks.none;
      };
      new_is = ap (λ t. given ++ t) pushed ∙ sym (append_assoc given old.entries.written.items part) ∙ ap (λ t. t ++ part) so.new_is ∙ append_assoc so.old so.rest part;
    })

-- ---- no octets yet

pub new_written : (origin : Labels) (w : FedWriter) → w.is_broken ≡ false → w.unfinished.octets ≡ [] → w.entries.written.items ≡ [] → w.entries.line ≡ 1 → IsInherited origin [] w.entries.inherited → w.entries.refusals.first ≡ None → w.entries.refusals.count ≡ 0 → HasWritten origin w [] []
new_written origin w is none nothing line inherited first count = record {
  told = [];
  in_short = record { first = ap (option_map refused_of) first; count = count };
  so_far = going is (record {
    done = [];
    are = record { tokens = []; cut = no_tokens; ended = refl; outcomes = []; each = tt; new_is = nothing; told_is = refl };
    whole = sym none;
    is_open = subst IsOpen (sym none) nothing_open;
    line = line;
    inherited = inherited;
  });
}

-- ---- a front of octets

take_len : (octets : List ℕ) (n : ℕ) → n ≤ length octets → length (take n octets) ≡ n
take_len octets n within = grind (arith, length-take)

pub taken : (old new : FedWriter) (octets left : List ℕ) (n : ℕ) → n ≤ length octets → 0 < n → left ≡ drop n octets → line_reach new ≤ line_reach old + n → count_reach new ≤ count_reach old + n → FollowOn old (take n octets) new → TakesFront old octets left new
taken old new octets left n within some is lines counts follow =
    let len : length (take n octets) ≡ n = take_len octets n within in
    record {
      part = take n octets;
      whole = sym (ap (λ t. take n octets ++ t) is ∙ take-append-drop n octets);
      some = omega (arith, len, some);
      lines = omega (arith, len, lines);
      counts = omega (arith, len, counts);
      follow = follow;
    }

-- what one entry adds, where its octets are all that waits
pub record AddsEntry (octets : List ℕ) (old new : EntryWriter) : Type 0 where
  pub line : new.line ≤ old.line + length octets
  pub left : IsLeft new.inherited

pub adds : (octets : List ℕ) (old new : EntryWriter) → IsLeft old.inherited → PushesOne octets old new → AddsEntry octets old new
adds octets old new left p =
    let pushed = p.pushes left.origin left.before left.is in
    record {
      line = omega (arith, pushed.line, count_by-le-length (λ c. c == 10) octets, ap line_feeds p.one.cut.whole);
      left = record { origin = left.origin; before = entry_of old.line p.tokens ∷ left.before; is = pushed.inherited };
    }

-- the octets held are one entry
pub held_one : (octets held : List ℕ) (old new : EntryWriter) (state : EntryState) → state ≡ Ended → held ≡ octets → EntryIs held state → PushesOctets held old new → PushesOne octets old new
held_one octets held old new state ended same is pushes =
    let one : (tokens : List Token) × IsOneEntry held tokens = subst (EntryIs held) ended is in
    record {
      tokens = one.0;
      one = subst (λ t. IsOneEntry t one.0) same one.1;
      pushes = λ origin before inherited. pushes origin before one.0 inherited one.1.cut;
    }

-- the first octets are one
pub first_one : (octets entry held : List ℕ) (n : ℕ) (kept : List RawItem) (old new : EntryWriter) → held ≡ [] → entry ≡ take n octets → IsFirstEntry octets n kept → PushesEntry entry kept old new → PushesOne (held ++ take n octets) old new
first_one octets entry held n kept old new none front first pushes = rw (none) (record {
  tokens = first.tokens;
  one = first.one;
  pushes = λ origin before inherited. pushes origin before first.tokens inherited (subst (λ t. Cuts t first.tokens) (sym front) first.one.cut) first.stated;
})

-- ---- octets that were taken

pub record IsTaken (old new : FedWriter) (octets left : List ℕ) : Type 0 where
  pub is : IsFedWriter new
  pub front : TakesFront old octets left new

module _ (old new : FedWriter) (octets left : List ℕ) (found : Taken) (held : HeldEntry) (is : IsFedWriter old) (unbroken : old.is_broken ≡ false) (some : 0 < length octets) (takes : TakesFrom old.unfinished octets found held) (left_is : left ≡ drop found.len octets) where
  held_len : length held.octets ≡ length old.unfinished.octets + found.len
  held_len = ap length takes.octets ∙ length-append old.unfinished.octets (take found.len octets) ∙ ap (λ n. length old.unfinished.octets + n) (take_len octets found.len takes.within)

  -- the entry goes on
  pub open_taken : found.state ≡ Open → new ≡ record { alloc = old.alloc; entries = old.entries; unfinished = held; is_broken = old.is_broken } → IsTaken old new octets left
  open_taken state new_is =
      let now : FedWriter = record { alloc = old.alloc; entries = old.entries; unfinished = held; is_broken = old.is_broken } in
      let waits : IsOpen held.octets = subst (EntryIs held.octets) (takes.state ∙ state) takes.is in
      subst (λ w. IsTaken old w octets left) (sym new_is) (record {
        is = record { state = takes.state ∙ state; is_open = waits; left = is.left; settled = λ broken. absurd (both_ways old.is_broken unbroken broken) };
        front = taken old now octets left found.len takes.within (takes.some is.state some) left_is (omega (arith, held_len)) (omega (arith, held_len)) (open_follows old now (take found.len octets) unbroken refl refl takes.octets waits);
      })

  -- it is ended
  pub ended_taken : found.state ≡ Ended → PushesOctets held.octets old.entries new.entries → new.entries.refusals.count ≤ old.entries.refusals.count + 1 → new.unfinished.octets ≡ [] → new.unfinished.state ≡ Open → new.is_broken ≡ old.is_broken → IsTaken old new octets left
  ended_taken state pushes counts none fresh same =
      let one : PushesOne (old.unfinished.octets ++ take found.len octets) old.entries new.entries = held_one (old.unfinished.octets ++ take found.len octets) held.octets old.entries new.entries held.state (takes.state ∙ state) takes.octets takes.is pushes in
      let added = adds (old.unfinished.octets ++ take found.len octets) old.entries new.entries is.left one in
      let empty : length new.unfinished.octets ≡ 0 = ap length none in
      let moves : 0 < found.len = takes.some is.state some in
      record {
        is = record { state = fresh; is_open = subst IsOpen (sym none) nothing_open; left = added.left; settled = λ broken. none };
        front = taken old new octets left found.len takes.within moves left_is
            (omega (arith, empty, added.line, held_len, ap length takes.octets)) (omega (arith, empty, counts, moves))
            (entry_follows old new (take found.len octets) unbroken same none one);
      }

  -- the octets broke
  pub broken_taken : (fault : Fault) → found.state ≡ Broken fault → new.is_broken ≡ true → new.unfinished.octets ≡ [] → new.unfinished.state ≡ Open → new.entries.inherited ≡ old.entries.inherited → new.entries.line ≡ old.entries.line → new.entries.refusals ≡ old.entries.refusals → new.entries.written.items ≡ old.entries.written.items ++ held.octets → IsTaken old new octets left
  broken_taken fault state broken none fresh inherited line told written =
      let empty : length new.unfinished.octets ≡ 0 = ap length none in
      let breaks : IsBrokenOff held.octets fault = subst (EntryIs held.octets) (takes.state ∙ state) takes.is in
      record {
        is = record { state = fresh; is_open = subst IsOpen (sym none) nothing_open; left = subst IsLeft (sym inherited) is.left; settled = λ broken. none };
        front = taken old new octets left found.len takes.within (takes.some is.state some) left_is
            (omega (arith, empty, line)) (omega (arith, empty, ap (λ (r : Refusals). r.count) told))
            (broken_follows old new (take found.len octets) fault unbroken broken none told (written ∙ ap (λ t. old.entries.written.items ++ t) takes.octets) (subst (λ t. IsBrokenOff t fault) takes.octets breaks));
      }

drop_inside : (n : ℕ) (a b : List ℕ) → n ≤ length a → drop n (a ++ b) ≡ drop n a ++ b
drop_inside n a b within = grind (arith, common_steps)

-- fewer octets were offered than there are
pub some_taken : (old new : FedWriter) (octets some after left : List ℕ) (n : ℕ) → octets ≡ some ++ after → n ≤ length some → left ≡ drop n octets → IsTaken old new some (drop n some) → IsTaken old new octets left
some_taken old new octets some after left n parts within is t = record {
  is = t.is;
  front = record {
    part = t.front.part;
    some = t.front.some;
    lines = t.front.lines;
    counts = t.front.counts;
    follow = t.front.follow;
    whole = parts ∙ ap (λ x. x ++ after) t.front.whole ∙ append_assoc t.front.part (drop n some) after ∙ ap (λ x. t.front.part ++ x) (sym (is ∙ ap (drop n) parts ∙ drop_inside n some after within));
  };
}

-- the entry at the front is whole
pub whole_taken : (old new : FedWriter) (octets entry left : List ℕ) (n : ℕ) (kept : List RawItem) → IsFedWriter old → old.is_broken ≡ false → old.unfinished.octets ≡ [] → new.unfinished ≡ old.unfinished → new.is_broken ≡ old.is_broken → entry ≡ take n octets → left ≡ drop n octets → IsFirstEntry octets n kept → PushesEntry entry kept old.entries new.entries → new.entries.refusals.count ≤ old.entries.refusals.count + 1 → IsTaken old new octets left
whole_taken old new octets entry left n kept is unbroken none same broken front left_is first pushes counts =
    let one : PushesOne (old.unfinished.octets ++ take n octets) old.entries new.entries = first_one octets entry old.unfinished.octets n kept old.entries new.entries none front first pushes in
    let added = adds (old.unfinished.octets ++ take n octets) old.entries new.entries is.left one in
    let octets_same : new.unfinished.octets ≡ old.unfinished.octets = ap (λ (h : HeldEntry). h.octets) same in
    let len : length (old.unfinished.octets ++ take n octets) ≡ length old.unfinished.octets + n = length-append old.unfinished.octets (take n octets) ∙ ap (λ k. length old.unfinished.octets + k) (take_len octets n first.within) in
    let empty : length old.unfinished.octets ≡ 0 = ap length none in
    let still : length new.unfinished.octets ≡ 0 = ap length (octets_same ∙ none) in
    record {
      is = record { state = ap (λ (h : HeldEntry). h.state) same ∙ is.state; is_open = subst IsOpen (sym octets_same) is.is_open; left = added.left; settled = λ broken. octets_same ∙ none };
      front = taken old new octets left n first.within first.some left_is
          (omega (arith, still, empty, added.line, len)) (omega (arith, still, empty, counts, first.some))
          (entry_follows old new (take n octets) unbroken broken (octets_same ∙ none) one);
    }

pub on_err : {T E P : Type 0} (result : Result T E) → P → OnErr result P
on_err (Ok x) p = tt
on_err (Err e) p = p

-- ---- a piece

-- so far the beginning of the piece was taken
pub record HasFed (old now : FedWriter) (piece rest : List ℕ) : Type 0 where
  pub front : List ℕ
  pub whole : piece ≡ front ++ rest
  pub follow : FollowOn old front now

pub fed_on : (old now new : FedWriter) (piece rest left : List ℕ) → HasFed old now piece rest → TakesFront now rest left new → HasFed old new piece left
fed_on old now new piece rest left has front = record {
  front = has.front ++ front.part;
  whole = has.whole ∙ ap (λ t. has.front ++ t) front.whole ∙ sym (append_assoc has.front front.part left);
  follow = λ origin fed given h. subst (λ t. HasWritten origin new t given) (append_assoc fed has.front front.part) (front.follow origin (fed ++ has.front) given (has.follow origin fed given h));
}

all_fed : (old now new : FedWriter) (piece rest : List ℕ) → HasFed old now piece rest → FollowOn now rest new → FollowOn old piece new
all_fed old now new piece rest has more origin fed given h =
    subst (λ t. HasWritten origin new t given) (append_assoc fed has.front rest ∙ ap (λ t. fed ++ t) (sym has.whole)) (more origin (fed ++ has.front) given (has.follow origin fed given h))

-- no octets more
nothing_follows : (old new : FedWriter) → new.is_broken ≡ old.is_broken → new.unfinished.octets ≡ old.unfinished.octets → new.entries.line ≡ old.entries.line → new.entries.inherited ≡ old.entries.inherited → new.entries.refusals ≡ old.entries.refusals → new.entries.written.items ≡ old.entries.written.items → FollowOn old [] new
nothing_follows old new same left line inherited told written origin fed given h = record {
  told = h.told;
  in_short = subst (AreInShort h.told) (sym told) h.in_short;
  so_far = subst (λ t. IsSoFar origin (held_of new) (fed ++ []) (given ++ t) h.told) (sym written)
      (subst (λ t. IsSoFar origin (held_of new) t (given ++ old.entries.written.items) h.told) (sym (append-nil fed)) (by h.so_far));
}
  where
    by : IsSoFar origin (held_of old) fed (given ++ old.entries.written.items) h.told → IsSoFar origin (held_of new) fed (given ++ old.entries.written.items) h.told
    by (going unbroken on) = going (same ∙ unbroken) (record {
      done = on.done;
      are = on.are;
      whole = on.whole ∙ ap (λ t. on.done ++ t) (sym left);
      is_open = subst IsOpen (sym left) on.is_open;
      line = line ∙ on.line;
      inherited = subst (IsInherited origin (reverse (ended_entries on.are.tokens))) (sym inherited) on.inherited;
    })
    by (stopped broken none so) = stopped (same ∙ broken) (left ∙ none) so

pub rest_follows : (old now new : FedWriter) (piece rest : List ℕ) → HasFed old now piece rest → (rest ≡ []) ⊎ (now.is_broken ≡ true) → new.is_broken ≡ now.is_broken → new.unfinished.octets ≡ now.unfinished.octets → new.entries.line ≡ now.entries.line → new.entries.inherited ≡ now.entries.inherited → new.entries.refusals ≡ now.entries.refusals → new.entries.written.items ≡ now.entries.written.items ++ rest → FollowOn old piece new
rest_follows old now new piece rest has (inl none) same left line inherited told pushed =
    all_fed old now new piece rest has (subst (λ t. FollowOn now t new) (sym none) (nothing_follows now new same left line inherited told (pushed ∙ ap (λ t. now.entries.written.items ++ t) none ∙ append-nil now.entries.written.items)))
rest_follows old now new piece rest has (inr broken) same left line inherited told pushed = all_fed old now new piece rest has (as_it_is_follows now new rest broken same left told pushed)

-- what memory was refused to
pub in_part : (origin : Labels) (old new : FedWriter) (fed given more : List ℕ) → new.entries.refusals ≡ old.entries.refusals → new.entries.written.items ≡ old.entries.written.items → HasWritten origin old fed given → HasWrittenInPart origin new (fed ++ more) given
in_part origin old new fed given more told written h = record {
  told = h.told;
  in_short = subst (AreInShort h.told) (sym told) h.in_short;
  part = subst (λ t. IsRewrittenInPart (BecomesUnder origin) (fed ++ more) (given ++ t) h.told) (sym written) (record { front = fed; back = more; whole = refl; waiting = old.unfinished.octets; so_far = by h.so_far });
}
  where
    by : IsSoFar origin (held_of old) fed (given ++ old.entries.written.items) h.told → IsRewrittenSoFar (BecomesUnder origin) fed old.unfinished.octets (given ++ old.entries.written.items) h.told
    by (going same on) = rewriting.going on.done on.are on.whole on.is_open
    by (stopped broken none so) = rewriting.stopped so none

pub fed_in_part : (old now new : FedWriter) (piece rest : List ℕ) → HasFed old now piece rest → new.entries.refusals ≡ now.entries.refusals → new.entries.written.items ≡ now.entries.written.items → FollowInPart old piece new
fed_in_part old now new piece rest has told written origin fed given h =
    subst (λ t. HasWrittenInPart origin new t given) (append_assoc fed has.front rest ∙ ap (λ t. fed ++ t) (sym has.whole)) (in_part origin now new (fed ++ has.front) given rest told written (has.follow origin fed given h))

-- ---- the end

pub end_broken : (w : FedWriter) → w.is_broken ≡ true → WritesAll w w
end_broken w is origin fed given h =
    let so = stopped_only origin (held_of w) fed (given ++ w.entries.written.items) h.told is h.so_far in
    let has = from_entries (BecomesUnder origin) so.done so.rest so.old h.told so.are in
    record {
      told = h.told;
      in_short = h.in_short;
      all = subst (λ t. IsRewriting origin t (given ++ w.entries.written.items) h.told) (sym so.whole)
          (broken_last (BecomesUnder origin) (so.done ++ so.rest) so.rest so.old (given ++ w.entries.written.items) h.told so.fault has so.breaks.tokens so.breaks.breaks.breaks so.breaks.none so.new_is);
    }

pub end_none : (w : FedWriter) → w.is_broken ≡ false → w.unfinished.octets ≡ [] → WritesAll w w
end_none w is none origin fed given h =
    let g = goes_of origin w fed given is h in
    record {
      told = h.told;
      in_short = h.in_short;
      all = whole_done (BecomesUnder origin) fed w.unfinished.octets (given ++ w.entries.written.items) h.told g.has none;
    }

pub end_last : (old new : FedWriter) (fault : Option Fault) → old.is_broken ≡ false → (old.unfinished.octets ≡ [] → ⊥) → EndIs old.unfinished.octets fault → fault ≡ None → PushesOctets old.unfinished.octets old.entries new.entries → WritesAll old new
end_last old new fault is some ends none pushes origin fed given h =
    let g = goes_of origin old fed given is h in
    let last : (tokens : List Token) × Cuts old.unfinished.octets tokens × ((cut_from zero tokens).ended ≡ []) = subst (EndIs old.unfinished.octets) none ends in
    let pushed = pushes origin (reverse (numbered 1 g.has.ended)) last.0 g.inherited last.1 in
    record {
      told = h.told ++ pushed.outcome.told;
      in_short = in_short_more h.told pushed.outcome.told old.entries.refusals new.entries.refusals h.in_short pushed.told;
      all = whole_last (BecomesUnder origin) fed old.unfinished.octets (given ++ old.entries.written.items) (given ++ new.entries.written.items) h.told (h.told ++ pushed.outcome.told) g.has some last.0 last.1 last.2 (next_of origin g.has.ended old.entries new.entries last.0 given h.told g.line pushed);
    }

pub end_breaks : (old new : FedWriter) (found : Option Fault) (fault : Fault) → old.is_broken ≡ false → EndIs old.unfinished.octets found → found ≡ Some fault → new.entries.refusals ≡ old.entries.refusals → new.entries.written.items ≡ old.entries.written.items ++ old.unfinished.octets → WritesAll old new
end_breaks old new found fault is ends some told pushed origin fed given h =
    let g = goes_of origin old fed given is h in
    let last : (tokens : List Token) × Breaks old.unfinished.octets tokens fault × ((cut_from zero tokens).ended ≡ []) = subst (EndIs old.unfinished.octets) some ends in
    record {
      told = h.told;
      in_short = subst (AreInShort h.told) (sym told) h.in_short;
      all = broken_last (BecomesUnder origin) fed old.unfinished.octets (given ++ old.entries.written.items) (given ++ new.entries.written.items) h.told fault g.has last.0 last.1 last.2 (ap (λ t. given ++ t) pushed ∙ sym (append_assoc given old.entries.written.items old.unfinished.octets));
    }

-- one entry is the whole file
pub entry_alone : (origin : Labels) (begun new : FedWriter) (entry : List ℕ) (kept : List RawItem) → IsFedWriter begun → begun.is_broken ≡ false → begun.unfinished.octets ≡ [] → HasWritten origin begun [] [] → new.unfinished ≡ begun.unfinished → new.is_broken ≡ begun.is_broken → IsFirstEntry entry (length entry) kept → PushesEntry entry kept begun.entries new.entries → new.entries.refusals.count ≤ begun.entries.refusals.count + 1 → HasWrittenAll origin new entry []
entry_alone origin begun new entry kept is unbroken none h same broken first pushes counts =
    let front = (whole_taken begun new entry entry [] (length entry) kept is unbroken none same broken (sym (take-length entry)) (sym (drop_all (length entry) entry (omega arith))) first pushes counts).front in
    let whole : [] ++ front.part ≡ entry = sym (front.whole ∙ append-nil front.part) in
    end_none new (broken ∙ unbroken) (ap (λ (o : HeldEntry). o.octets) same ∙ none) origin entry [] (subst (λ t. HasWritten origin new t []) whole (front.follow origin [] [] h))

pub refused_in_part : (old new : FedWriter) → new.entries.refusals ≡ old.entries.refusals → new.entries.written.items ≡ old.entries.written.items → FollowInPart old [] new
refused_in_part old new told written origin fed given h = in_part origin old new fed given [] told written h
