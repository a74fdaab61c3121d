-- What is decided of octets by what those before them left, and what follows from octets fed and
-- records given, part by part.
use Rattle.zone_text.proofs.Common.{AreTokens, Breaks, Cuts, EndedEntries, Ending, Entry, Fault, FileDecides, FileLeaves, FileReads, Follow, IsBrokenOff, IsOneEntry, IsOpen, IsSplitter, IsStateAfter, Labels, Line, List, None, Option, Place, Placed, ReadEach, ReadsEntry, ReadsOctets, Some, Token, [], and_last, ap, append-nil, append_assoc, arith, broken, common_steps, cut_from, decided, ended_entries, entries_of, entry_of, flat_map, flat_map_more, inl, inr, numbered, open_line, refl, reverse, reverse-append, subst, sym, text, undecided, whole, zero, ℕ, ◌++◌, ◌+◌, ◌∙◌, ◌∷◌, ◌≡◌}
use Rattle.zone_text.proofs.Tokens.CutAgain.{joined, AreEnded, again_zero, cut_whole}
use Rattle.zone_text.proofs.Files.Left.{line_feeds, numbered_then, IsSplit, split, whole_after, cut_more, tokens_more, ended_as_before, one_ended, reads_then, refused_before, reads_after, break_more, for_good_more, none_cut, none_more, ended_entries_first}
use Rattle.zone_text.specs.OpenEntry.{EndIs, HeldEntry}
use Rattle.zone_text.proofs.Tokens.Cuttings.{cut_or_broken}
use Rattle.zone_text.proofs.Tokens.Lasting.{breaks_for_good}
use Rattle.zone_text.proofs.Files.Decides.{tokens_of, goes_on, ended_on, read_states}
use Rattle.zone_text.proofs.Tokens.ForGood.{break_stays_or_ends, ends_not_for_good}

-- what is read of ended entries, the first of them on line 1
abbrev pub ReadsEnded : List (List ℕ) → Ending → List (List Token) → List Placed → Ending → Type 0
ReadsEnded origin after ended placed ending = ReadEach origin after [] (numbered 1 ended) placed ending

-- the line after ended entries
abbrev pub line_after : List (List Token) → ℕ
line_after ended = 1 + line_feeds (flat_map text ended)

-- ---- a fault that is decided stays

refused_longer : (origin : List (List ℕ)) (octets : List ℕ) (tokens : List Token) (entries others : List Entry) (placed : List Placed) (found : Fault × Place) → AreTokens octets tokens → ended_entries tokens ≡ entries ++ others → ReadEach origin None [] entries placed (Some found) → FileDecides origin octets placed (Some found)
refused_longer origin octets tokens entries others placed found (inl cut) e read =
    undecided tokens (inl cut) (none_cut octets tokens cut) (subst (λ t. ReadEach origin None [] t placed (Some found)) (sym e) (refused_before origin None [] entries others placed found read))
refused_longer origin octets tokens entries others placed found (inr breaks) e read =
    elim (break_stays_or_ends octets tokens breaks.0 breaks.1) [
      | inl stays ↦ decided tokens breaks.0 (record { breaks = breaks.1; stays = stays }) (subst (λ t. ReadEach origin (Some (breaks.0, Line (open_line tokens))) [] t placed (Some found)) (sym e) (refused_before origin (Some (breaks.0, Line (open_line tokens))) [] entries others placed found read))
      | inr ends ↦ undecided tokens (inr breaks) (ends_not_for_good octets tokens breaks.1.rest breaks.1.whole ends) (subst (λ t. ReadEach origin None [] t placed (Some found)) (sym e) (refused_before origin None [] entries others placed found read))
    ]

pub fault_stays : (origin : List (List ℕ)) (fed more : List ℕ) (placed : List Placed) (found : Fault × Place) → FileDecides origin fed placed (Some found) → FileDecides origin (fed ++ more) placed (Some found)
fault_stays origin fed more placed found (undecided tokens are none read) =
    let all : (tokens : List Token) × AreTokens (fed ++ more) tokens = grind (arith, cut_or_broken (fed ++ more)) in
    let on = ended_on tokens all.0 (goes_on fed more tokens all.0 are all.1) in
    refused_longer origin (fed ++ more) all.0 (ended_entries tokens) on.0 placed found all.1 on.1 read
fault_stays origin fed more placed found (decided tokens fault good read) = decided tokens fault (breaks_for_good fed more tokens fault good) read

-- the same of a file that ends there
pub fault_is_read : (origin : List (List ℕ)) (octets : List ℕ) (placed : List Placed) (found : Fault × Place) → FileDecides origin octets placed (Some found) → FileReads origin octets placed (Some found)
fault_is_read origin octets placed found (decided tokens fault good read) = broken tokens fault good.breaks read
fault_is_read origin octets placed found (undecided tokens (inr breaks) none read) =
    broken tokens breaks.0 breaks.1 (subst (λ t. ReadEach origin (Some (breaks.0, Line (open_line tokens))) [] t placed (Some found)) (append-nil (ended_entries tokens)) (refused_before origin (Some (breaks.0, Line (open_line tokens))) [] (ended_entries tokens) [] placed found read))
fault_is_read origin octets placed found (undecided tokens (inl cut) none read) =
    let on = ended_entries_first tokens in
    whole tokens cut (subst (λ t. ReadEach origin None [] t placed (Some found)) (sym on.1) (refused_before origin None [] (ended_entries tokens) on.0 placed found read))

-- ---- what is left of the octets fed so far, entry by entry

-- the ended entries, the octets after them, what they leave, and the records that they state
pub record IsRead (origin : Labels) (ended : List (List Token)) (entries : EndedEntries) (unfinished fed : List ℕ) (given : List Placed) : Type 0 where
  pub parts : IsSplit fed ended unfinished
  pub state : IsStateAfter origin (reverse (numbered 1 ended)) entries.state
  pub line : entries.line ≡ line_after ended
  pub read : ReadsEnded origin None ended (given ++ entries.decided.placed) None

-- where no fault is decided, the entries that were ended state the records
reads_so_far : (origin : List (List ℕ)) (fed : List ℕ) (tokens : List Token) (placed : List Placed) → FileDecides origin fed placed None → AreTokens fed tokens → ReadsEnded origin None (cut_from zero tokens).ended placed None
reads_so_far origin fed tokens placed (undecided others are none read) is = grind (arith, tokens_of fed others tokens are is)
reads_so_far origin fed tokens placed (decided others fault good read) is = absurd (let none = (read_states origin _ [] (ended_entries others) placed None refl read).1 in cc)

pub is_read : (origin : Labels) (entries : EndedEntries) (unfinished fed : List ℕ) (given : List Placed) → entries.decided.ending ≡ None → Follow origin entries unfinished fed given → (ended : List (List Token)) × IsRead origin ended entries unfinished fed given
is_read origin entries unfinished fed given none follow =
    let leave : FileLeaves origin fed entries.state entries.line unfinished = follow.leave none in (
      (cut_from zero leave.octets.tokens).ended,
      record {
        parts = split fed leave.octets.tokens unfinished leave.octets.are leave.octets.whole;
        state = leave.inherited;
        line = leave.numbered;
        read = reads_so_far origin fed leave.octets.tokens (given ++ entries.decided.placed) (rw none at follow.decided) leave.octets.are;
      },
    )

-- one entry more is read
read_more : (origin : Labels) (ended : List (List Token)) (old new : EndedEntries) (unfinished fed : List ℕ) (given : List Placed) (tokens : List Token) → IsRead origin ended old unfinished fed given → ReadsEntry origin (reverse (numbered 1 ended)) tokens old new → ReadsEnded origin None (ended ++ tokens ∷ []) (given ++ new.decided.placed) new.decided.ending
read_more origin ended old new unfinished fed given tokens is read =
    let all = reads_then origin None [] (numbered 1 ended) (entry_of (line_after ended) tokens ∷ []) (given ++ old.decided.placed) read.others new.decided.ending is.read (rw (append-nil, ← is.line) read.read) in
    rw (numbered_then, read.records, ← append_assoc) all

-- no entry more is ended, and the octets break
break_read : (origin : Labels) (ended : List (List Token)) (old : EndedEntries) (unfinished fed : List ℕ) (given : List Placed) (tokens : List Token) (fault : Fault) → IsRead origin ended old unfinished fed given → (cut_from zero tokens).ended ≡ [] → ReadEach origin (Some (fault, Line (open_line (joined ended ++ tokens)))) [] (ended_entries (joined ended ++ tokens)) (given ++ old.decided.placed) (Some (fault, Line old.line))
break_read origin ended old unfinished fed given tokens fault is none =
    rw (ended_as_before ended tokens is.parts.stays none, is.line) (reads_after origin (Some (fault, Line (line_after ended))) [] (numbered 1 ended) (given ++ old.decided.placed) is.read)

-- ---- the octets of the unfinished entry and others after them

-- the octets lead on
pub follow_on : (origin : Labels) (entries : EndedEntries) (unfinished part fed : List ℕ) (given : List Placed) → IsOpen (unfinished ++ part) → entries.decided.ending ≡ None → Follow origin entries unfinished fed given → Follow origin entries (unfinished ++ part) (fed ++ part) given
follow_on origin entries unfinished part fed given is_open none follow =
    let found = is_read origin entries unfinished fed given none follow in
    let same : (cut_from zero (joined found.0 ++ is_open.tokens)).ended ≡ found.0 = ended_as_before found.0 is_open.tokens found.1.parts.stays is_open.none in
    record {
      decided = rw none (undecided (joined found.0 ++ is_open.tokens) (tokens_more fed part found.0 unfinished is_open.tokens found.1.parts is_open.are) (none_more fed part found.0 unfinished is_open.tokens found.1.parts is_open.are is_open.goes_on) (rw same (found.1.read)));
      leave = λ _. record {
        octets = record {
          tokens = joined found.0 ++ is_open.tokens;
          are = tokens_more fed part found.0 unfinished is_open.tokens found.1.parts is_open.are;
          whole = whole_after fed part found.0 unfinished found.1.parts ∙ ap (λ t. flat_map text t ++ (unfinished ++ part)) (sym same);
        };
        inherited = subst (λ t. IsStateAfter origin (reverse (numbered 1 t)) entries.state) (sym same) found.1.state;
        numbered = found.1.line ∙ ap line_after (sym same);
      };
    }

-- ---- an entry is ended

-- what is left once an entry is ended that isn't refused
left_over : (origin : Labels) (ended : List (List Token)) (old new : EndedEntries) (unfinished part fed : List ℕ) (given : List Placed) (tokens : List Token) → IsRead origin ended old unfinished fed given → IsOneEntry (unfinished ++ part) tokens → ReadsEntry origin (reverse (numbered 1 ended)) tokens old new → new.decided.ending ≡ None → FileLeaves origin (fed ++ part) new.state new.line []
left_over origin ended old new unfinished part fed given tokens is one read none =
    let all : (cut_from zero (joined ended ++ tokens)).ended ≡ ended ++ tokens ∷ [] = one_ended ended tokens is.parts.stays one.ended in
    let octets : fed ++ part ≡ flat_map text (ended ++ tokens ∷ []) ++ [] = grind (arith, common_steps, joined, one_ended, whole_after, flat_map_more, append-nil, cut_more, numbered_then) in
    let lines : line_after (ended ++ tokens ∷ []) ≡ line_after ended + line_feeds (text tokens) = grind (arith, common_steps) in
    record {
      octets = record {
        tokens = joined ended ++ tokens;
        are = inl (cut_more fed part ended unfinished tokens is.parts one.cut);
        whole = octets ∙ ap (λ t. flat_map text t ++ []) (sym all);
      };
      inherited = subst (λ (t : List Entry). IsStateAfter origin t new.state) (ap (λ n. entry_of n tokens ∷ reverse (numbered 1 ended)) is.line ∙ sym (ap reverse (numbered_then 1 ended (tokens ∷ [])) ∙ (reverse-append (numbered 1 ended) ((entry_of (line_after ended) tokens) ∷ []))) ∙ ap (λ t. reverse (numbered 1 t)) (sym all)) (read.state none);
      numbered = read.line none ∙ ap (λ n. n + line_feeds (text tokens)) is.line ∙ sym lines ∙ ap line_after (sym all);
    }

pub follow_one : (origin : Labels) (old new : EndedEntries) (unfinished part fed : List ℕ) (given : List Placed) (tokens : List Token) → IsOneEntry (unfinished ++ part) tokens → old.decided.ending ≡ None → ReadsOctets (unfinished ++ part) old new → Follow origin old unfinished fed given → Follow origin new [] (fed ++ part) given
follow_one origin old new unfinished part fed given tokens one none reads follow =
    let found = is_read origin old unfinished fed given none follow in
    let read = reads.reads origin (reverse (numbered 1 found.0)) tokens found.1.state one.cut in
    let cuts = cut_more fed part found.0 unfinished tokens found.1.parts one.cut in
    record {
      decided = undecided (joined found.0 ++ tokens) (inl cuts) (none_cut (fed ++ part) (joined found.0 ++ tokens) cuts) (rw (one_ended found.0 tokens found.1.parts.stays one.ended) (read_more origin found.0 old new unfinished fed given tokens found.1 read));
      leave = left_over origin found.0 old new unfinished part fed given tokens found.1 one read;
    }

-- ---- the octets break for good

pub follow_break : (origin : Labels) (old new : EndedEntries) (fault : Fault) (unfinished part fed : List ℕ) (given : List Placed) → IsBrokenOff (unfinished ++ part) fault → old.decided.ending ≡ None → new.decided.placed ≡ old.decided.placed → new.decided.ending ≡ Some (fault, Line old.line) → Follow origin old unfinished fed given → Follow origin new [] (fed ++ part) given
follow_break origin old new fault unfinished part fed given off none records ending follow =
    let found = is_read origin old unfinished fed given none follow in
    record {
      decided = rw (records, ending) (decided (joined found.0 ++ off.tokens) fault (for_good_more fed part found.0 unfinished off.tokens fault found.1.parts off.breaks) (break_read origin found.0 old unfinished fed given off.tokens fault found.1 off.none));
      leave = λ none. absurd cc;
    }

-- ---- a fault is decided

pub follow_fault : (origin : Labels) (entries : EndedEntries) (found : Fault × Place) (unfinished part fed : List ℕ) (given : List Placed) → entries.decided.ending ≡ Some found → Follow origin entries unfinished fed given → Follow origin entries unfinished (fed ++ part) given
follow_fault origin entries found unfinished part fed given ending follow = record {
  decided = subst (λ e. FileDecides origin (fed ++ part) (given ++ entries.decided.placed) e) (sym ending) (fault_stays origin fed part (given ++ entries.decided.placed) found (subst (λ e. FileDecides origin fed (given ++ entries.decided.placed) e) ending follow.decided));
  leave = λ none. absurd cc;
}

-- ---- the end of the file

-- what is read of the file
abbrev pub Reads : Labels → List ℕ → List Placed → EndedEntries → Type 0
Reads origin fed given entries = FileReads origin fed (given ++ entries.decided.placed) entries.decided.ending

pub end_of_fault : (origin : Labels) (entries : EndedEntries) (found : Fault × Place) (unfinished fed : List ℕ) (given : List Placed) → entries.decided.ending ≡ Some found → Follow origin entries unfinished fed given → Reads origin fed given entries
end_of_fault origin entries found unfinished fed given ending follow =
    subst (λ e. FileReads origin fed (given ++ entries.decided.placed) e) (sym ending) (fault_is_read origin fed (given ++ entries.decided.placed) found (subst (λ e. FileDecides origin fed (given ++ entries.decided.placed) e) ending follow.decided))

entries_are : (ended : List (List Token)) (tokens : List Token) → AreEnded zero ended → (cut_from zero tokens).ended ≡ [] → entries_of (joined ended ++ tokens) ≡ numbered 1 (and_last ended tokens)
entries_are ended tokens are none = cc (again_zero ended tokens are, append-nil ended, cut_whole zero tokens)

all_tokens : (fed : List ℕ) (ended : List (List Token)) (unfinished : List ℕ) (tokens : List Token) → IsSplit fed ended unfinished → Cuts unfinished tokens → Cuts fed (joined ended ++ tokens)
all_tokens fed ended unfinished tokens is cut =
    subst (λ t. Cuts t (joined ended ++ tokens)) (append-nil fed) (cut_more fed [] ended unfinished tokens is (subst (λ t. Cuts t tokens) (sym (append-nil unfinished)) cut))

-- no octets are unfinished
pub end_of_lines : (origin : Labels) (entries : EndedEntries) (unfinished fed : List ℕ) (given : List Placed) → unfinished ≡ [] → entries.decided.ending ≡ None → Follow origin entries unfinished fed given → Reads origin fed given entries
end_of_lines origin entries unfinished fed given empty none follow =
    let found = is_read origin entries unfinished fed given none follow in
    rw none (whole (joined found.0 ++ []) (all_tokens fed found.0 unfinished [] found.1.parts (record { whole = empty; each = tt; follow = tt; balanced = refl })) (rw (entries_are found.0 [] found.1.parts.stays refl) (found.1.read)))

-- none are, whatever is decided
pub end_of_all : (origin : Labels) (entries : EndedEntries) (unfinished fed : List ℕ) (given : List Placed) → unfinished ≡ [] → (ending : Option (Fault × Place)) → entries.decided.ending ≡ ending → Follow origin entries unfinished fed given → Reads origin fed given entries
end_of_all origin entries unfinished fed given empty None is follow = end_of_lines origin entries unfinished fed given empty is follow
end_of_all origin entries unfinished fed given empty (Some found) is follow = end_of_fault origin entries found unfinished fed given is follow

-- where some are, no fault is decided
pub undecided_with : (entries : EndedEntries) (held : HeldEntry) → IsSplitter entries held → (held.octets ≡ [] → ⊥) → (ending : Option (Fault × Place)) → entries.decided.ending ≡ ending → entries.decided.ending ≡ None
undecided_with entries held is some None e = e
undecided_with entries held is some (Some found) e = absurd (some (is.dropped found e))

-- they break
pub end_of_break : (origin : Labels) (old new : EndedEntries) (fault : Fault) (unfinished fed : List ℕ) (given : List Placed) → EndIs unfinished (Some fault) → old.decided.ending ≡ None → new.decided.placed ≡ old.decided.placed → new.decided.ending ≡ Some (fault, Line old.line) → Follow origin old unfinished fed given → Reads origin fed given new
end_of_break origin old new fault unfinished fed given breaks none records ending follow =
    let found = is_read origin old unfinished fed given none follow in
    rw (records, ending) (broken (joined found.0 ++ breaks.0) fault (subst (λ t. Breaks t (joined found.0 ++ breaks.0) fault) (append-nil fed) (break_more fed [] found.0 unfinished breaks.0 fault found.1.parts (rw (append-nil) breaks.1))) (break_read origin found.0 old unfinished fed given breaks.0 fault found.1 breaks.2))

-- they are the last entry
last_read : (origin : Labels) (ended : List (List Token)) (old new : EndedEntries) (unfinished fed : List ℕ) (given : List Placed) (tokens : List Token) → (unfinished ≡ [] → ⊥) → IsRead origin ended old unfinished fed given → Cuts unfinished tokens → (cut_from zero tokens).ended ≡ [] → ReadsEntry origin (reverse (numbered 1 ended)) tokens old new → Reads origin fed given new
last_read origin ended old new unfinished fed given [] some is cut alone read = absurd (some cut.whole)
last_read origin ended old new unfinished fed given (p ∷ tokens) some is cut alone read =
    whole (joined ended ++ p ∷ tokens) (all_tokens fed ended unfinished (p ∷ tokens) is.parts cut) (rw (entries_are ended (p ∷ tokens) is.parts.stays alone) (read_more origin ended old new unfinished fed given (p ∷ tokens) is read))

pub end_of_some : (origin : Labels) (old new : EndedEntries) (unfinished fed : List ℕ) (given : List Placed) → EndIs unfinished None → (unfinished ≡ [] → ⊥) → old.decided.ending ≡ None → ReadsOctets unfinished old new → Follow origin old unfinished fed given → Reads origin fed given new
end_of_some origin old new unfinished fed given cut some none reads follow =
    let found = is_read origin old unfinished fed given none follow in
    last_read origin found.0 old new unfinished fed given cut.0 some found.1 cut.1 cut.2 (reads.reads origin (reverse (numbered 1 found.0)) cut.0 found.1.state cut.1)
