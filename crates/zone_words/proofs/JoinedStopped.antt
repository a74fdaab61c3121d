-- Whole entries and a directive that nobody knows state no records.
use Rattle.zone_words.proofs.Common.{AllByRecursion, AreEntries, BecomesUnder, Breaks, Cut, Cuts, EachBecomes, Entry, Fault, Labels, List, None, Refused, Some, Token, [], and_last, ap, append-nil, append_assoc, arith, codes, count_by, cut_from, cut_not_broken, entry_of, flat_map, flat_map-append, line_feed, numbered, one_cut, refl, statement_of, subst, sym, text, unknown, zero, ℕ, ◌++◌, ◌+◌, ◌==◌, ◌∙◌, ◌∷◌, ◌≡◌}
use Rattle.std.specs.Prelude.{Bool, false, true, if◌then◌else◌, IsSome}
use Rattle.zone_rdata.specs.declared.record.Placed.{Placed}
use Rattle.zone_text.proofs.Files.Decides.{file_reads_state}
use Rattle.zone_text.proofs.Tokens.CutAgain.{joined}
use Rattle.zone_text.proofs.Tokens.Lasting.{breaks_for_good}
use Rattle.zone_text.specs.Entries.{entries_of}
use Rattle.zone_text.specs.File as file
use Rattle.zone_text.specs.File.{EntriesState, FileStates, StatesFirst}
use Rattle.zone_text.specs.FileReads.{Ending, FileReads}
use Rattle.zone_text.specs.FirstEntry.{IsBrokenOff}
use Rattle.zone_words.proofs.CutEntries.{IsWholeEntry, broken_together, whole_parted, whole_together}
use Rattle.zone_words.proofs.RewrittenCut.{cut_whole_text}
use Rattle.zone_words.specs.Rewriting.{IsRewrittenSoFar, going, stopped}
use Rattle.zone_words.specs.Stopped.{ends_inside, stopped_line}
use Rattle.zone_words.specs.Written.{word}

abbrev stop : List Token
stop = word (codes "$STOPPED") ∷ line_feed ∷ []

abbrev stop_text : List ℕ
stop_text = codes "$STOPPED" ++ 10 ∷ []

stop_whole : IsWholeEntry stop
stop_whole = record {
  cut = record { whole = refl; each = (grind arith, (tt, tt)); follow = (tt, tt); balanced = refl };
  ended = refl;
}

-- an entry of a line feed alone
abbrev blank : List Token
blank = line_feed ∷ []

blank_whole : IsWholeEntry blank
blank_whole = record {
  cut = record { whole = refl; each = (tt, tt); follow = tt; balanced = refl };
  ended = refl;
}

stop_unknown : (line : ℕ) → statement_of (entry_of line stop) ≡ unknown
stop_unknown line = refl

-- ---- entries with that one after them

not_stop : (origin : Labels) (after : List Entry) (line : ℕ) (Others : List Placed → Type 0) (placed : List Placed) → StatesFirst origin after (entry_of line stop) Others placed → ⊥
not_stop origin after line Others placed (file.states_none nothing rest) = nothing
not_stop origin after line Others placed (file.states_one p others states place are rest) = absurd (let bad : None ≡ Some states.contents.head.parts = states.contents.head.split in cc bad)

none_with_stop : (origin : Labels) (after : List Entry) (line : ℕ) (ended : List (List Token)) (placed : List Placed) → EntriesState origin after (numbered line (ended ++ stop ∷ [])) placed → ⊥
none_with_stop origin after line [] placed states = not_stop origin after line _ placed states
none_with_stop origin after line (entry ∷ ended) placed (file.states_none nothing rest) = none_with_stop origin (entry_of line entry ∷ after) (line + count_by (λ c. c == 10) (text entry)) ended placed rest
none_with_stop origin after line (entry ∷ ended) placed (file.states_one p others states place are rest) = none_with_stop origin (entry_of line entry ∷ after) (line + count_by (λ c. c == 10) (text entry)) ended others rest

-- octets that are whole entries
record AreWhole (octets : List ℕ) : Type 0 where
  ended : List (List Token)
  each : AllByRecursion IsWholeEntry ended
  whole : octets ≡ flat_map text ended

each_and : (last : List Token) → IsWholeEntry last → (ended : List (List Token)) → AllByRecursion IsWholeEntry ended → AllByRecursion IsWholeEntry (ended ++ last ∷ [])
each_and last is [] each = (is, tt)
each_and last is (entry ∷ ended) each = (each.0, each_and last is ended each.1)

with_blank : (octets : List ℕ) → AreWhole octets → AreWhole (octets ++ 10 ∷ [])
with_blank octets are = record {
  ended = are.ended ++ blank ∷ [];
  each = each_and blank blank_whole are.ended are.each;
  whole = ap (λ t. t ++ 10 ∷ []) are.whole ∙ sym (flat_map-append text are.ended (blank ∷ []));
}

nothing_cut : Cuts [] []
nothing_cut = record { whole = refl; each = tt; follow = tt; balanced = refl }

whole_stopped : (origin : Labels) (octets : List ℕ) (placed : List Placed) → AreWhole octets → FileStates origin (octets ++ stop_text) placed → ⊥
whole_stopped origin octets placed are states =
    let all : List (List Token) = are.ended ++ stop ∷ [] in
    let put = whole_together all [] [] (each_and stop stop_whole are.ended are.each) nothing_cut refl in
    let texts : flat_map text all ++ [] ≡ octets ++ stop_text = append-nil (flat_map text all) ∙ flat_map-append text are.ended (stop ∷ []) ∙ ap (λ t. t ++ stop_text) (sym are.whole) in
    let cut = subst (λ t. Cuts t (joined all ++ [])) texts put.ends in
    let same : states.tokens ≡ joined all ++ [] = one_cut (octets ++ stop_text) states.tokens (joined all ++ []) states.cut cut in
    let entries : entries_of (joined all ++ []) ≡ numbered 1 all = ap (λ (c : Cut). numbered 1 (and_last c.ended c.open_tokens)) put.cut in
    none_with_stop origin [] 1 are.ended placed (subst (λ e. EntriesState origin [] e placed) (ap entries_of same ∙ entries) states.each)

-- the same where a line feed goes before it, or none
whole_stopped_apart : (origin : Labels) (octets : List ℕ) (apart : Bool) (placed : List Placed) → AreWhole octets → FileStates origin (octets ++ ((if apart then 10 ∷ [] else []) ++ stop_text)) placed → ⊥
whole_stopped_apart origin octets false placed are states = whole_stopped origin octets placed are states
whole_stopped_apart origin octets true placed are states =
    whole_stopped origin (octets ++ 10 ∷ []) placed (with_blank octets are) (subst (λ t. FileStates origin t placed) (sym (append_assoc octets (10 ∷ []) stop_text)) states)

-- what breaks for good states none, whatever follows
broken_stopped : (origin : Labels) (old rest more : List ℕ) (fault : Fault) (placed : List Placed) → AreWhole old → IsBrokenOff rest fault → FileStates origin ((old ++ rest) ++ more) placed → ⊥
broken_stopped origin old rest more fault placed are off states =
    let breaks = (breaks_for_good rest more off.tokens fault off.breaks).breaks in
    let put = broken_together fault are.ended (rest ++ more) off.tokens are.each breaks off.none in
    let texts : flat_map text are.ended ++ (rest ++ more) ≡ (old ++ rest) ++ more = ap (λ t. t ++ (rest ++ more)) (sym are.whole) ∙ sym (append_assoc old rest more) in
    cut_not_broken ((old ++ rest) ++ more) states.tokens (joined are.ended ++ off.tokens) fault states.cut (subst (λ t. Breaks t (joined are.ended ++ off.tokens) fault) texts put.ends)

-- ---- what is written for whole entries

module _ (cased : Labels) where
  written_whole : (done new : List ℕ) (told : List Refused) → AreEntries (BecomesUnder cased) done new told → AreWhole new
  written_whole done new told are =
      let each : EachBecomes (BecomesUnder cased) [] 1 (and_last (cut_from zero are.tokens).ended (cut_from zero are.tokens).open_tokens) are.outcomes = subst (λ o. EachBecomes (BecomesUnder cased) [] 1 (and_last (cut_from zero are.tokens).ended o) are.outcomes) (sym are.ended) are.each in
      let found = cut_whole_text cased done new are.tokens are.outcomes are.cut each are.new_is in
      let closed : (cut_from zero found.others).open_tokens ≡ [] = ap (λ (c : Cut). c.open_tokens) found.is ∙ found.last.none_open.0 are.ended in
      let parts = whole_parted new found.others found.cut in
      let none : parts.rest ≡ [] = parts.last.whole ∙ ap text closed in
      record {
        ended = (cut_from zero found.others).ended;
        each = parts.each;
        whole = parts.whole ∙ ap (λ t. flat_map text (cut_from zero found.others).ended ++ t) none ∙ append-nil (flat_map text (cut_from zero found.others).ended);
      }

  pub stopped_states_none : (origin : Labels) (fed waiting new : List ℕ) (told : List Refused) (placed : List Placed) → IsRewrittenSoFar (BecomesUnder cased) fed waiting new told → FileStates origin (new ++ stopped_line new) placed → ⊥
  stopped_states_none origin fed waiting new told placed (going done are whole is_open) states = whole_stopped_apart origin new (ends_inside new) placed (written_whole done new told are) states
  stopped_states_none origin fed waiting new told placed (stopped is none) states =
      broken_stopped origin is.old is.rest (stopped_line new) is.fault placed (written_whole is.done is.old told is.are) is.breaks (subst (λ t. FileStates origin (t ++ stopped_line new) placed) is.new_is states)

  pub stopped_is_refused : (origin : Labels) (fed waiting new : List ℕ) (told : List Refused) (placed : List Placed) (ending : Ending) → IsRewrittenSoFar (BecomesUnder cased) fed waiting new told → FileReads origin (new ++ stopped_line new) placed ending → IsSome ending
  stopped_is_refused origin fed waiting new told placed (Some found) so_far reads = refl
  stopped_is_refused origin fed waiting new told placed None so_far reads = absurd (stopped_states_none origin fed waiting new told placed so_far (file_reads_state origin (new ++ stopped_line new) placed reads))
