-- A reading of what is written for a file gives the file's records up to the first entry that states
-- none.
use Rattle.zone_words.proofs.Common.{Breaks, Cut, Cuts, Entry, Fault, IsRewriting, Labels, List, Outcome, Refused, Token, [], and_last, ap, count_by, cut_from, cut_not_broken, entry_of, flat_map, None, numbered, one_break, one_cut, refl, Some, statement_of, subst, sum_by-append, sym, text, zero, ℕ, ◌+◌, ◌==◌, ◌∙◌, ◌∷◌, ◌≡◌}
use Rattle.zone_rdata.specs.Record.{Record}
use Rattle.zone_rdata.specs.declared.fault.Place.TheVariants.{Line}
use Rattle.zone_rdata.specs.declared.record.Placed.{Placed}
use Rattle.zone_text.specs.Entries.{entries_of, open_line}
use Rattle.zone_text.specs.EntryFault.{EntryFault}
use Rattle.zone_text.specs.FileReads as file
use Rattle.zone_text.specs.FileReads.{Ending, FileReads, ReadEach, ReadsFirst}
use Rattle.zone_text.specs.Records.{EntryStates, StatesNothing}
use Rattle.zone_words.proofs.JoinedEntries.{ReadsAlike, becomes_alike}
use Rattle.zone_words.proofs.JoinedFiles.{AreAllTokens, AreBecome, feeds, first_from, leave_itself}
use Rattle.zone_words.proofs.KeptEntries.{becomes_keeps}
use Rattle.zone_words.proofs.RewrittenAgain.{each_and_last, each_tokens}
use Rattle.zone_words.proofs.RewrittenCut.{IsCutBroken, IsCutWhole, cut_broken_text, cut_whole_text, news}
use Rattle.zone_words.specs.Rewriting as rewriting
use Rattle.zone_words.specs.WithWords as joined
use Rattle.zone_words.specs.WithWords.{FileReadsWithWords, LeaveAlike, ReadEachWithWords, ReadsWithWords}

-- an entry with a fault states neither a record nor nothing
abbrev pub FaultyStatesNone : Type 0
FaultyStatesNone = (origin : Labels) (before : List Entry) (entry : Entry) (r : Record) (fault : Fault) → EntryStates origin before entry r → EntryFault origin before entry fault → ⊥

abbrev pub FaultyIsSomething : Type 0
FaultyIsSomething = (origin : Labels) (before : List Entry) (entry : Entry) (fault : Fault) → StatesNothing origin before (statement_of entry) → EntryFault origin before entry fault → ⊥

module _ (no_record : FaultyStatesNone) (not_nothing : FaultyIsSomething) (cased origin : Labels) where
  first_read : (before after : List Entry) (line : ℕ) (tokens new : List Token) (Old New : List Placed → Ending → Type 0) (placed : List Placed) (ending : Ending) → ReadsAlike cased origin before after line tokens new → ((others : List Placed) → New others ending → Old others ending) → ReadsFirst origin after (entry_of line new) New placed ending → ReadsWithWords cased origin before line tokens Old placed ending
  first_read before after line tokens new Old New placed ending reads go (file.stated states) = joined.stated (first_from cased origin before after line tokens new (λ others. Old others ending) (λ others. New others ending) placed reads go states)
  first_read before after line tokens new Old New placed ending reads go (file.refused fault is none e) =
      joined.refused fault
      (λ r states. no_record origin after (entry_of line new) r fault ((reads.record_is r).1 states) is)
      (λ nothing. not_nothing origin after (entry_of line new) fault (reads.nothing.1 nothing) is) none e

  each_read : (last : Ending) (before after : List Entry) (line : ℕ) (entries : List (List Token)) (outcomes : List Outcome) (placed : List Placed) (ending : Ending) → LeaveAlike origin before after → AreAllTokens entries → AreBecome cased before line entries outcomes → ReadEach origin last after (numbered line (news outcomes)) placed ending → ReadEachWithWords cased origin last before line entries placed ending
  each_read last before after line [] [] placed ending same each becomes reading = reading
  each_read last before after line [] (o ∷ outcomes) placed ending same each becomes reading = absurd becomes
  each_read last before after line (entry ∷ entries) [] placed ending same each becomes reading = absurd becomes
  each_read last before after line (entry ∷ entries) (o ∷ outcomes) placed ending same each becomes reading =
      let reads = becomes_alike cased origin before after line same entry each.0 o becomes.0 in
      let lines : feeds entry ≡ feeds o.written = (becomes_keeps cased before line entry o becomes.0).lines each.0 in
      first_read before after line entry o.written (ReadEachWithWords cased origin last (entry_of line entry ∷ before) (line + feeds entry) entries) (ReadEach origin last (entry_of line o.written ∷ after) (numbered (line + feeds o.written) (news outcomes))) placed ending reads
      (λ others rest. each_read last (entry_of line entry ∷ before) (entry_of line o.written ∷ after) (line + feeds entry) entries outcomes others ending reads.leaves each.1 becomes.1 (subst (λ n. ReadEach origin last (entry_of line o.written ∷ after) (numbered (line + n) (news outcomes)) others ending) (sym lines) rest)) reading

  -- as many line feeds before the entry that is open where the texts break
  feeds_in : (a : List Token) (b : List (List Token)) → count_by (λ c. c == 10) (flat_map text (a ∷ b)) ≡ feeds a + count_by (λ c. c == 10) (flat_map text b)
  feeds_in a b = sum_by-append _ (text a) (flat_map text b)

  each_feeds : (before : List Entry) (line : ℕ) (entries : List (List Token)) (outcomes : List Outcome) → AreAllTokens entries → AreBecome cased before line entries outcomes → count_by (λ c. c == 10) (flat_map text (news outcomes)) ≡ count_by (λ c. c == 10) (flat_map text entries)
  each_feeds before line [] [] each becomes = refl
  each_feeds before line [] (o ∷ outcomes) each becomes = absurd becomes
  each_feeds before line (entry ∷ entries) [] each becomes = absurd becomes
  each_feeds before line (entry ∷ entries) (o ∷ outcomes) each becomes =
      let lines : feeds entry ≡ feeds o.written = (becomes_keeps cased before line entry o becomes.0).lines each.0 in
      let more = each_feeds (entry_of line entry ∷ before) (line + feeds entry) entries outcomes each.1 becomes.1 in
      feeds_in o.written (news outcomes) ∙ (λ j. sym lines j + more j) ∙ sym (feeds_in entry entries)

  -- ---- the whole text

  whole_read : (octets new : List ℕ) (tokens : List Token) (outcomes : List Outcome) (placed : List Placed) (ending : Ending) → Cuts octets tokens → AreBecome cased [] 1 (and_last (cut_from zero tokens).ended (cut_from zero tokens).open_tokens) outcomes → IsCutWhole tokens outcomes new → FileReads origin new placed ending → FileReadsWithWords cased origin octets placed ending
  whole_read octets new tokens outcomes placed ending cut each found (file.broken others fault breaks reading) = absurd (cut_not_broken new found.others others fault found.cut breaks)
  whole_read octets new tokens outcomes placed ending cut each found (file.whole others other_cut reading) =
      let all = each_and_last cased (cut_from zero tokens).ended (cut_from zero tokens).open_tokens (each_tokens cased (cut_from zero tokens).ended found.each) found.open_each in
      let same : others ≡ found.others = one_cut new others found.others other_cut found.cut in
      let entries : news outcomes ≡ and_last (cut_from zero found.others).ended (cut_from zero found.others).open_tokens = found.last.are ∙ ap (λ (c : Cut). and_last c.ended c.open_tokens) (sym found.is) in
      joined.whole tokens cut
      (each_read None [] [] 1 _ outcomes placed ending (leave_itself origin []) all each
      (subst (λ t. ReadEach origin None [] (numbered 1 t) placed ending) (sym entries) (subst (λ t. ReadEach origin None [] (entries_of t) placed ending) same reading)))

  broken_read : (octets new rest : List ℕ) (tokens : List Token) (fault : Fault) (outcomes : List Outcome) (placed : List Placed) (ending : Ending) (breaks : Breaks octets tokens fault) → AreBecome cased [] 1 (cut_from zero tokens).ended outcomes → IsCutBroken tokens fault outcomes new rest breaks.rest → FileReads origin new placed ending → FileReadsWithWords cased origin octets placed ending
  broken_read octets new rest tokens fault outcomes placed ending breaks each found (file.whole others cut reading) = absurd (cut_not_broken new others found.others fault cut found.breaks)
  broken_read octets new rest tokens fault outcomes placed ending breaks each found (file.broken others f other_breaks reading) =
      let once = one_break new others found.others f fault other_breaks found.breaks in
      let all = each_tokens cased (cut_from zero tokens).ended found.each in
      let entries : (cut_from zero others).ended ≡ news outcomes = ap (λ t. (cut_from zero t).ended) once.0 ∙ ap (λ (c : Cut). c.ended) found.is in
      let line : open_line others ≡ open_line tokens = ap (λ t. 1 + count_by (λ c. c == 10) (flat_map text t)) entries ∙ ap (λ n. 1 + n) (each_feeds [] 1 (cut_from zero tokens).ended outcomes all each) in
      joined.broken tokens fault breaks
      (each_read (Some (fault, Line (open_line tokens))) [] [] 1 _ outcomes placed ending (leave_itself origin []) all each
      (subst (λ t. ReadEach origin (Some (fault, Line (open_line tokens))) [] (numbered 1 t) placed ending) entries
      (subst (λ n. ReadEach origin (Some (fault, Line n)) [] (numbered 1 (cut_from zero others).ended) placed ending) line
      (subst (λ g. ReadEach origin (Some (g, Line (open_line others))) [] (numbered 1 (cut_from zero others).ended) placed ending) once.1 reading))))

  pub file_read : (octets new : List ℕ) (told : List Refused) (placed : List Placed) (ending : Ending) → IsRewriting cased octets new told → FileReads origin new placed ending → FileReadsWithWords cased origin octets placed ending
  file_read octets new told placed ending (rewriting.whole tokens outcomes cut each new_is told_is) = whole_read octets new tokens outcomes placed ending cut each (cut_whole_text cased octets new tokens outcomes cut each new_is)
  file_read octets new told placed ending (rewriting.broken tokens fault outcomes rest breaks each parts_are new_is told_is) =
      broken_read octets new rest tokens fault outcomes placed ending breaks each (cut_broken_text cased octets new tokens fault outcomes rest breaks each parts_are new_is)
