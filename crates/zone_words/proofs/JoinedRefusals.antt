-- A reading of what is written for a file ends where an entry is refused, or before.
use Rattle.zone_words.proofs.Common.{BecomesUnder, Cut, Entry, IsRefused, IsRewriting, Labels, List, Outcome, Refused, Some, Token, TouchingItem, [], and_last, anew, ap, arith, cut_from, cut_not_broken, entry_of, kept, no_data, numbered, on_more_lines, one_break, one_cut, refl, refused, subst, sym, told_of, too_many, written_text, touching_items, true, zero, ℕ, ◌++◌, ◌+◌, ◌∙◌, ◌∷◌, ◌≡◌, None}
use Rattle.std.specs.Prelude.{◌≤◌}
use Rattle.zone_rdata.specs.declared.record.Placed.{Placed}
use Rattle.zone_rdata.specs.declared.fault.Place.TheVariants.{Line}
use Rattle.zone_text.specs.Entries.{entries_of, open_line}
use Rattle.zone_text.specs.FileReads as file
use Rattle.zone_text.specs.FileReads.{Ending, FileReads, ReadEach, ReadsFirst}
use Rattle.zone_words.proofs.JoinedFiles.{AreAllTokens, AreBecome, feeds, one_untold, rest_states}
use Rattle.zone_words.proofs.KeptEntries.{becomes_keeps}
use Rattle.zone_words.proofs.RewrittenAgain.{each_and_last, each_tokens}
use Rattle.zone_words.proofs.RewrittenCut.{cut_broken_text, cut_whole_text, news}
use Rattle.zone_words.specs.Rewriting as rewriting
use Rattle.zone_words.specs.WithWords.{EndsBy}

-- what is told of an entry has its line
fails_line : (origin : Labels) (before : List Entry) (entry : Entry) (word : List ℕ) (d : List TouchingItem) (it : Refused) → IsRefused origin before entry word d it → it.line ≡ entry.line
fails_line origin before entry word d it (too_many further above is words many) = refl
fails_line origin before entry word d it (on_more_lines further above is words few lines) = refl
fails_line origin before entry word d it (no_data further above field fault is words few line fails) = refl

module _ (cased origin : Labels) where
  -- what is told first is told of a line that isn't before the first entry
  passed_line : (line more : ℕ) (o : Outcome) (outcomes : List Outcome) (it : Refused) (others : List Refused) → o.told ≡ [] → told_of (o ∷ outcomes) ≡ it ∷ others → (told_of outcomes ≡ it ∷ others → line + more ≤ it.line) → line ≤ it.line
  passed_line line more o outcomes it others none told next =
      let h = next ((λ j. sym none j ++ told_of outcomes) ∙ told) in omega arith

  told_here : (before : List Entry) (line : ℕ) (entry : List Token) (o : Outcome) (outcomes : List Outcome) (it : Refused) (others : List Refused) → told_of (o ∷ outcomes) ≡ it ∷ others → (told_of outcomes ≡ it ∷ others → line + feeds entry ≤ it.line) → BecomesUnder cased before line entry o → line ≤ it.line
  told_here before line entry o outcomes it others told next (anew front back say_it say e) = passed_line line (feeds entry) o outcomes it others (ap (λ (x : Outcome). x.told) e) told next
  told_here before line entry o outcomes it others told next (kept no_say no_fail e) = passed_line line (feeds entry) o outcomes it others (ap (λ (x : Outcome). x.told) e) told next
  told_here before line entry o outcomes it others told next (refused r fail e) =
      let both : r ∷ told_of outcomes ≡ it ∷ others = (λ j. sym (ap (λ (x : Outcome). x.told) e) j ++ told_of outcomes) ∙ told in
      let same : r ≡ it = cc both in
      let own : r.line ≡ line = fails_line cased before (entry_of line entry) (written_text fail.word) (touching_items true fail.back) r fail.fails in
      let lines : it.line ≡ line = ap (λ (x : Refused). x.line) (sym same) ∙ own in
      omega arith

  told_line : (before : List Entry) (line : ℕ) (entries : List (List Token)) (outcomes : List Outcome) (it : Refused) (others : List Refused) → AreBecome cased before line entries outcomes → told_of outcomes ≡ it ∷ others → line ≤ it.line
  told_line before line [] [] it others becomes told = absurd cc
  told_line before line [] (o ∷ outcomes) it others becomes told = absurd becomes
  told_line before line (entry ∷ entries) [] it others becomes told = absurd becomes
  told_line before line (entry ∷ entries) (o ∷ outcomes) it others becomes told =
      told_here before line entry o outcomes it others told
      (λ later. told_line (entry_of line entry ∷ before) (line + feeds entry) entries outcomes it others becomes.1 later) becomes.0

  each_ends : (last : Ending) (before after : List Entry) (line : ℕ) (entries : List (List Token)) (outcomes : List Outcome) (placed : List Placed) (ending : Ending) (it : Refused) (others : List Refused) → AreAllTokens entries → AreBecome cased before line entries outcomes → told_of outcomes ≡ it ∷ others → ReadEach origin last after (numbered line (news outcomes)) placed ending → EndsBy it.line ending
  each_ends last before after line [] [] placed ending it others each becomes told reading = absurd cc
  each_ends last before after line [] (o ∷ outcomes) placed ending it others each becomes told reading = absurd becomes
  each_ends last before after line (entry ∷ entries) [] placed ending it others each becomes told reading = absurd becomes
  each_ends last before after line (entry ∷ entries) (o ∷ outcomes) placed ending it others each becomes told (file.refused fault is none e) =
      record { fault = fault; at = line; is = e; early = told_line before line (entry ∷ entries) (o ∷ outcomes) it others becomes told }
  each_ends last before after line (entry ∷ entries) (o ∷ outcomes) placed ending it others each becomes told (file.stated states) =
      let Rest : List Placed → Type 0 = (λ others. ReadEach origin last (entry_of line o.written ∷ after) (numbered (line + feeds o.written) (news outcomes)) others ending) in
      let lines : feeds entry ≡ feeds o.written = (becomes_keeps cased before line entry o becomes.0).lines each.0 in
      let none : o.told ≡ [] = one_untold cased origin before after line entry o Rest placed becomes.0 states in
      let rest = rest_states cased origin after (entry_of line o.written) Rest placed states in
      let later : told_of outcomes ≡ it ∷ others = (λ j. sym none j ++ told_of outcomes) ∙ told in
      each_ends last (entry_of line entry ∷ before) (entry_of line o.written ∷ after) (line + feeds entry) entries outcomes rest.0 ending it others each.1 becomes.1 later
      (subst (λ n. ReadEach origin last (entry_of line o.written ∷ after) (numbered (line + n) (news outcomes)) rest.0 ending) (sym lines) rest.1)

  pub file_ends : (octets new : List ℕ) (it : Refused) (others : List Refused) (placed : List Placed) (ending : Ending) → IsRewriting cased octets new (it ∷ others) → FileReads origin new placed ending → EndsBy it.line ending
  file_ends octets new it others placed ending (rewriting.whole tokens outcomes cut each new_is told_is) (file.whole found_tokens found_cut reading) =
      let found = cut_whole_text cased octets new tokens outcomes cut each new_is in
      let all = each_and_last cased (cut_from zero tokens).ended (cut_from zero tokens).open_tokens (each_tokens cased (cut_from zero tokens).ended found.each) found.open_each in
      let same : found_tokens ≡ found.others = one_cut new found_tokens found.others found_cut found.cut in
      let entries : news outcomes ≡ and_last (cut_from zero found.others).ended (cut_from zero found.others).open_tokens = found.last.are ∙ ap (λ (c : Cut). and_last c.ended c.open_tokens) (sym found.is) in
      each_ends None [] [] 1 _ outcomes placed ending it others all each (sym told_is)
      (subst (λ t. ReadEach origin None [] (numbered 1 t) placed ending) (sym entries) (subst (λ t. ReadEach origin None [] (entries_of t) placed ending) same reading))
  file_ends octets new it others placed ending (rewriting.whole tokens outcomes cut each new_is told_is) (file.broken found_tokens f breaks reading) =
      let found = cut_whole_text cased octets new tokens outcomes cut each new_is in
      absurd (cut_not_broken new found.others found_tokens f found.cut breaks)
  file_ends octets new it others placed ending (rewriting.broken tokens fault outcomes rest breaks each parts_are new_is told_is) (file.whole found_tokens found_cut reading) =
      let found = cut_broken_text cased octets new tokens fault outcomes rest breaks each parts_are new_is in
      absurd (cut_not_broken new found_tokens found.others fault found_cut found.breaks)
  file_ends octets new it others placed ending (rewriting.broken tokens fault outcomes rest breaks each parts_are new_is told_is) (file.broken found_tokens f other_breaks reading) =
      let found = cut_broken_text cased octets new tokens fault outcomes rest breaks each parts_are new_is in
      let once = one_break new found_tokens found.others f fault other_breaks found.breaks in
      let all = each_tokens cased (cut_from zero tokens).ended found.each in
      let entries : (cut_from zero found_tokens).ended ≡ news outcomes = ap (λ t. (cut_from zero t).ended) once.0 ∙ ap (λ (c : Cut). c.ended) found.is in
      each_ends (Some (f, Line (open_line found_tokens))) [] [] 1 _ outcomes placed ending it others all each (sym told_is)
      (subst (λ t. ReadEach origin (Some (f, Line (open_line found_tokens))) [] (numbered 1 t) placed ending) entries reading)
