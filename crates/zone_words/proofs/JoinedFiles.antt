-- A file's rewriting states what the file states with words of further types.
use Rattle.zone_words.proofs.Common.{AllByRecursion, BecomesUnder, Cut, Cuts, EachBecomes, Entry, IsRewriting, IsToken, Labels, List, Outcome, Refused, Token, TokensFail, written_of, [], and_last, anew, ap, broken, count_by, cut_from, cut_not_broken, entry_of, kept, numbered, one_cut, refl, refused, subst, sym, text, told_of, zero, ℕ, ◌++◌, ◌+◌, ◌==◌, ◌∙◌, ◌∷◌, ◌≡◌}
use Rattle.std.specs.Prelude.{◌↔◌}
use Rattle.zone_rdata.specs.declared.record.Placed.{Placed}
use Rattle.zone_text.specs.Entries.{entries_of}
use Rattle.zone_text.specs.File as file
use Rattle.zone_text.specs.File.{EntriesState, FileStates, StatesFirst}
use Rattle.zone_words.proofs.JoinedEntries.{ReadsAlike, becomes_alike}
use Rattle.zone_words.proofs.JoinedRefused.{refused_nothing, refused_record}
use Rattle.zone_words.proofs.KeptEntries.{becomes_keeps}
use Rattle.zone_words.proofs.RewrittenAgain.{each_and_last, each_tokens}
use Rattle.zone_words.proofs.RewrittenCut.{IsCutWhole, cut_broken_text, cut_whole_text, news}
use Rattle.zone_words.specs.WithWords as joined
use Rattle.zone_words.specs.WithWords.{EachWithWords, FileStatesWithWords, FirstWithWords, LeaveAlike}
use Rattle.zone_words.specs.Rewriting.{whole}

pub leave_itself : (origin : Labels) (before : List Entry) → LeaveAlike origin before before
leave_itself origin before = record {
  under = λ name. ((λ x. x), (λ x. x));
  owner = λ name. ((λ x. x), (λ x. x));
  class = refl;
  default_ttl = refl;
  ttl = refl;
  minimum = λ seconds. ((λ x. x), (λ x. x));
}

-- how many line feeds stand in them
abbrev pub feeds : List Token → ℕ
feeds tokens = count_by (λ c. c == 10) (text tokens)

abbrev pub AreAllTokens : List (List Token) → Type 0
AreAllTokens entries = AllByRecursion (AllByRecursion IsToken) entries

-- what becomes of entries under an origin
abbrev pub AreBecome : Labels → List Entry → ℕ → List (List Token) → List Outcome → Type 0
AreBecome cased before line entries outcomes = EachBecomes (BecomesUnder cased) before line entries outcomes

module _ (cased origin : Labels) where
  -- ---- one entry, and others after it

  pub first_from : (before after : List Entry) (line : ℕ) (tokens new : List Token) (Old New : List Placed → Type 0) (placed : List Placed) → ReadsAlike cased origin before after line tokens new → ((others : List Placed) → New others → Old others) → StatesFirst origin after (entry_of line new) New placed → FirstWithWords cased origin before line tokens Old placed
  first_from before after line tokens new Old New placed reads go (file.states_none nothing rest) = joined.states_none (reads.nothing.0 nothing) (go placed rest)
  first_from before after line tokens new Old New placed reads go (file.states_one p others states place are rest) = joined.states_one p others ((reads.record_is p.rr).0 states) place are (go others rest)

  first_to : (before after : List Entry) (line : ℕ) (tokens new : List Token) (Old New : List Placed → Type 0) (placed : List Placed) → ReadsAlike cased origin before after line tokens new → ((others : List Placed) → Old others → New others) → FirstWithWords cased origin before line tokens Old placed → StatesFirst origin after (entry_of line new) New placed
  first_to before after line tokens new Old New placed reads go (joined.states_none nothing rest) = file.states_none (reads.nothing.1 nothing) (go placed rest)
  first_to before after line tokens new Old New placed reads go (joined.states_one p others states place are rest) = file.states_one p others ((reads.record_is p.rr).1 states) place are (go others rest)

  -- ---- entry after entry

  each_from : (before after : List Entry) (line : ℕ) (entries : List (List Token)) (outcomes : List Outcome) (placed : List Placed) → LeaveAlike origin before after → AreAllTokens entries → AreBecome cased before line entries outcomes → EntriesState origin after (numbered line (news outcomes)) placed → EachWithWords cased origin before line entries placed
  each_from before after line [] [] placed same each becomes states = states
  each_from before after line [] (o ∷ outcomes) placed same each becomes states = absurd becomes
  each_from before after line (entry ∷ entries) [] placed same each becomes states = absurd becomes
  each_from before after line (entry ∷ entries) (o ∷ outcomes) placed same each becomes states =
      let reads = becomes_alike cased origin before after line same entry each.0 o becomes.0 in
      let lines : feeds entry ≡ feeds o.written = (becomes_keeps cased before line entry o becomes.0).lines each.0 in
      first_from before after line entry o.written (EachWithWords cased origin (entry_of line entry ∷ before) (line + feeds entry) entries) (EntriesState origin (entry_of line o.written ∷ after) (numbered (line + feeds o.written) (news outcomes))) placed reads
      (λ others rest. each_from (entry_of line entry ∷ before) (entry_of line o.written ∷ after) (line + feeds entry) entries outcomes others reads.leaves each.1 becomes.1 (subst (λ n. EntriesState origin (entry_of line o.written ∷ after) (numbered (line + n) (news outcomes)) others) (sym lines) rest)) states

  each_to : (before after : List Entry) (line : ℕ) (entries : List (List Token)) (outcomes : List Outcome) (placed : List Placed) → LeaveAlike origin before after → AreAllTokens entries → AreBecome cased before line entries outcomes → EachWithWords cased origin before line entries placed → EntriesState origin after (numbered line (news outcomes)) placed
  each_to before after line [] [] placed same each becomes states = states
  each_to before after line [] (o ∷ outcomes) placed same each becomes states = absurd becomes
  each_to before after line (entry ∷ entries) [] placed same each becomes states = absurd becomes
  each_to before after line (entry ∷ entries) (o ∷ outcomes) placed same each becomes states =
      let reads = becomes_alike cased origin before after line same entry each.0 o becomes.0 in
      let lines : feeds entry ≡ feeds o.written = (becomes_keeps cased before line entry o becomes.0).lines each.0 in
      first_to before after line entry o.written (EachWithWords cased origin (entry_of line entry ∷ before) (line + feeds entry) entries) (EntriesState origin (entry_of line o.written ∷ after) (numbered (line + feeds o.written) (news outcomes))) placed reads
      (λ others rest. subst (λ n. EntriesState origin (entry_of line o.written ∷ after) (numbered (line + n) (news outcomes)) others) lines (each_to (entry_of line entry ∷ before) (entry_of line o.written ∷ after) (line + feeds entry) entries outcomes others reads.leaves each.1 becomes.1 rest)) states

  -- ---- nothing is told

  pub rest_states : (after : List Entry) (entry : Entry) (Others : List Placed → Type 0) (placed : List Placed) → StatesFirst origin after entry Others placed → (others : List Placed) × Others others
  rest_states after entry Others placed (file.states_none nothing rest) = (placed, rest)
  rest_states after entry Others placed (file.states_one p others states place are rest) = (others, rest)

  not_refused : (before after : List Entry) (line : ℕ) (tokens : List Token) (it : Refused) (Others : List Placed → Type 0) (placed : List Placed) → TokensFail cased before line tokens it → StatesFirst origin after (entry_of line tokens) Others placed → ⊥
  not_refused before after line tokens it Others placed fail (file.states_none nothing rest) = refused_nothing cased origin before after line tokens it fail nothing
  not_refused before after line tokens it Others placed fail (file.states_one p others states place are rest) = refused_record cased origin before after line tokens it p.rr fail states

  pub one_untold : (before after : List Entry) (line : ℕ) (tokens : List Token) (o : Outcome) (Others : List Placed → Type 0) (placed : List Placed) → BecomesUnder cased before line tokens o → StatesFirst origin after (entry_of line o.written) Others placed → o.told ≡ []
  one_untold before after line tokens o Others placed (anew front back it say e) states = ap (λ (x : Outcome). x.told) e
  one_untold before after line tokens o Others placed (refused it fail e) states = absurd (not_refused before after line tokens it Others placed fail (subst (λ (x : Outcome). StatesFirst origin after (entry_of line x.written) Others placed) e states))
  one_untold before after line tokens o Others placed (kept no_say no_fail e) states = ap (λ (x : Outcome). x.told) e

  each_untold : (before after : List Entry) (line : ℕ) (entries : List (List Token)) (outcomes : List Outcome) (placed : List Placed) → AreAllTokens entries → AreBecome cased before line entries outcomes → EntriesState origin after (numbered line (news outcomes)) placed → told_of outcomes ≡ []
  each_untold before after line [] [] placed each becomes states = refl
  each_untold before after line [] (o ∷ outcomes) placed each becomes states = absurd becomes
  each_untold before after line (entry ∷ entries) [] placed each becomes states = absurd becomes
  each_untold before after line (entry ∷ entries) (o ∷ outcomes) placed each becomes states =
      let lines : feeds entry ≡ feeds o.written = (becomes_keeps cased before line entry o becomes.0).lines each.0 in
      let rest = rest_states after (entry_of line o.written) (EntriesState origin (entry_of line o.written ∷ after) (numbered (line + feeds o.written) (news outcomes))) placed states in
      let here : o.told ≡ [] = one_untold before after line entry o (EntriesState origin (entry_of line o.written ∷ after) (numbered (line + feeds o.written) (news outcomes))) placed becomes.0 states in
      let later : told_of outcomes ≡ [] = each_untold (entry_of line entry ∷ before) (entry_of line o.written ∷ after) (line + feeds entry) entries outcomes rest.0 each.1 becomes.1 (subst (λ n. EntriesState origin (entry_of line o.written ∷ after) (numbered (line + n) (news outcomes)) rest.0) (sym lines) rest.1) in
      (λ j. here j ++ later j)

  -- ---- the whole text

  module _ (octets new : List ℕ) (told : List Refused) (tokens : List Token) (outcomes : List Outcome) (cut : Cuts octets tokens) (each : AreBecome cased [] 1 (and_last (cut_from zero tokens).ended (cut_from zero tokens).open_tokens) outcomes) (new_is : new ≡ written_of outcomes) where
    abbrev found : IsCutWhole tokens outcomes new
    found = cut_whole_text cased octets new tokens outcomes cut each new_is

    tokens_each : AreAllTokens (and_last (cut_from zero tokens).ended (cut_from zero tokens).open_tokens)
    tokens_each = each_and_last cased (cut_from zero tokens).ended (cut_from zero tokens).open_tokens (each_tokens cased (cut_from zero tokens).ended found.each) found.open_each

    entries_are : news outcomes ≡ and_last (cut_from zero found.others).ended (cut_from zero found.others).open_tokens
    entries_are = found.last.are ∙ ap (λ (c : Cut). and_last c.ended c.open_tokens) (sym found.is)

    entries_in : (placed : List Placed) → FileStates origin new placed → EntriesState origin [] (numbered 1 (news outcomes)) placed
    entries_in placed states =
        let same : states.tokens ≡ found.others = one_cut new states.tokens found.others states.cut found.cut in
        subst (λ t. EntriesState origin [] (numbered 1 t) placed) (sym entries_are) (subst (λ t. EntriesState origin [] (entries_of t) placed) same states.each)

    whole_from : (placed : List Placed) → FileStates origin new placed → FileStatesWithWords cased origin octets placed
    whole_from placed states = record { tokens = tokens; cut = cut; each = each_from [] [] 1 _ outcomes placed (leave_itself origin []) tokens_each each (entries_in placed states) }

    whole_to : (placed : List Placed) → FileStatesWithWords cased origin octets placed → FileStates origin new placed
    whole_to placed states =
        let same : states.tokens ≡ tokens = one_cut octets states.tokens tokens states.cut cut in
        let joined_each : EachWithWords cased origin [] 1 (and_last (cut_from zero tokens).ended (cut_from zero tokens).open_tokens) placed = subst (λ t. EachWithWords cased origin [] 1 (and_last (cut_from zero t).ended (cut_from zero t).open_tokens) placed) same states.each in
        let now : EntriesState origin [] (numbered 1 (news outcomes)) placed = each_to [] [] 1 _ outcomes placed (leave_itself origin []) tokens_each each joined_each in
        record { tokens = found.others; cut = found.cut; each = subst (λ t. EntriesState origin [] (numbered 1 t) placed) entries_are now }

    whole_untold : (placed : List Placed) → told ≡ told_of outcomes → FileStates origin new placed → told ≡ []
    whole_untold placed told_is states = told_is ∙ each_untold [] [] 1 _ outcomes placed tokens_each each (entries_in placed states)

  pub file_joined : (octets new : List ℕ) (told : List Refused) (placed : List Placed) → IsRewriting cased octets new told → FileStates origin new placed ↔ FileStatesWithWords cased origin octets placed
  file_joined octets new told placed (whole tokens outcomes cut each new_is told_is) = (whole_from octets new told tokens outcomes cut each new_is placed, whole_to octets new told tokens outcomes cut each new_is placed)
  file_joined octets new told placed (broken tokens fault outcomes rest breaks each parts_are new_is told_is) =
      let found = cut_broken_text cased octets new tokens fault outcomes rest breaks each parts_are new_is in (
        λ states. absurd (cut_not_broken new states.tokens found.others fault states.cut found.breaks),
        λ states. absurd (cut_not_broken octets states.tokens tokens fault states.cut breaks),
      )

  pub file_untold : (octets new : List ℕ) (told : List Refused) (placed : List Placed) → IsRewriting cased octets new told → FileStates origin new placed → told ≡ []
  file_untold octets new told placed (whole tokens outcomes cut each new_is told_is) states = whole_untold octets new told tokens outcomes cut each new_is placed told_is states
  file_untold octets new told placed (broken tokens fault outcomes rest breaks each parts_are new_is told_is) states =
      let found = cut_broken_text cased octets new tokens fault outcomes rest breaks each parts_are new_is in
      absurd (cut_not_broken new states.tokens found.others fault states.cut found.breaks)
