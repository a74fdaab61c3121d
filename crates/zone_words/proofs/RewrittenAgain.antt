-- A rewriting is its own rewriting.
use Rattle.zone_words.proofs.Common.{AllByRecursion, AllZip, Anew, BecomesUnder, Cut, EachBecomes, Entry, Fault, FurtherType, HasClass, IsCasedOrigin, IsClassWord, IsFurtherRecord, IsFurtherUnder, IsRefused, IsRewriting, IsToken, Labels, List, MatchOption, NamesOrigin, None, Option, Outcome, RawItem, Refused, SaysAnew, Some, Token, TokensFail, TokensSay, TouchingItem, [], and_last, anew, ap, broken, class_word, count_by, cut_from, entry_of, flat_map, in_class, in_generic_form, kept, latest, no_data, on_more_lines, option_or, origin_items, refl, refused, statement_of, subst, sym, text, told_of, too_many, written, written_of, written_text, zero, ℕ, ◌++◌, ◌+◌, ◌==◌, ◌∙◌, ◌∷◌, ◌≡◌}
use Rattle.zone_words.proofs.CutEntries.{IsWholeEntry}
use Rattle.zone_words.proofs.RewrittenCut.{IsCutBroken, IsCutWhole, cut_broken_text, cut_whole_text, news}
use Rattle.zone_words.proofs.KeptEntries.{becomes_keeps}
use Rattle.zone_words.proofs.SameStatements.{AlikeEntries, anew_again, anew_entry_alike}
use Rattle.type_data.specs.DataItem.{items_of}
use Rattle.zone_words.specs.Entry.{in_words}
use Rattle.zone_words.specs.Rewriting.{whole}

-- ---- what entries leave to those after them

-- entries that leave the same, one by one
abbrev pub LeaveTheSame : List Entry → List Entry → Type 0
LeaveTheSame before after = AllZip AlikeEntries before after

back_too : (before after : List Entry) → LeaveTheSame before after → LeaveTheSame after before
back_too [] [] same = tt
back_too [] (other ∷ after) same = absurd same
back_too (entry ∷ before) [] same = absurd same
back_too (entry ∷ before) (other ∷ after) same = (record { origin = sym same.0.origin; class = sym same.0.class }, back_too before after same.1)

latest_same : (before after : List Entry) → LeaveTheSame before after → latest class_word before ≡ latest class_word after
latest_same [] [] same = refl
latest_same [] (other ∷ after) same = absurd same
latest_same (entry ∷ before) [] same = absurd same
latest_same (entry ∷ before) (other ∷ after) same =
    ap (λ o. option_or o (latest class_word before)) same.0.class ∙ ap (option_or (class_word (statement_of other))) (latest_same before after same.1)

module _ (origin : Labels) where
  -- the origin after an entry, by the items of its `$ORIGIN`
  abbrev OriginBy : Option (List RawItem) → List Entry → Labels → Type 0
  OriginBy items before name = MatchOption items (IsCasedOrigin origin before name) (λ stated. (above : Labels) × IsCasedOrigin origin before above × NamesOrigin above stated name)

  origin_by : (items : Option (List RawItem)) (before after : List Entry) (name : Labels) → ((n : Labels) → IsCasedOrigin origin before n → IsCasedOrigin origin after n) → OriginBy items before name → OriginBy items after name
  origin_by None before after name goes is = goes name is
  origin_by (Some items) before after name goes is = (is.0, goes is.0 is.1, is.2)

  origin_same : (before after : List Entry) → LeaveTheSame before after → (name : Labels) → IsCasedOrigin origin before name → IsCasedOrigin origin after name
  origin_same [] [] same name is = is
  origin_same [] (other ∷ after) same name is = absurd same
  origin_same (entry ∷ before) [] same name is = absurd same
  origin_same (entry ∷ before) (other ∷ after) same name is =
      subst (λ items. OriginBy items after name) same.0.origin (origin_by (origin_items (statement_of entry)) before after name (origin_same before after same.1) is)

  -- ---- an entry after others that leave the same

  module _ (before after : List Entry) (same : LeaveTheSame before after) (entry : Entry) where
    class_too : HasClass before entry in_class → HasClass after entry in_class
    class_too has = subst (λ o. MatchOption (option_or (class_word (statement_of entry)) o) (in_class ≡ 1) (λ t. IsClassWord t in_class)) (latest_same before after same) has

    record_too : (word : List ℕ) (items : List RawItem) (further : FurtherType) → IsFurtherRecord before entry word items further → IsFurtherRecord after entry word items further
    record_too word items further is = record {
      parts = is.parts;
      split = is.split;
      values = is.values;
      from_type = is.from_type;
      named = is.named;
      class = λ alone. class_too (is.class alone);
    }

    under_too : (word : List ℕ) (items : List RawItem) (further : FurtherType) (above : Labels) → IsFurtherUnder origin before entry word items further above → IsFurtherUnder origin after entry word items further above
    under_too word items further above is = record {
      stated = record_too word items further is.stated;
      under = origin_same before after same above is.under;
    }

    says_too : (word : List ℕ) (d : List TouchingItem) (it : Anew) → SaysAnew origin before entry word d it → SaysAnew origin after entry word d it
    says_too word d _ (in_generic_form further above is few line generic mnemonic) = in_generic_form further above (under_too word (items_of d) further above is) few line generic mnemonic
    says_too word d _ (in_words further above octets is few line words states) = in_words further above octets (under_too word (items_of d) further above is) few line words states

    fails_too : (word : List ℕ) (d : List TouchingItem) (it : Refused) → IsRefused origin before entry word d it → IsRefused origin after entry word d it
    fails_too word d _ (too_many further above is words many) = too_many further above (under_too word (items_of d) further above is) words many
    fails_too word d _ (on_more_lines further above is words few lines) = on_more_lines further above (under_too word (items_of d) further above is) words few lines
    fails_too word d _ (no_data further above field fault is words few line fails) = no_data further above field fault (under_too word (items_of d) further above is) words few line fails

  module _ (before after : List Entry) (same : LeaveTheSame before after) (line : ℕ) (tokens : List Token) where
    say_too : (front back : List Token) (it : Anew) → TokensSay origin before line tokens front back it → TokensSay origin after line tokens front back it
    say_too front back it say = record { word = say.word; split = say.split; says = says_too before after same (entry_of line tokens) (written_text say.word) _ it say.says }

    fail_too : (it : Refused) → TokensFail origin before line tokens it → TokensFail origin after line tokens it
    fail_too it fail = record { front = fail.front; back = fail.back; word = fail.word; split = fail.split; fails = fails_too before after same (entry_of line tokens) (written_text fail.word) _ it fail.fails }

  -- ---- what became of an entry becomes of what was written for it

  -- the entry that is written leaves the same to those after it, and the same becomes of it
  record BecomesAgain (after : List Entry) (line : ℕ) (tokens : List Token) (outcome : Outcome) : Type 0 where
    alike : AlikeEntries (entry_of line tokens) (entry_of line outcome.written)
    becomes : BecomesUnder origin after line outcome.written outcome

  stays_again : (after : List Entry) (line : ℕ) (tokens : List Token) (outcome : Outcome) → outcome.written ≡ tokens → BecomesUnder origin after line tokens outcome → BecomesAgain after line tokens outcome
  stays_again after line tokens outcome e becomes = record {
    alike = subst (λ t. AlikeEntries (entry_of line tokens) (entry_of line t)) (sym e) (record { origin = refl; class = refl });
    becomes = subst (λ t. BecomesUnder origin after line t outcome) (sym e) becomes;
  }

  anew_once_more : (before after : List Entry) (line : ℕ) (tokens front back : List Token) (it : Anew) (outcome : Outcome) → AllByRecursion IsToken tokens → TokensSay origin before line tokens front back it → outcome ≡ record { written = front ++ written it back; told = [] } → BecomesAgain after line tokens outcome
  anew_once_more before after line tokens front back it outcome each say e = record {
    alike = subst (λ (o : Outcome). AlikeEntries (entry_of line tokens) (entry_of line o.written)) (sym e) (anew_entry_alike origin before line tokens front back it each say);
    becomes = subst (λ (o : Outcome). BecomesUnder origin after line o.written o) (sym e) (anew_again origin before after line tokens front back it each say);
  }

  becomes_again : (before after : List Entry) (line : ℕ) (tokens : List Token) (outcome : Outcome) → LeaveTheSame before after → AllByRecursion IsToken tokens → BecomesUnder origin before line tokens outcome → BecomesAgain after line tokens outcome
  becomes_again before after line tokens outcome same each (anew front back it say e) = anew_once_more before after line tokens front back it outcome each say e
  becomes_again before after line tokens outcome same each (refused it fail e) =
      stays_again after line tokens outcome (ap (λ (o : Outcome). o.written) e) (refused it (fail_too before after same line tokens it fail) e)
  becomes_again before after line tokens outcome same each (kept no_say no_fail e) =
      let back = back_too before after same in
      stays_again after line tokens outcome (ap (λ (o : Outcome). o.written) e)
      (kept (λ front rest it say. no_say front rest it (say_too after before back line tokens front rest it say)) (λ it fail. no_fail it (fail_too after before back line tokens it fail)) e)

  -- entry after entry, from the same line on
  each_again : (before after : List Entry) (line : ℕ) (entries : List (List Token)) (outcomes : List Outcome) → LeaveTheSame before after → AllByRecursion (AllByRecursion IsToken) entries → EachBecomes (BecomesUnder origin) before line entries outcomes → EachBecomes (BecomesUnder origin) after line (news outcomes) outcomes
  each_again before after line [] [] same each becomes = tt
  each_again before after line [] (o ∷ outcomes) same each becomes = absurd becomes
  each_again before after line (entry ∷ entries) [] same each becomes = absurd becomes
  each_again before after line (entry ∷ entries) (o ∷ outcomes) same each becomes =
      let now = becomes_again before after line entry o same each.0 becomes.0 in
      let lines : count_by (λ c. c == 10) (text entry) ≡ count_by (λ c. c == 10) (text o.written) = (becomes_keeps origin before line entry o becomes.0).lines each.0 in (
        now.becomes,
        each_again (entry_of line entry ∷ before) (entry_of line o.written ∷ after) (line + count_by (λ c. c == 10) (text o.written)) entries outcomes (now.alike, same) each.1
            (subst (λ n. EachBecomes (BecomesUnder origin) (entry_of line entry ∷ before) (line + n) entries outcomes) lines becomes.1),
      )

  -- ---- the whole text

  pub each_tokens : (ended : List (List Token)) → AllByRecursion IsWholeEntry ended → AllByRecursion (AllByRecursion IsToken) ended
  each_tokens [] each = tt
  each_tokens (entry ∷ ended) each = (each.0.cut.each, each_tokens ended each.1)

  pub each_and_last : (ended : List (List Token)) (open_tokens : List Token) → AllByRecursion (AllByRecursion IsToken) ended → AllByRecursion IsToken open_tokens → AllByRecursion (AllByRecursion IsToken) (and_last ended open_tokens)
  each_and_last ended [] each last = each
  each_and_last [] (p ∷ open_tokens) each last = (last, tt)
  each_and_last (entry ∷ ended) (p ∷ open_tokens) each last = (each.0, each_and_last ended (p ∷ open_tokens) each.1 last)

  whole_again : (octets new : List ℕ) (told : List Refused) (tokens : List Token) (outcomes : List Outcome) → EachBecomes (BecomesUnder origin) [] 1 (and_last (cut_from zero tokens).ended (cut_from zero tokens).open_tokens) outcomes → new ≡ written_of outcomes → told ≡ told_of outcomes → IsCutWhole tokens outcomes new → IsRewriting origin new new told
  whole_again octets new told tokens outcomes each new_is told_is found =
      let all_each = each_and_last (cut_from zero tokens).ended (cut_from zero tokens).open_tokens (each_tokens (cut_from zero tokens).ended found.each) found.open_each in
      let again : EachBecomes (BecomesUnder origin) [] 1 (news outcomes) outcomes = each_again [] [] 1 _ outcomes tt all_each each in
      let entries : news outcomes ≡ and_last (cut_from zero found.others).ended (cut_from zero found.others).open_tokens = found.last.are ∙ ap (λ (c : Cut). and_last c.ended c.open_tokens) (sym found.is) in
      whole found.others outcomes found.cut (subst (λ t. EachBecomes (BecomesUnder origin) [] 1 t outcomes) entries again) new_is told_is

  broken_again : (octets new rest end : List ℕ) (told : List Refused) (tokens : List Token) (fault : Fault) (outcomes : List Outcome) → EachBecomes (BecomesUnder origin) [] 1 (cut_from zero tokens).ended outcomes → new ≡ written_of outcomes ++ rest → told ≡ told_of outcomes → IsCutBroken tokens fault outcomes new rest end → IsRewriting origin new new told
  broken_again octets new rest end told tokens fault outcomes each new_is told_is found =
      let again : EachBecomes (BecomesUnder origin) [] 1 (news outcomes) outcomes = each_again [] [] 1 _ outcomes tt (each_tokens (cut_from zero tokens).ended found.each) each in
      let entries : news outcomes ≡ (cut_from zero found.others).ended = ap (λ (c : Cut). c.ended) (sym found.is) in
      broken found.others fault outcomes rest found.breaks
      (subst (λ t. EachBecomes (BecomesUnder origin) [] 1 t outcomes) entries again)
      (found.parted ∙ ap (λ t. flat_map text t ++ rest) entries) new_is told_is

  pub rewritten_again : (octets new : List ℕ) (told : List Refused) → IsRewriting origin octets new told → IsRewriting origin new new told
  rewritten_again octets new told (whole tokens outcomes cut each new_is told_is) =
      whole_again octets new told tokens outcomes each new_is told_is (cut_whole_text origin octets new tokens outcomes cut each new_is)
  rewritten_again octets new told (broken tokens fault outcomes rest breaks each parts_are new_is told_is) =
      broken_again octets new rest breaks.rest told tokens fault outcomes each new_is told_is (cut_broken_text origin octets new tokens fault outcomes rest breaks each parts_are new_is)
