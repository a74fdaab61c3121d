-- What is written for an entry is cut as the entry is, and has as many line feeds.
use Rattle.zone_words.proofs.Common.{AllByRecursion, AllByRecursion-append, AllByRecursion-back, AllByRecursion-front, AllFollow, Anew, AreOnOneLine, BecomesUnder, Bool, Cuts, Entry, IsToken, IsUnit, Labels, List, Outcome, SaysAnew, Token, TokensSay, TouchingItem, Written, [], anew, ap, arith, blank, both_ways, closing, comment, depth_after, ends_item, entry_of, escaped, false, filter, flat_map-append, generic_tokens, in_generic_form, is_blank, kept, length, line_feed, line_feeds, opening, plain, refl, refused, renamed, stays, subst, sym, text, token_text, touching_items, true, type_token, written, written_text, zero, ℕ, ◌++◌, ◌+◌, ◌<◌, ◌∙◌, ◌∷◌, ◌≡◌, ◌≢◌}
use Rattle.zone_text.proofs.Scanning.FirstEntries.{feeds_of_both}
use Rattle.zone_text.proofs.Common.{bare, is_digit, quoted, text_of}
use Rattle.zone_name.specs.Spelling.{decimal}
use Rattle.zone_words.proofs.EntryShapes.{AreFlat, IsOne, IsUnended, anew_follow, anew_one, anew_unended, front_depth, generic_flat, written_depth}
use Rattle.zone_words.proofs.WrittenWords.{generic_are, type_is}
use Rattle.zone_words.specs.CutAlike.{HaveAsManyLines, IsKeptOrAnew, is_anew, is_kept}
use Rattle.type_data.specs.DataItem.{items_of}
use Rattle.zone_words.specs.Entry.{in_words}
use Rattle.zone_words.specs.Written.{in_octets}

-- ---- line feeds

abbrev pub feeds : List Token → ℕ
feeds tokens = line_feeds (text tokens)

one_feeds : (p : Token) (back : List Token) → feeds (p ∷ back) ≡ line_feeds (token_text p) + feeds back
one_feeds p back = feeds_of_both (token_text p) (text back)

append_feeds : (front back : List Token) → feeds (front ++ back) ≡ feeds front + feeds back
append_feeds front back = ap line_feeds (flat_map-append token_text front back) ∙ feeds_of_both (text front) (text back)

none_counted : (octets : List ℕ) → AllByRecursion (λ c. c ≢ 10) octets → line_feeds octets ≡ 0
none_counted [] each = refl
none_counted (c ∷ octets) each = let more = none_counted octets each.1 in let own = each.0 in grind arith

no_digit : (c : ℕ) → is_digit c ≡ true → c ≢ 10
no_digit c is e = both_ways (is_digit c) (ap is_digit e) is

unit_feedless : (w : Written) → IsUnit ends_item w → line_feeds (text_of w) ≡ 0
unit_feedless (plain c) is = none_counted (c ∷ []) ((λ e. both_ways (ends_item c) is.0 (ap ends_item e)), tt)
unit_feedless (escaped c) is = none_counted (92 ∷ c ∷ []) ((λ e. omega arith), (is.1, tt))
unit_feedless (decimal x y z) is = none_counted (92 ∷ x ∷ y ∷ z ∷ []) ((λ e. omega arith), (no_digit x is.0, (no_digit y is.1, (no_digit z is.2, tt))))

units_feedless : (units : List Written) → AllByRecursion (IsUnit ends_item) units → line_feeds (written_text units) ≡ 0
units_feedless [] each = refl
units_feedless (w ∷ units) each = omega (arith, feeds_of_both (text_of w) (written_text units), unit_feedless w each.0, units_feedless units each.1)

blank_feedless : (c : ℕ) → IsToken (blank c) → line_feeds (token_text (blank c)) ≡ 0
blank_feedless c is = none_counted (c ∷ []) ((λ e. both_ways (is_blank c) (ap is_blank e) is), tt)

pub bare_feedless : (units : List Written) → IsToken (bare units) → line_feeds (token_text (bare units)) ≡ 0
bare_feedless units is = units_feedless units is.1

quoted_feeds : (units : List Written) → line_feeds (token_text (quoted units)) ≡ line_feeds (written_text units)
quoted_feeds units = omega (arith, feeds_of_both (34 ∷ []) (written_text units ++ 34 ∷ []), feeds_of_both (written_text units) (34 ∷ []), none_counted (34 ∷ []) ((λ e. omega arith), tt))

flat_feeds : (tokens more : List Token) → AreFlat tokens → AllByRecursion IsToken tokens → feeds (tokens ++ more) ≡ feeds more
flat_feeds [] more flat each = refl
flat_feeds (blank c ∷ tokens) more flat each = omega (arith, one_feeds (blank c) (tokens ++ more), blank_feedless c each.0, flat_feeds tokens more flat each.1)
flat_feeds (bare units ∷ tokens) more flat each = omega (arith, one_feeds (bare units) (tokens ++ more), bare_feedless units each.0, flat_feeds tokens more flat each.1)
flat_feeds (opening ∷ tokens) more flat each = absurd flat
flat_feeds (closing ∷ tokens) more flat each = absurd flat
flat_feeds (line_feed ∷ tokens) more flat each = absurd flat
flat_feeds (comment octets ∷ tokens) more flat each = absurd flat
flat_feeds (quoted units ∷ tokens) more flat each = absurd flat

-- items on one line go, and no line feed with them
stay_feeds : (after : Bool) (back : List Token) → AllByRecursion IsToken back → AreOnOneLine (items_of (touching_items after back)) → feeds (filter stays back) ≡ feeds back
stay_feeds after [] each line = refl
stay_feeds after (blank c ∷ back) each line = omega (arith, one_feeds (blank c) back, blank_feedless c each.0, stay_feeds false back each.1 line)
stay_feeds after (bare units ∷ back) each line = omega (arith, one_feeds (bare units) back, bare_feedless units each.0, stay_feeds true back each.1 line.1)
stay_feeds after (quoted units ∷ back) each line = omega (arith, one_feeds (quoted units) back, quoted_feeds units, line.0, stay_feeds true back each.1 line.1)
stay_feeds after (opening ∷ back) each line = omega (arith, one_feeds opening back, one_feeds opening (filter stays back), stay_feeds false back each.1 line)
stay_feeds after (closing ∷ back) each line = omega (arith, one_feeds closing back, one_feeds closing (filter stays back), stay_feeds false back each.1 line)
stay_feeds after (line_feed ∷ back) each line = omega (arith, one_feeds line_feed back, one_feeds line_feed (filter stays back), stay_feeds false back each.1 line)
stay_feeds after (comment o ∷ back) each line = omega (arith, one_feeds (comment o) back, one_feeds (comment o) (filter stays back), stay_feeds false back each.1 line)

-- ---- tokens

stay_each : (back : List Token) → AllByRecursion IsToken back → AllByRecursion IsToken (filter stays back)
stay_each [] each = tt
stay_each (blank c ∷ back) each = stay_each back each.1
stay_each (bare units ∷ back) each = stay_each back each.1
stay_each (quoted units ∷ back) each = stay_each back each.1
stay_each (opening ∷ back) each = (each.0, stay_each back each.1)
stay_each (closing ∷ back) each = (each.0, stay_each back each.1)
stay_each (line_feed ∷ back) each = (each.0, stay_each back each.1)
stay_each (comment o ∷ back) each = (each.0, stay_each back each.1)

written_each : (it : Anew) (back : List Token) → AllByRecursion IsToken back → AllByRecursion IsToken (written it back)
written_each (renamed number) back each = (type_is number, each)
written_each (in_octets number octets) back each = generic_are number octets (filter stays back) (stay_each back each)

some_written : (it : Anew) (back : List Token) → 0 < length (written it back)
some_written (renamed number) back = omega arith
some_written (in_octets number octets) back = omega arith

some_anew : (front : List Token) (it : Anew) (back : List Token) → 0 < length (front ++ written it back)
some_anew [] it back = some_written it back
some_anew (p ∷ front) it back = omega arith

-- ---- an entry

-- the tokens that are written for an entry are cut as it is
pub record KeepsEntry (tokens new : List Token) : Type 0 where
  pub one : IsOne zero tokens → IsOne zero new
  pub unended : IsUnended zero tokens → IsUnended zero new
  pub depth : depth_after zero new ≡ depth_after zero tokens
  pub follow : AllFollow tokens → AllFollow new
  pub each : AllByRecursion IsToken tokens → AllByRecursion IsToken new
  pub some : 0 < length tokens → 0 < length new
  pub lines : AllByRecursion IsToken tokens → HaveAsManyLines tokens new
  pub how : IsKeptOrAnew tokens new

pub keeps_itself : (tokens : List Token) → KeepsEntry tokens tokens
keeps_itself tokens = record {
  one = λ h. h;
  unended = λ h. h;
  depth = refl;
  follow = λ h. h;
  each = λ h. h;
  some = λ h. h;
  lines = λ h. refl;
  how = is_kept refl;
}

-- where they are cut to the end, so are those
pub keeps_cut : (octets : List ℕ) (tokens new : List Token) → KeepsEntry tokens new → Cuts octets tokens → Cuts (text new) new
keeps_cut octets tokens new keeps cut = record {
  whole = refl;
  each = keeps.each cut.each;
  follow = keeps.follow cut.follow;
  balanced = keeps.depth ∙ cut.balanced;
}

module _ (origin : Labels) (before : List Entry) (line : ℕ) (tokens : List Token) where
  pub says_on_one_line : (entry : Entry) (word : List ℕ) (d : List TouchingItem) (it : Anew) → SaysAnew origin before entry word d it → AreOnOneLine (items_of d)
  says_on_one_line entry word d it (in_generic_form f above is few one_line generic mnemonic) = one_line
  says_on_one_line entry word d it (in_words f above octets is few one_line words states) = one_line

  written_feeds : (it : Anew) (back : List Token) → AllByRecursion IsToken back → AreOnOneLine (items_of (touching_items true back)) → feeds back ≡ feeds (written it back)
  written_feeds (renamed number) back each one_line = sym (flat_feeds (type_token number ∷ []) back tt (type_is number, tt))
  written_feeds (in_octets number octets) back each one_line = sym ((flat_feeds (generic_tokens number octets) (filter stays back) (generic_flat number octets) (AllByRecursion-front IsToken (generic_tokens number octets) [] (generic_are number octets [] tt))) ∙ stay_feeds true back each one_line)

  anew_feeds : (front back : List Token) (word : List Written) (it : Anew) → AllByRecursion IsToken (front ++ bare word ∷ back) → AreOnOneLine (items_of (touching_items true back)) → HaveAsManyLines (front ++ bare word ∷ back) (front ++ written it back)
  anew_feeds front back word it each one_line =
      let behind = AllByRecursion-back IsToken front (bare word ∷ back) each in
      omega (arith, append_feeds front (bare word ∷ back), append_feeds front (written it back), one_feeds (bare word) back, bare_feedless word behind.0, written_feeds it back behind.1 one_line)

  keeps_around : (front back : List Token) (word : List Written) (it : Anew) → AreOnOneLine (items_of (touching_items true back)) → KeepsEntry (front ++ bare word ∷ back) (front ++ written it back)
  keeps_around front back word it one_line = record {
    one = anew_one front it word back;
    unended = anew_unended front it word back;
    depth = front_depth zero front (written it back) (bare word ∷ back) (λ k. written_depth k it word back);
    follow = anew_follow it front word back;
    each = λ each. AllByRecursion-append IsToken front (written it back) (AllByRecursion-front IsToken front (bare word ∷ back) each) (written_each it back (AllByRecursion-back IsToken front (bare word ∷ back) each).1);
    some = λ some. some_anew front it back;
    lines = λ each. anew_feeds front back word it each one_line;
    how = is_anew front back word it refl refl;
  }

  keeps_anew : (front back : List Token) (it : Anew) → TokensSay origin before line tokens front back it → KeepsEntry tokens (front ++ written it back)
  keeps_anew front back it say = subst (λ t. KeepsEntry t (front ++ written it back)) (sym say.split) (keeps_around front back say.word it (says_on_one_line (entry_of line tokens) _ (touching_items true back) it say.says))

  pub becomes_keeps : (outcome : Outcome) → BecomesUnder origin before line tokens outcome → KeepsEntry tokens outcome.written
  becomes_keeps outcome (anew front back it say e) = subst (KeepsEntry tokens) (sym (ap (λ (o : Outcome). o.written) e)) (keeps_anew front back it say)
  becomes_keeps outcome (refused it fail e) = subst (KeepsEntry tokens) (sym (ap (λ (o : Outcome). o.written) e)) (keeps_itself tokens)
  becomes_keeps outcome (kept no_say no_fail e) = subst (KeepsEntry tokens) (sym (ap (λ (o : Outcome). o.written) e)) (keeps_itself tokens)
