-- A rewriting is cut into entries as its text is.
use Rattle.zone_words.proofs.Common.{AllByRecursion, AllZip, BecomesUnder, Breaks, Cut, Cuts, EachBecomes, Entry, Fault, IsRewriting, IsToken, Labels, List, Outcome, Refused, Token, [], and_last, ap, append-nil, append_assoc, append_cancel_left, arith, broken, count_by, cut_from, cut_whole, entry_of, flat_map, flat_map-append, length, map, refl, subst, sym, text, text_of_entries, token_text, written_of, zero, ℕ, ◌++◌, ◌+◌, ◌<◌, ◌==◌, ◌↔◌, ◌∙◌, ◌∷◌, ◌≡◌}
use Rattle.zone_text.proofs.Tokens.CutAgain.{joined}
use Rattle.zone_words.proofs.CutEntries.{BreaksBy, IsPartedInto, IsWholeEntry, broken_parted, broken_together, whole_parted, whole_together}
use Rattle.zone_words.proofs.EntryShapes.{cut_of}
use Rattle.zone_words.proofs.KeptEntries.{KeepsEntry, becomes_keeps, keeps_cut, keeps_itself}
use Rattle.zone_words.specs.CutAlike.{AreCutAlike, HaveAsManyLines, HaveEntriesAlike, IsKeptOrAnew}
use Rattle.zone_words.specs.CutAlike as alike
use Rattle.zone_words.specs.Rewriting.{whole}

-- ---- what is written for each entry

abbrev pub news : List Outcome → List (List Token)
news outcomes = map (λ (o : Outcome). o.written) outcomes

each_keeps : (origin : Labels) (before : List Entry) (line : ℕ) (entries : List (List Token)) (outcomes : List Outcome) → EachBecomes (BecomesUnder origin) before line entries outcomes → AllZip KeepsEntry entries (news outcomes)
each_keeps origin before line [] [] each = tt
each_keeps origin before line [] (o ∷ outcomes) each = absurd each
each_keeps origin before line (entry ∷ entries) [] each = absurd each
each_keeps origin before line (entry ∷ entries) (o ∷ outcomes) each = (
  becomes_keeps origin before line entry o each.0,
  each_keeps origin (entry_of line entry ∷ before) (line + count_by (λ c. c == 10) (text entry)) entries outcomes each.1,
)

pub written_news : (outcomes : List Outcome) → written_of outcomes ≡ flat_map text (news outcomes)
written_news [] = refl
written_news (o ∷ outcomes) = ap (λ t. text o.written ++ t) (written_news outcomes)

each_whole : (ended others : List (List Token)) → AllByRecursion IsWholeEntry ended → AllZip KeepsEntry ended others → AllByRecursion IsWholeEntry others
each_whole [] [] each keep = tt
each_whole [] (new ∷ others) each keep = absurd keep
each_whole (entry ∷ ended) [] each keep = absurd keep
each_whole (entry ∷ ended) (new ∷ others) each keep = (
  record { cut = keeps_cut (text entry) entry new keep.0 each.0.cut; ended = keep.0.one each.0.ended },
  each_whole ended others each.1 keep.1,
)

-- ---- the last entry, which no line feed ends

record IsApart (ended : List (List Token)) (open_tokens : List Token) (all : List (List Token)) : Type 0 where
  first : List (List Token)
  last : List Token
  are : all ≡ first ++ last ∷ []
  each : AllZip KeepsEntry ended first
  keeps : KeepsEntry open_tokens last

further_apart : (entry new : List Token) (ended : List (List Token)) (open_tokens : List Token) (all : List (List Token)) → KeepsEntry entry new → IsApart ended open_tokens all → IsApart (entry ∷ ended) open_tokens (new ∷ all)
further_apart entry new ended open_tokens all keep apart = record {
  first = new ∷ apart.first;
  last = apart.last;
  are = ap (λ t. new ∷ t) apart.are;
  each = (keep, apart.each);
  keeps = apart.keeps;
}

zip_apart : (ended : List (List Token)) (open_tokens : List Token) (all : List (List Token)) → AllZip KeepsEntry (ended ++ open_tokens ∷ []) all → IsApart ended open_tokens all
zip_apart [] open_tokens [] keep = absurd keep
zip_apart [] open_tokens (new ∷ []) keep = record { first = []; last = new; are = refl; each = tt; keeps = keep.0 }
zip_apart [] open_tokens (new ∷ other ∷ all) keep = absurd keep.1
zip_apart (entry ∷ ended) open_tokens [] keep = absurd keep
zip_apart (entry ∷ ended) open_tokens (new ∷ all) keep = further_apart entry new ended open_tokens all keep.0 (zip_apart ended open_tokens all keep.1)

pub record HasLast (ended : List (List Token)) (open_tokens : List Token) (all : List (List Token)) : Type 0 where
  pub first : List (List Token)
  pub last : List Token
  pub are : all ≡ and_last first last
  pub each : AllZip KeepsEntry ended first
  pub keeps : KeepsEntry open_tokens last
  pub none_open : (open_tokens ≡ []) ↔ (last ≡ [])

some_last : (first : List (List Token)) (last : List Token) → 0 < length last → first ++ last ∷ [] ≡ and_last first last
some_last first [] some = absurd (omega arith)
some_last first (p ∷ last) some = refl

none_last : (last : List Token) → 0 < length last → last ≡ [] → ⊥
none_last last some e = omega (arith, some, ap length e)

last_of : (ended : List (List Token)) (open_tokens : List Token) (all : List (List Token)) → AllZip KeepsEntry (and_last ended open_tokens) all → HasLast ended open_tokens all
last_of ended [] all keep = record { first = all; last = []; are = refl; each = keep; keeps = keeps_itself []; none_open = ((λ e. refl), (λ e. refl)) }
last_of ended (p ∷ open_tokens) all keep =
    let apart = zip_apart ended (p ∷ open_tokens) all keep in
    let some : 0 < length apart.last = apart.keeps.some (omega arith) in
    record {
      first = apart.first;
      last = apart.last;
      are = apart.are ∙ some_last apart.first apart.last some;
      each = apart.each;
      keeps = apart.keeps;
      none_open = ((λ e. absurd cc), (λ e. absurd (none_last apart.last some e)));
    }

last_text : (first : List (List Token)) (last : List Token) → flat_map text (and_last first last) ≡ flat_map text first ++ text last
last_text first [] = sym (append-nil (flat_map text first))
last_text first (p ∷ last) = flat_map-append text first ((p ∷ last) ∷ []) ∙ ap (λ t. flat_map text first ++ t) (append-nil (text (p ∷ last)))

-- ---- a whole text

pub record IsCutWhole (tokens : List Token) (outcomes : List Outcome) (new : List ℕ) : Type 0 where
  pub others : List Token
  pub cut : Cuts new others
  pub last : HasLast (cut_from zero tokens).ended (cut_from zero tokens).open_tokens (news outcomes)
  pub is : cut_from zero others ≡ cut_of last.first last.last
  pub each : AllByRecursion IsWholeEntry (cut_from zero tokens).ended
  pub open_each : AllByRecursion IsToken (cut_from zero tokens).open_tokens

module _ (origin : Labels) (octets new : List ℕ) (tokens : List Token) (outcomes : List Outcome) where
  whole_by : Cuts octets tokens → new ≡ written_of outcomes → HasLast (cut_from zero tokens).ended (cut_from zero tokens).open_tokens (news outcomes) → IsPartedInto Cuts (cut_from zero tokens).ended octets tokens → IsCutWhole tokens outcomes new
  whole_by cut new_is last parts =
      let kept = keeps_cut parts.rest (cut_from zero tokens).open_tokens last.last last.keeps parts.last in
      let put = whole_together last.first (text last.last) last.last (each_whole (cut_from zero tokens).ended last.first parts.each last.each) kept (last.keeps.unended parts.unended) in
      let octets_are : flat_map text last.first ++ text last.last ≡ new = sym (last_text last.first last.last) ∙ ap (flat_map text) (sym last.are) ∙ sym (written_news outcomes) ∙ sym new_is in
      record {
        others = joined last.first ++ last.last;
        cut = subst (λ o. Cuts o (joined last.first ++ last.last)) octets_are put.ends;
        last = last;
        is = put.cut;
        each = parts.each;
        open_each = parts.last.each;
      }

  pub cut_whole_text : Cuts octets tokens → EachBecomes (BecomesUnder origin) [] 1 (and_last (cut_from zero tokens).ended (cut_from zero tokens).open_tokens) outcomes → new ≡ written_of outcomes → IsCutWhole tokens outcomes new
  cut_whole_text cut each new_is =
      whole_by cut new_is
      (last_of (cut_from zero tokens).ended (cut_from zero tokens).open_tokens (news outcomes) (each_keeps origin [] 1 _ outcomes each))
      (whole_parted octets tokens cut)

-- ---- a text that breaks

-- what stands after the entries that are ended
after_entries : (octets rest end : List ℕ) (ended : List (List Token)) (open_tokens tokens : List Token) → joined ended ++ open_tokens ≡ tokens → octets ≡ text tokens ++ end → octets ≡ flat_map text ended ++ rest → rest ≡ text open_tokens ++ end
after_entries octets rest end ended open_tokens tokens is first second =
    let t : text tokens ≡ flat_map text ended ++ text open_tokens = ap text (sym is) ∙ flat_map-append token_text (joined ended) open_tokens ∙ ap (λ t. t ++ text open_tokens) (sym (text_of_entries ended)) in
    append_cancel_left (flat_map text ended) rest (text open_tokens ++ end) (sym second ∙ first ∙ ap (λ x. x ++ end) t ∙ append_assoc (flat_map text ended) (text open_tokens) end)

pub record IsCutBroken (tokens : List Token) (fault : Fault) (outcomes : List Outcome) (new rest end : List ℕ) : Type 0 where
  pub others : List Token
  pub breaks : Breaks new others fault
  pub keep : AllZip KeepsEntry (cut_from zero tokens).ended (news outcomes)
  pub is : cut_from zero others ≡ cut_of (news outcomes) (cut_from zero tokens).open_tokens
  pub same : end ≡ breaks.rest
  pub parted : new ≡ flat_map text (news outcomes) ++ rest
  pub each : AllByRecursion IsWholeEntry (cut_from zero tokens).ended
  pub open_each : AllByRecursion IsToken (cut_from zero tokens).open_tokens

module _ (origin : Labels) (octets new : List ℕ) (tokens : List Token) (fault : Fault) (outcomes : List Outcome) (rest : List ℕ) where
  broken_by : (breaks : Breaks octets tokens fault) → octets ≡ flat_map text (cut_from zero tokens).ended ++ rest → new ≡ written_of outcomes ++ rest → AllZip KeepsEntry (cut_from zero tokens).ended (news outcomes) → IsPartedInto (BreaksBy fault) (cut_from zero tokens).ended octets tokens → IsCutBroken tokens fault outcomes new rest breaks.rest
  broken_by breaks parts_are new_is keep parts =
      let ended : List (List Token) = (cut_from zero tokens).ended in
      let left : List Token = (cut_from zero tokens).open_tokens in
      let same : parts.rest ≡ rest = append_cancel_left (flat_map text ended) parts.rest rest (sym parts.whole ∙ parts_are) in
      let put = broken_together fault (news outcomes) rest left (each_whole ended (news outcomes) parts.each keep) (subst (λ r. Breaks r left fault) same parts.last) parts.unended in
      let now : new ≡ flat_map text (news outcomes) ++ rest = new_is ∙ ap (λ t. t ++ rest) (written_news outcomes) in
      let again : Breaks new (joined (news outcomes) ++ left) fault = subst (λ o. Breaks o (joined (news outcomes) ++ left) fault) (sym now) put.ends in
      let before : rest ≡ text left ++ breaks.rest = after_entries octets rest breaks.rest ended left tokens (cut_whole zero tokens) breaks.whole parts_are in
      let after : rest ≡ text left ++ again.rest = after_entries new rest again.rest (news outcomes) left (joined (news outcomes) ++ left) refl again.whole now in
      record {
        others = joined (news outcomes) ++ left;
        breaks = again;
        keep = keep;
        is = put.cut;
        same = append_cancel_left (text left) breaks.rest again.rest (sym before ∙ after);
        parted = now;
        each = parts.each;
        open_each = parts.last.each;
      }

  pub cut_broken_text : (breaks : Breaks octets tokens fault) → EachBecomes (BecomesUnder origin) [] 1 (cut_from zero tokens).ended outcomes → octets ≡ flat_map text (cut_from zero tokens).ended ++ rest → new ≡ written_of outcomes ++ rest → IsCutBroken tokens fault outcomes new rest breaks.rest
  cut_broken_text breaks each parts_are new_is =
      broken_by breaks parts_are new_is (each_keeps origin [] 1 _ outcomes each) (broken_parted fault octets tokens breaks)

-- ---- what is said of two entries

module _ (Alike : List Token → List Token → Type 0) (from : (tokens new : List Token) → AllByRecursion IsToken tokens → KeepsEntry tokens new → Alike tokens new) where
  each_alike : (ended others : List (List Token)) → AllByRecursion IsWholeEntry ended → AllZip KeepsEntry ended others → AllZip Alike ended others
  each_alike [] [] each keep = tt
  each_alike [] (new ∷ others) each keep = absurd keep
  each_alike (entry ∷ ended) [] each keep = absurd keep
  each_alike (entry ∷ ended) (new ∷ others) each keep = (from entry new each.0.cut.each keep.0, each_alike ended others each.1 keep.1)

  entries_alike : (tokens others : List Token) (ended : List (List Token)) (last : List Token) → cut_from zero others ≡ cut_of ended last → AllByRecursion IsWholeEntry (cut_from zero tokens).ended → AllByRecursion IsToken (cut_from zero tokens).open_tokens → AllZip KeepsEntry (cut_from zero tokens).ended ended → KeepsEntry (cut_from zero tokens).open_tokens last → ((cut_from zero tokens).open_tokens ≡ []) ↔ (last ≡ []) → HaveEntriesAlike Alike tokens others
  entries_alike tokens others ended last is each open_each keep keeps open_too = record {
    ended = subst (λ (c : Cut). AllZip Alike (cut_from zero tokens).ended c.ended) (sym is) (each_alike (cut_from zero tokens).ended ended each keep);
    last = subst (λ (c : Cut). Alike (cut_from zero tokens).open_tokens c.open_tokens) (sym is) (from (cut_from zero tokens).open_tokens last open_each keeps);
    none_open = subst (λ (c : Cut). ((cut_from zero tokens).open_tokens ≡ []) ↔ (c.open_tokens ≡ [])) (sym is) open_too;
  }

  whole_alike : (octets new : List ℕ) (tokens : List Token) (outcomes : List Outcome) → Cuts octets tokens → IsCutWhole tokens outcomes new → AreCutAlike Alike octets new
  whole_alike octets new tokens outcomes cut found =
      alike.whole tokens found.others cut found.cut
      (entries_alike tokens found.others found.last.first found.last.last found.is found.each found.open_each found.last.each found.last.keeps found.last.none_open)

  broken_alike : (octets new rest : List ℕ) (tokens : List Token) (fault : Fault) (outcomes : List Outcome) (breaks : Breaks octets tokens fault) → IsCutBroken tokens fault outcomes new rest breaks.rest → AreCutAlike Alike octets new
  broken_alike octets new rest tokens fault outcomes breaks found =
      alike.broken tokens found.others fault breaks found.breaks
      (entries_alike tokens found.others (news outcomes) (cut_from zero tokens).open_tokens found.is found.each found.open_each found.keep (keeps_itself (cut_from zero tokens).open_tokens) ((λ e. e), (λ e. e)))
      (sym (ap (λ (c : Cut). c.open_tokens) found.is)) found.same

  pub cut_alike : (origin : Labels) (octets new : List ℕ) (told : List Refused) → IsRewriting origin octets new told → AreCutAlike Alike octets new
  cut_alike origin octets new told (whole tokens outcomes cut each new_is told_is) =
      whole_alike octets new tokens outcomes cut (cut_whole_text origin octets new tokens outcomes cut each new_is)
  cut_alike origin octets new told (broken tokens fault outcomes rest breaks each parts_are new_is told_is) =
      broken_alike octets new rest tokens fault outcomes breaks (cut_broken_text origin octets new tokens fault outcomes rest breaks each parts_are new_is)

pub kept_or_anew : (origin : Labels) (octets new : List ℕ) (told : List Refused) → IsRewriting origin octets new told → AreCutAlike IsKeptOrAnew octets new
kept_or_anew = cut_alike IsKeptOrAnew (λ tokens new each keeps. keeps.how)

pub lines_kept : (origin : Labels) (octets new : List ℕ) (told : List Refused) → IsRewriting origin octets new told → AreCutAlike HaveAsManyLines octets new
lines_kept = cut_alike HaveAsManyLines (λ tokens new each keeps. keeps.lines each)
