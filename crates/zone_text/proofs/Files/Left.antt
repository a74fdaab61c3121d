-- What octets leave of a file: the entries that line feeds have ended, and the octets after them.
use Rattle.zone_text.proofs.Common.{AreTokens, Breaks, BreaksForGood, Cuts, Ending, Entry, Fault, List, None, Place, Placed, ReadEach, Some, Token, [], add-zero, add_assoc, and_last, ap, append-nil, append_assoc, arith, common_steps, count_by, cut_from, ended_entries, entries_of, flat_map, flat_map-append, inl, inr, numbered, refl, refused, reverse, rules, stated, states_none, states_one, subst, sum_by-append, sym, text, zero, ℕ, ◌++◌, ◌+◌, ◌==◌, ◌∙◌, ◌∷◌, ◌≡◌}
use Rattle.zone_text.proofs.Tokens.Cuttings.{cut_not_broken}
use Rattle.zone_text.proofs.Tokens.Lasting.{cut_joined, break_joined}
use Rattle.zone_text.proofs.Tokens.CutAgain.{joined, AreEnded, cut_ended, again_zero, cut_whole, numbered_front}
use Rattle.zone_text.proofs.Files.Decides.{ended_on, goes_on, parted}
use Rattle.zone_text.proofs.Tokens.ForGood.{break_stays_or_ends, stays_for_good, ends_not_for_good}

pub text_of_entries : (entries : List (List Token)) → flat_map text entries ≡ text (joined entries)
text_of_entries [] = refl
text_of_entries (entry ∷ entries) = search (rules, flat_map-append, joined, text_of_entries entries)

pub and_last_joined : (ended : List (List Token)) (open_tokens : List Token) → joined (and_last ended open_tokens) ≡ joined ended ++ open_tokens
and_last_joined ended open_tokens = grind (arith, common_steps)

pub entries_text : (tokens : List Token) → flat_map text (and_last (cut_from zero tokens).ended (cut_from zero tokens).open_tokens) ≡ text tokens
entries_text tokens = search (rules, text_of_entries, and_last_joined, cut_whole)

pub ended_entries_stay : (octets more : List ℕ) (tokens later : List Token) → AreTokens octets tokens → AreTokens (octets ++ more) later → (others : List Entry) × (ended_entries later ≡ ended_entries tokens ++ others)
ended_entries_stay octets more tokens later before after = ended_on tokens later (goes_on octets more tokens later before after)

pub ended_entries_first : (tokens : List Token) → (others : List Entry) × (entries_of tokens ≡ ended_entries tokens ++ others)
ended_entries_first tokens = by (cut_from zero tokens).ended (cut_from zero tokens).open_tokens
  where
    by : (ended : List (List Token)) (open_tokens : List Token) → (others : List Entry) × (numbered 1 (and_last ended open_tokens) ≡ numbered 1 ended ++ others)
    by ended [] = ([], sym (append-nil (numbered 1 ended)))
    by ended (p ∷ open_tokens) = numbered_front 1 ended ((p ∷ open_tokens) ∷ [])

-- ---- readings of entries one after the other

abbrev pub line_feeds : List ℕ → ℕ
line_feeds octets = count_by (λ c. c == 10) octets

-- the entries before, the latest first, with one more
pub turned : (entry : Entry) (entries before : List Entry) → reverse (entry ∷ entries) ++ before ≡ reverse entries ++ (entry ∷ before)
turned entry entries before = grind (arith, common_steps)

-- entries of which none is refused, and others after them
module _ (origin : List (List ℕ)) (after : Ending) where
  pub reads_then : (before entries more : List Entry) (placed others : List Placed) (ending : Ending) → ReadEach origin None before entries placed None → ReadEach origin after (reverse entries ++ before) more others ending → ReadEach origin after before (entries ++ more) (placed ++ others) ending
  reads_then before [] more placed others ending read next = grind arith
  reads_then before (entry ∷ entries) more placed others ending (stated (states_none n read)) next =
      stated (states_none n (reads_then (entry ∷ before) entries more placed others ending read (subst (λ t. ReadEach origin after t more others ending) (turned entry entries before) next)))
  reads_then before (entry ∷ entries) more placed others ending (stated (states_one p rest states place e read)) next =
      stated (states_one p (rest ++ others) states place (ap (λ t. t ++ others) e) (reads_then (entry ∷ before) entries more rest others ending read (subst (λ t. ReadEach origin after t more others ending) (turned entry entries before) next)))
  reads_then before (entry ∷ entries) more placed others ending (refused fault h e f) next = absurd cc

  -- entries of which one is refused, whatever follows them
  pub refused_before : (before entries more : List Entry) (placed : List Placed) (found : Fault × Place) → ReadEach origin None before entries placed (Some found) → ReadEach origin after before (entries ++ more) placed (Some found)
  refused_before before [] more placed found read = absurd (let no = read.1 in cc)
  refused_before before (entry ∷ entries) more placed found (stated (states_none n read)) = stated (states_none n (refused_before (entry ∷ before) entries more placed found read))
  refused_before before (entry ∷ entries) more placed found (stated (states_one p rest states place e read)) = stated (states_one p rest states place e (refused_before (entry ∷ before) entries more rest found read))
  refused_before before (entry ∷ entries) more placed found (refused fault h e f) = refused fault h e f

  -- the same entries, and what follows them
  pub reads_after : (before entries : List Entry) (placed : List Placed) → ReadEach origin None before entries placed None → ReadEach origin after before entries placed after
  reads_after before entries placed read = simp append-nil at (reads_then before entries [] placed [] after read (refl, refl))

-- ---- lines

pub numbered_then : (line : ℕ) (entries more : List (List Token)) → numbered line (entries ++ more) ≡ numbered line entries ++ numbered (line + line_feeds (flat_map text entries)) more
numbered_then line [] more = rw (add-zero) refl
numbered_then line (first ∷ entries) more = search (rules, add_assoc, sum_by-append, numbered_then (line + line_feeds (text first)) entries more)

-- ---- the tokens of octets, their ended entries, and the octets after these

-- octets are ended entries and the octets after them
pub record IsSplit (fed : List ℕ) (ended : List (List Token)) (unfinished : List ℕ) : Type 0 where
  pub whole : fed ≡ text (joined ended) ++ unfinished
  pub front : Cuts (text (joined ended)) (joined ended)
  pub stays : AreEnded zero ended

pub split : (fed : List ℕ) (tokens : List Token) (unfinished : List ℕ) → AreTokens fed tokens → fed ≡ flat_map text (cut_from zero tokens).ended ++ unfinished → IsSplit fed (cut_from zero tokens).ended unfinished
split fed tokens unfinished are rest = grind (arith, text_of_entries (cut_from zero tokens).ended, parted fed tokens are, cut_ended zero tokens)

-- other octets after them
module _ (fed more : List ℕ) (ended : List (List Token)) (unfinished : List ℕ) where
  longer : IsSplit fed ended unfinished → fed ++ more ≡ text (joined ended) ++ (unfinished ++ more)
  longer is = ap (λ t. t ++ more) is.whole ∙ append_assoc (text (joined ended)) unfinished more

  pub whole_after : IsSplit fed ended unfinished → fed ++ more ≡ flat_map text ended ++ (unfinished ++ more)
  whole_after is = longer is ∙ ap (λ t. t ++ (unfinished ++ more)) (sym (text_of_entries ended))

  pub cut_more : (tokens : List Token) → IsSplit fed ended unfinished → Cuts (unfinished ++ more) tokens → Cuts (fed ++ more) (joined ended ++ tokens)
  cut_more tokens is cut = search (rules, joined, longer, cut_joined)

  pub break_more : (tokens : List Token) (fault : Fault) → IsSplit fed ended unfinished → Breaks (unfinished ++ more) tokens fault → Breaks (fed ++ more) (joined ended ++ tokens) fault
  break_more tokens fault is breaks = grind (arith, joined, longer, break_joined)

  pub tokens_more : (tokens : List Token) → IsSplit fed ended unfinished → AreTokens (unfinished ++ more) tokens → AreTokens (fed ++ more) (joined ended ++ tokens)
  tokens_more tokens is given = grind (arith, cut_more, break_more)

  -- what breaks the octets after the ended entries, as the octets so far show, breaks all
  after_tokens : (tokens : List Token) (rest : List ℕ) → IsSplit fed ended unfinished → unfinished ++ more ≡ text tokens ++ rest → fed ++ more ≡ text (joined ended ++ tokens) ++ rest
  after_tokens tokens rest is e = grind (arith, common_steps)

  pub for_good_more : (tokens : List Token) (fault : Fault) → IsSplit fed ended unfinished → BreaksForGood (unfinished ++ more) tokens fault → BreaksForGood (fed ++ more) (joined ended ++ tokens) fault
  for_good_more tokens fault is good = search (rules, stays_for_good, joined, break_more, after_tokens)

-- and where nothing does yet, nothing does
pub none_cut : (octets : List ℕ) (tokens : List Token) → Cuts octets tokens → (fault : Fault) → BreaksForGood octets tokens fault → ⊥
none_cut octets tokens cut fault good = cut_not_broken octets tokens tokens fault cut good.breaks

pub none_more : (fed more : List ℕ) (ended : List (List Token)) (unfinished : List ℕ) (tokens : List Token) → IsSplit fed ended unfinished → AreTokens (unfinished ++ more) tokens → ((fault : Fault) → BreaksForGood (unfinished ++ more) tokens fault → ⊥) → (fault : Fault) → BreaksForGood (fed ++ more) (joined ended ++ tokens) fault → ⊥
none_more fed more ended unfinished tokens is (inl cut) none fault good = search (rules, none_cut, joined, cut_more)
none_more fed more ended unfinished tokens is (inr (first, breaks)) none fault good = elim (break_stays_or_ends (unfinished ++ more) tokens first breaks) [
  | inl stays ↦ none first (record { breaks = breaks; stays = stays })
  | inr ends ↦ search (rules, ends_not_for_good, joined, after_tokens)
]

-- ---- the entries of those tokens

-- no entry more
pub ended_as_before : (ended : List (List Token)) (more : List Token) → AreEnded zero ended → (cut_from zero more).ended ≡ [] → (cut_from zero (joined ended ++ more)).ended ≡ ended
ended_as_before ended more are none = search (rules, again_zero, append-nil)

-- one entry more
pub one_ended : (ended : List (List Token)) (entry : List Token) → AreEnded zero ended → cut_from zero entry ≡ record { ended = entry ∷ []; open_tokens = [] } → (cut_from zero (joined ended ++ entry)).ended ≡ ended ++ entry ∷ []
one_ended ended entry are one = search (rules, again_zero)

pub ruleset what_is_ended_stays = (ended_entries_stay, ended_entries_first)
