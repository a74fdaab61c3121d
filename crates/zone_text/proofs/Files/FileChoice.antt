-- A file of octets has a reading, and something is decided of it.
use Rattle.zone_text.proofs.Common.{AllByRecursion, AllByRecursion-back, AllByRecursion-front, AllState, AreOctetItems, Choices, Cut, Ending, Entry, FileDecides, FileReads, IsName, Line, List, Lower, None, Placed, ReadEach, Some, Token, [], arith, broken, count_by, cut_from, decided, ended_entries, entries_of, flat_map, flat_map-append, inl, inr, item_of, numbered, open_line, refl, refused, rules, stated, states_none, states_one, subst, sym, text, undecided, whole, zero, ℕ, ◌+◌, ◌<◌, ◌==◌, ◌∷◌}
use Rattle.zone_text.proofs.Tokens.Cuttings.{cut_not_broken, cut_or_broken}
use Rattle.zone_text.proofs.Files.Left.{entries_text}
use Rattle.zone_text.proofs.Entries.EntryOutcome.{entry_outcome}
use Rattle.zone_text.proofs.Tokens.ForGood.{break_stays_or_ends, ends_not_for_good}

-- ---- the items of entries are octets

abbrev AreLow : List ℕ → Type 0
AreLow octets = AllByRecursion (λ c. c < 256) octets

low_items : (tokens : List Token) → AreLow (text tokens) → AreOctetItems (flat_map item_of tokens)
low_items [] low = tt
low_items (p ∷ tokens) low = grind (arith, AllByRecursion-front, AllByRecursion-back, low_items tokens)

abbrev AreLowEntries : List Entry → Type 0
AreLowEntries entries = AllByRecursion (λ (entry : Entry). AreOctetItems entry.items) entries

low_entries : (line : ℕ) (entries : List (List Token)) → AreLow (flat_map text entries) → AreLowEntries (numbered line entries)
low_entries line [] low = tt
low_entries line (tokens ∷ entries) low = (low_items tokens (AllByRecursion-front _ (text tokens) (flat_map text entries) low), low_entries (line + count_by (λ c. c == 10) (text tokens)) entries (AllByRecursion-back _ (text tokens) (flat_map text entries) low))

low_ended_of : (tokens : List Token) → AreLow (text tokens) → AreLowEntries (ended_entries tokens)
low_ended_of tokens low =
    let cut : Cut = cut_from zero tokens in
    low_entries 1 cut.ended (grind (arith, AllByRecursion-front, flat_map-append, subst AreLow (sym (entries_text tokens)) low))

-- ---- entries are read one after the other

abbrev Readings : List (List ℕ) → Ending → List Entry → List Entry → Type 0
Readings origin after before entries = (placed : List Placed) × ((ending : Ending) × ReadEach origin after before entries placed ending)

module _ (lower : Lower) (choices : Choices) (origin : List (List ℕ)) where
  readings : IsName origin → (after : Ending) (entries before : List Entry) → AllState origin before → AreLowEntries entries → Readings origin after before entries
  readings is after [] before states low = ([], (after, (refl, refl)))
  readings is after (entry ∷ entries) before states low = elim (entry_outcome lower choices origin before entry is states low.0) [
    | inl nothing ↦
        let rest = readings is after entries (entry ∷ before) (inl nothing, states) low.1 in
        (rest.0, (rest.1.0, stated (states_none nothing rest.1.1)))
    | inr (inl found) ↦
        let rest = readings is after entries (entry ∷ before) (inr found, states) low.1 in
        (record { rr = found.0; place = Line entry.line } ∷ rest.0, (rest.1.0, stated (states_one _ rest.0 found.1 refl refl rest.1.1)))
    | inr (inr bad) ↦ ([], (Some (bad.0, Line entry.line), refused bad.0 bad.1 refl refl))
  ]

  pub file_reads : (octets : List ℕ) → IsName origin → AllByRecursion (λ c. c < 256) octets → (placed : List Placed) × ((ending : Ending) × FileReads origin octets placed ending)
  file_reads octets is low = elim (cut_or_broken octets) [
    | inl cut ↦
        let found = readings is None (entries_of cut.0) [] tt (search (rules, low_entries, entries_text, subst AreLow cut.1.whole low)) in
        (found.0, (found.1.0, whole cut.0 cut.1 found.1.1))
    | inr bad ↦
        let found = readings is (Some (bad.1, Line (open_line bad.0))) (ended_entries bad.0) [] tt (low_ended_of bad.0 (AllByRecursion-front _ (text bad.0) bad.2.rest (subst AreLow bad.2.whole low))) in
        (found.0, (found.1.0, broken bad.0 bad.1 bad.2 found.1.1))
  ]

  -- ---- something is decided of a prefix

  pub file_is_decided : (octets : List ℕ) → IsName origin → AllByRecursion (λ c. c < 256) octets → (placed : List Placed) × ((ending : Ending) × FileDecides origin octets placed ending)
  file_is_decided octets is low = elim (cut_or_broken octets) [
    | inl cut ↦
        let found = readings is None (ended_entries cut.0) [] tt (low_ended_of cut.0 (subst AreLow cut.1.whole low)) in
        (found.0, (found.1.0, undecided cut.0 (inl cut.1) (λ fault good. cut_not_broken octets cut.0 cut.0 fault cut.1 good.breaks) found.1.1))
    | inr bad ↦
        let low_ended = low_ended_of bad.0 (AllByRecursion-front _ (text bad.0) bad.2.rest (subst AreLow bad.2.whole low)) in
        elim (break_stays_or_ends octets bad.0 bad.1 bad.2) [
          | inl stays ↦
              let found = readings is (Some (bad.1, Line (open_line bad.0))) (ended_entries bad.0) [] tt low_ended in
              (found.0, (found.1.0, decided bad.0 bad.1 (record { breaks = bad.2; stays = stays }) found.1.1))
          | inr ends ↦
              let found = readings is None (ended_entries bad.0) [] tt low_ended in
              (found.0, (found.1.0, undecided bad.0 (inr (bad.1, bad.2)) (ends_not_for_good octets bad.0 bad.2.rest bad.2.whole ends) found.1.1))
        ]
  ]
