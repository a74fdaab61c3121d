-- Every text of octets has a rewriting.
use Rattle.zone_name.specs.Name.{IsCasedName}
use Rattle.zone_rdata.proofs.Choices.{Choice, Decided}
use Rattle.zone_text.proofs.Tokens.CutAgain.{joined}
use Rattle.zone_text.specs.Outcome.{AreOctetItems}
use Rattle.zone_text.specs.Tokens as tokens
use Rattle.zone_words.proofs.Common.{AllByRecursion-back, AllByRecursion-front, Anew, AreOctets, AreOnOneLine, BecomesUnder, Breaks, Cuts, EachBecomes, Entry, Fault, FurtherType, IsCasedOrigin, IsFurtherRecord, IsFurtherUnder, IsGeneric, IsMnemonic, IsRefused, IsRewriting, Labels, LineFeedWithinQuotes, List, Outcome, RawItem, Refused, SaysAnew, Token, TooManyItems, TouchingItem, Written, [], and_last, anew, ap, append_assoc, arith, blank, broken, by_mnemonic, cases_lt, closing, codes, comment, count_by, cut_from, cut_or_broken, cut_whole, entries_text, entry_of, flat_map, flat_map-append, further_names, in_generic_form, inl, inr, item_of, item_text, kept, length, line_feed, most_items, no_data, on_more_lines, opening, refl, refusal, refused, renamed, subst, sym, text, text_of_entries, token_text, told_of, too_many, touching_items, true, written, written_of, written_text, zero, ℕ, ◌++◌, ◌+◌, ◌<◌, ◌==◌, ◌∙◌, ◌∷◌, ◌≡◌, ◌≤◌, ◌⊎◌}
use Rattle.zone_words.proofs.DecidedEntries.{AreLowEntries, OriginChoice, RecordChoice, on_one_line_or_not, origin_or_not, record_or_not}
use Rattle.type_data.proofs.Decided.Fields.{DataOrFault, data_decided}
use Rattle.type_data.proofs.FurtherWords.{further_ascend, further_number_once}
use Rattle.zone_words.proofs.Turns.{IsSplit, fails_in_words, fails_under, items_behind, record_once, says_under, split_there}
use Rattle.type_data.specs.Data.{in_order}
use Rattle.type_data.specs.DataItem.{items_of}
use Rattle.zone_words.specs.Entry.{in_words}
use Rattle.zone_words.specs.Rewriting.{whole}
use Rattle.type_data.specs.Table.{fields_in}
use Rattle.zone_words.specs.Written.{in_octets}
use Rattle.zone_rdata.proofs.Words.OneWord.{mnemonic_or_not}
use Rattle.zone_rdata.proofs.Items.ItemLaws.{marked_or_not}

-- ---- the items of tokens of octets are octets

written_low : (octets more : List ℕ) → AreOctets (octets ++ more) → AreOctets octets
written_low octets more low = AllByRecursion-front (λ c. c < 256) octets more low

low_item : (p : Token) → AreOctets (token_text p) → AreOctetItems (item_of p)
low_item (tokens.bare units) low = (low, tt)
low_item (tokens.quoted units) low = (written_low (written_text units) (34 ∷ []) low.1, tt)
low_item (blank c) low = tt
low_item opening low = tt
low_item closing low = tt
low_item line_feed low = tt
low_item (comment octets) low = tt

low_after : (p : Token) (items : List RawItem) → AreOctetItems (item_of p) → AreOctetItems items → AreOctetItems (item_of p ++ items)
low_after (tokens.bare units) items own low = (own.0, low)
low_after (tokens.quoted units) items own low = (own.0, low)
low_after (blank c) items own low = low
low_after opening items own low = low
low_after closing items own low = low
low_after line_feed items own low = low
low_after (comment octets) items own low = low

low_items : (all_tokens : List Token) → AreOctets (text all_tokens) → AreOctetItems (flat_map item_of all_tokens)
low_items [] low = tt
low_items (p ∷ more) low =
    low_after p (flat_map item_of more) (low_item p (AllByRecursion-front (λ c. c < 256) (token_text p) (text more) low)) (low_items more (AllByRecursion-back (λ c. c < 256) (token_text p) (text more) low))

-- those after the type's word
low_behind : (all_tokens front back : List Token) (units : List Written) → all_tokens ≡ front ++ tokens.bare units ∷ back → AreOctetItems (flat_map item_of all_tokens) → AreOctetItems (items_of (touching_items true back))
low_behind all_tokens front back units split low =
    let parted : AreOctetItems (flat_map item_of front ++ flat_map item_of (tokens.bare units ∷ back)) = subst AreOctetItems (ap (flat_map item_of) split ∙ flat_map-append item_of front (tokens.bare units ∷ back)) low in
    let behind : AreOctetItems (flat_map item_of (tokens.bare units ∷ back)) = AllByRecursion-back (λ item. AreOctets (item_text item)) (flat_map item_of front) (flat_map item_of (tokens.bare units ∷ back)) parted in
    subst AreOctetItems (sym (items_behind true back)) behind.1

-- ---- an entry has an outcome

module _ (origin : Labels) (before : List Entry) (line : ℕ) (all_tokens : List Token) where
  abbrev pub HasOutcome : Type 0
  HasOutcome = (outcome : Outcome) × BecomesUnder origin before line all_tokens outcome

  abbrev SaysNothing : Type 0
  SaysNothing = (word : List ℕ) (d : List TouchingItem) (it : Anew) → SaysAnew origin before (entry_of line all_tokens) word d it → ⊥

  abbrev IsFaultless : Type 0
  IsFaultless = (word : List ℕ) (d : List TouchingItem) (it : Refused) → IsRefused origin before (entry_of line all_tokens) word d it → ⊥

  stay : SaysNothing → IsFaultless → HasOutcome
  stay nothing faultless = (
    record { written = all_tokens; told = [] },
    kept (λ front back it say. nothing (written_text say.word) (touching_items true back) it say.says)
        (λ it fail. faultless (written_text fail.word) (touching_items true fail.back) it fail.fails) refl,
  )

  no_record : ((word : List ℕ) (items : List RawItem) (further : FurtherType) → IsFurtherRecord before (entry_of line all_tokens) word items further → ⊥) → HasOutcome
  no_record none = stay
      (λ word d it says. let u = says_under origin before (entry_of line all_tokens) word d it says in none word (items_of d) u.further u.is.stated)
      (λ word d it fails. let u = fails_under origin before (entry_of line all_tokens) word d it fails in none word (items_of d) u.further u.is.stated)

  no_origin : ((name : Labels) → IsCasedOrigin origin before name → ⊥) → HasOutcome
  no_origin none = stay
      (λ word d it says. let u = says_under origin before (entry_of line all_tokens) word d it says in none u.above u.is.under)
      (λ word d it fails. let u = fails_under origin before (entry_of line all_tokens) word d it fails in none u.above u.is.under)

  -- a record, its type's word and the items after it
  module _ (front back : List Token) (units : List Written) (split : all_tokens ≡ front ++ tokens.bare units ∷ back) (further : FurtherType) (above : Labels) (under : IsFurtherUnder origin before (entry_of line all_tokens) (written_text units) (items_of (touching_items true back)) further above) where
    abbrev Says : Anew → Type 0
    Says it = SaysAnew origin before (entry_of line all_tokens) (written_text units) (touching_items true back) it

    say : (it : Anew) → Says it → HasOutcome
    say it says = (record { written = front ++ written it back; told = [] }, anew front back it (record { word = units; split = split; says = says }) refl)

    refuse : (it : Refused) → IsRefused origin before (entry_of line all_tokens) (written_text units) (touching_items true back) it → HasOutcome
    refuse it fails = (record { written = all_tokens; told = it ∷ [] }, refused it (record { front = front; back = back; word = units; split = split; fails = fails }) refl)

    -- the generic form, of which nothing is to be written anew
    form_says_nothing : IsGeneric (items_of (touching_items true back)) → (length (entry_of line all_tokens).items < most_items → AreOnOneLine (items_of (touching_items true back)) → IsMnemonic further_names (written_text units) further.number → ⊥) → SaysNothing
    form_says_nothing generic none word d it (in_generic_form f over is few one_line form mnemonic) =
        let same = record_once before (entry_of line all_tokens) word (written_text units) (items_of d) (items_of (touching_items true back)) f further is.stated under.stated in
        none few (subst AreOnOneLine same.same_items one_line)
        (subst (λ (x : FurtherType). IsMnemonic further_names (written_text units) x.number) same.same_further (subst (λ w. IsMnemonic further_names w f.number) same.same_word mnemonic))
    form_says_nothing generic none word d it (in_words f over octets is few one_line words states) =
        let same = record_once before (entry_of line all_tokens) word (written_text units) (items_of d) (items_of (touching_items true back)) f further is.stated under.stated in
        words (subst IsGeneric (sym same.same_items) generic)

    form_is_faultless : IsGeneric (items_of (touching_items true back)) → IsFaultless
    form_is_faultless generic word d it fails =
        let u = fails_under origin before (entry_of line all_tokens) word d it fails in
        let same = record_once before (entry_of line all_tokens) word (written_text units) (items_of d) (items_of (touching_items true back)) u.further further u.is.stated under.stated in
        fails_in_words origin before (entry_of line all_tokens) word d it fails (subst IsGeneric (sym same.same_items) generic)

    stay_in_form : IsGeneric (items_of (touching_items true back)) → (length (entry_of line all_tokens).items < most_items → AreOnOneLine (items_of (touching_items true back)) → IsMnemonic further_names (written_text units) further.number → ⊥) → HasOutcome
    stay_in_form generic none = stay (form_says_nothing generic none) (form_is_faultless generic)

    own_mnemonic : Choice (IsMnemonic further_names (written_text units)) → Decided (IsMnemonic further_names (written_text units) further.number)
    own_mnemonic (inr none) = inr (none further.number)
    own_mnemonic (inl found) = inl (subst (IsMnemonic further_names (written_text units)) (further_number_once (written_text units) found.0 further.number (by_mnemonic found.1) under.stated.named.named) found.1)

    in_form : IsGeneric (items_of (touching_items true back)) → (most_items ≤ length (entry_of line all_tokens).items) ⊎ (length (entry_of line all_tokens).items < most_items) → Decided (AreOnOneLine (items_of (touching_items true back))) → Decided (IsMnemonic further_names (written_text units) further.number) → HasOutcome
    in_form generic (inl many) lines named = stay_in_form generic (λ few one_line mnemonic. omega (arith, few, many))
    in_form generic (inr few) (inr lines) named = stay_in_form generic (λ few one_line mnemonic. lines one_line)
    in_form generic (inr few) (inl one_line) (inr other) = stay_in_form generic (λ few one_line mnemonic. other mnemonic)
    in_form generic (inr few) (inl one_line) (inl mnemonic) = say (renamed further.number) (in_generic_form further above under few one_line generic mnemonic)

    by_data : (IsGeneric (items_of (touching_items true back)) → ⊥) → length (entry_of line all_tokens).items < most_items → AreOnOneLine (items_of (touching_items true back)) → DataOrFault above (fields_in further.fields (touching_items true back)) (in_order further.fields) (touching_items true back) → HasOutcome
    by_data words few one_line (inl found) = say (in_octets further.number found.0) (in_words further above found.0 under few one_line words found.1)
    by_data words few one_line (inr bad) = refuse (refusal (entry_of line all_tokens) further bad.0 bad.1) (no_data further above bad.0 bad.1 under words few one_line bad.2)

    in_own_words : (IsGeneric (items_of (touching_items true back)) → ⊥) → IsCasedName above → AreOctetItems (items_of (touching_items true back)) → (most_items ≤ length (entry_of line all_tokens).items) ⊎ (length (entry_of line all_tokens).items < most_items) → Decided (AreOnOneLine (items_of (touching_items true back))) → HasOutcome
    in_own_words words is low (inl many) lines = refuse (refusal (entry_of line all_tokens) further (codes "data") TooManyItems) (too_many further above under words many)
    in_own_words words is low (inr few) (inr lines) = refuse (refusal (entry_of line all_tokens) further (codes "data") LineFeedWithinQuotes) (on_more_lines further above under words few lines)
    in_own_words words is low (inr few) (inl one_line) = by_data words few one_line (data_decided above (fields_in further.fields (touching_items true back)) (in_order further.fields) (touching_items true back) is low)

    many_or_few : (length (entry_of line all_tokens).items < most_items) ⊎ (most_items ≤ length (entry_of line all_tokens).items) → (most_items ≤ length (entry_of line all_tokens).items) ⊎ (length (entry_of line all_tokens).items < most_items)
    many_or_few (inl few) = inr few
    many_or_few (inr many) = inl many

    by_form : IsCasedName above → AreOctetItems (items_of (touching_items true back)) → Decided (IsGeneric (items_of (touching_items true back))) → HasOutcome
    by_form is low (inl generic) = in_form generic (many_or_few (cases_lt (length (entry_of line all_tokens).items) most_items)) (on_one_line_or_not (items_of (touching_items true back))) (own_mnemonic (mnemonic_or_not further_names further_ascend (written_text units)))
    by_form is low (inr words) = in_own_words words is low (many_or_few (cases_lt (length (entry_of line all_tokens).items) most_items)) (on_one_line_or_not (items_of (touching_items true back)))

  split_record : (word : List ℕ) (items : List RawItem) (further : FurtherType) (above : Labels) → IsFurtherRecord before (entry_of line all_tokens) word items further → IsCasedOrigin origin before above → IsCasedName above → AreOctetItems (flat_map item_of all_tokens) → IsSplit all_tokens word items → HasOutcome
  split_record word items further above is under name low at =
      let there : IsFurtherRecord before (entry_of line all_tokens) (written_text at.units) (items_of (touching_items true at.back)) further = subst (λ w. IsFurtherRecord before (entry_of line all_tokens) w (items_of (touching_items true at.back)) further) at.is (subst (λ i. IsFurtherRecord before (entry_of line all_tokens) word i further) at.items is) in
      by_form at.front at.back at.units at.whole further above (record { stated = there; under = under }) name (low_behind all_tokens at.front at.back at.units at.whole low) (marked_or_not (items_of (touching_items true at.back)))

  by_origin : (word : List ℕ) (items : List RawItem) (further : FurtherType) → IsFurtherRecord before (entry_of line all_tokens) word items further → AreOctetItems (flat_map item_of all_tokens) → OriginChoice (IsCasedOrigin origin before) → HasOutcome
  by_origin word items further is low (inr none) = no_origin none
  by_origin word items further is low (inl found) = split_record word items further found.0 is found.1.0 found.1.1 low (split_there before line all_tokens word items further is)

  by_record : IsCasedName origin → AreLowEntries before → AreOctetItems (flat_map item_of all_tokens) → RecordChoice before (entry_of line all_tokens) → HasOutcome
  by_record name all_low low (inr none) = no_record none
  by_record name all_low low (inl found) = by_origin found.0 found.1 found.2 found.3 low (origin_or_not origin name before all_low)

  pub entry_becomes : IsCasedName origin → AreLowEntries before → AreOctets (text all_tokens) → HasOutcome
  entry_becomes name all_low low = by_record name all_low (low_items all_tokens low) (record_or_not before (entry_of line all_tokens))

-- ---- entry for entry

abbrev Becomings : Labels → List Entry → ℕ → List (List Token) → Type 0
Becomings origin before line entries = (outcomes : List Outcome) × EachBecomes (BecomesUnder origin) before line entries outcomes

each_becomes : (origin : Labels) → IsCasedName origin → (before : List Entry) (line : ℕ) (entries : List (List Token)) → AreLowEntries before → AreOctets (flat_map text entries) → Becomings origin before line entries
each_becomes origin name before line [] all_low low = ([], tt)
each_becomes origin name before line (entry ∷ entries) all_low low =
    let own : AreOctets (text entry) = AllByRecursion-front (λ c. c < 256) (text entry) (flat_map text entries) low in
    let first = entry_becomes origin before line entry name all_low own in
    let more = each_becomes origin name (entry_of line entry ∷ before) (line + count_by (λ c. c == 10) (text entry)) entries (low_items entry own, all_low) (AllByRecursion-back (λ c. c < 256) (text entry) (flat_map text entries) low) in
    (first.0 ∷ more.0, (first.1, more.1))

-- ---- a file

abbrev Rewritings : Labels → List ℕ → Type 0
Rewritings origin octets = (new : List ℕ) × (told : List Refused) × IsRewriting origin octets new told

whole_rewriting : (origin : Labels) (octets : List ℕ) (all_tokens : List Token) → IsCasedName origin → AreOctets octets → Cuts octets all_tokens → Rewritings origin octets
whole_rewriting origin octets all_tokens name low cut =
    let each = each_becomes origin name [] 1 (and_last (cut_from zero all_tokens).ended (cut_from zero all_tokens).open_tokens) tt (subst AreOctets (cut.whole ∙ sym (entries_text all_tokens)) low) in
    (written_of each.0, told_of each.0, whole all_tokens each.0 cut each.1 refl refl)

broken_rewriting : (origin : Labels) (octets : List ℕ) (all_tokens : List Token) (fault : Fault) → IsCasedName origin → AreOctets octets → Breaks octets all_tokens fault → Rewritings origin octets
broken_rewriting origin octets all_tokens fault name low breaks =
    let ended : List (List Token) = (cut_from zero all_tokens).ended in
    let open_tokens : List Token = (cut_from zero all_tokens).open_tokens in
    let rest : List ℕ = text open_tokens ++ breaks.rest in
    let parted : octets ≡ flat_map text ended ++ rest =
    breaks.whole ∙ ap (λ t. text t ++ breaks.rest) (sym (cut_whole zero all_tokens)) ∙ ap (λ t. t ++ breaks.rest) (flat_map-append token_text (joined ended) open_tokens ∙ ap (λ t. t ++ text open_tokens) (sym (text_of_entries ended)))
    ∙ append_assoc (flat_map text ended) (text open_tokens) breaks.rest in
    let each = each_becomes origin name [] 1 ended tt (AllByRecursion-front (λ c. c < 256) (flat_map text ended) rest (subst AreOctets parted low)) in
    (written_of each.0 ++ rest, told_of each.0, broken all_tokens fault each.0 rest breaks each.1 parted refl refl)

pub has_rewriting : (origin : Labels) (octets : List ℕ) → IsCasedName origin → AreOctets octets → Rewritings origin octets
has_rewriting origin octets name low = elim (cut_or_broken octets) [
  | inl cut ↦ whole_rewriting origin octets cut.0 name low cut.1
  | inr breaks ↦ broken_rewriting origin octets breaks.0 breaks.1 name low breaks.2
]
