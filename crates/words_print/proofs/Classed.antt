-- Whether octets are one record that states its class.
use Rattle.zone_text.proofs.Common.{AreKept, AreTokens, Cut, Cuts, Fault, IsFirstEntry, IsOneEntry, IsOpen, IsBrokenOff, List, RawItem, Statement, Token, [], ap, arith, class_word, cut_from, entry_of, flat_map, inl, inr, is_some, item_of, length, append-nil, slice_get, statement_by, statement_of, subst, sym, take, drop, false, true, take-append-drop, length-drop, zero, ℕ, ◌++◌, ◌<◌, ◌∙◌, ◌∷◌, ◌≡◌, ◌≤◌}
use Rattle.std.proofs.lemmas.Bool.{false≢true}
use Rattle.std.proofs.Math.Seq.{take-length}
use Rattle.zone_rdata.proofs.Items.LeftOut.{are_many}
use Rattle.zone_text.proofs.Tokens.Cuttings.{cut_not_broken, one_cut}
use Rattle.zone_text.proofs.Files.Left.{IsSplit, break_more, cut_more}
use Rattle.zone_text.proofs.Tokens.CutAgain.{AreEnded, again_zero, cut_ended, cut_whole, joined}
use Rattle.zone_text.proofs.Tokens.Cuttings.{cut_or_broken}
use Rattle.zone_text.specs.Tokens.{text}
use Rattle.words_print.specs.Machine.Found.{StatesInFew}
use Rattle.words_print.specs.Shown.{HasTooManyItems, StatesItsClass}

all_kept : (items kept : List RawItem) → length kept < 65552 → AreKept items kept → kept ≡ items
all_kept items kept few (inl same) = same
all_kept items kept few (inr short) = absurd (let many = are_many 65552 items kept short in omega (arith, few, many.1))

record OneRecord (octets : List ℕ) (form : Statement) : Type 0 where
  pub tokens : List Token
  pub one : IsOneEntry octets tokens
  pub form_is : form ≡ statement_of (entry_of 1 tokens)

one_record : (octets : List ℕ) (len : ℕ) (kept : List RawItem) (form : Statement) → IsFirstEntry octets len kept → len ≡ length octets → length kept < 65552 → form ≡ statement_by (slice_get octets 0) kept → OneRecord octets form
one_record octets len kept form first whole few is =
    let one : IsOneEntry octets first.tokens = subst (λ o. IsOneEntry o first.tokens) (ap (λ n. take n octets) whole ∙ take-length octets) first.one in
    record {
      tokens = first.tokens;
      one = one;
      form_is = is ∙ ap (statement_by (slice_get octets 0)) (all_kept (flat_map item_of first.tokens) kept few first.stated) ∙ ap (λ o. statement_by (slice_get o 0) (flat_map item_of first.tokens)) one.cut.whole;
    }

pub not_classed : (octets : List ℕ) (len : ℕ) (kept : List RawItem) (form : Statement) → IsFirstEntry octets len kept → len ≡ length octets → length kept < 65552 → form ≡ statement_by (slice_get octets 0) kept → is_some (class_word form) ≡ false → StatesItsClass octets → ⊥
not_classed octets len kept form first whole few is none states =
    let r = one_record octets len kept form first whole few is in
    let same : r.tokens ≡ states.tokens = one_cut octets r.tokens states.tokens r.one.cut states.one.cut in
    let form_is : form ≡ statement_of (entry_of 1 states.tokens) = r.form_is ∙ ap (λ t. statement_of (entry_of 1 t)) same in
    false≢true (sym none ∙ ap (λ f. is_some (class_word f)) form_is ∙ states.class)

some_ended : (octets : List ℕ) (tokens : List Token) → Cuts octets tokens → (cut_from zero tokens).ended ≡ [] → StatesItsClass octets → ⊥
some_ended octets tokens cut none states =
    let same : tokens ≡ states.tokens = one_cut octets tokens states.tokens cut states.one.cut in
    let bad : [] ≡ states.tokens ∷ [] = sym none ∙ ap (λ t. (cut_from zero t).ended) same ∙ ap (λ (c : Cut). c.ended) states.one.ended in
    cc bad

by_tokens : (octets : List ℕ) (tokens : List Token) → AreTokens octets tokens → (cut_from zero tokens).ended ≡ [] → StatesItsClass octets → ⊥
by_tokens octets tokens (inl cut) none states = some_ended octets tokens cut none states
by_tokens octets tokens (inr broken) none states = cut_not_broken octets states.tokens tokens broken.0 states.one.cut broken.1

pub open_not_classed : (octets : List ℕ) → IsOpen octets → StatesItsClass octets → ⊥
open_not_classed octets is states = by_tokens octets is.tokens is.are is.none states

pub broken_not_classed : (octets : List ℕ) (fault : Fault) → IsBrokenOff octets fault → StatesItsClass octets → ⊥
broken_not_classed octets fault is states = cut_not_broken octets states.tokens is.tokens fault states.one.cut is.breaks.breaks

pub classed : (octets : List ℕ) (len : ℕ) (kept : List RawItem) (form : Statement) → IsFirstEntry octets len kept → len ≡ length octets → length kept < 65552 → form ≡ statement_by (slice_get octets 0) kept → is_some (class_word form) ≡ true → StatesInFew octets
classed octets len kept form first whole few is some =
    let r = one_record octets len kept form first whole few is in
    record {
      states = record { tokens = r.tokens; one = r.one; class = ap (λ f. is_some (class_word f)) (sym r.form_is) ∙ some };
      few = few_items octets len kept first whole few;
    }
  where
    few_items : (octets : List ℕ) (len : ℕ) (kept : List RawItem) → IsFirstEntry octets len kept → len ≡ length octets → length kept < 65552 → HasTooManyItems octets → ⊥
    few_items octets len kept first whole few many =
        let cut : Cuts octets first.tokens = subst (λ o. Cuts o first.tokens) (ap (λ n. take n octets) whole ∙ take-length octets) first.one.cut in
        let same : many.tokens ≡ first.tokens = one_cut octets many.tokens first.tokens many.one.cut cut in
        let all : kept ≡ flat_map item_of first.tokens = all_kept (flat_map item_of first.tokens) kept few first.stated in
        let counted : length (flat_map item_of many.tokens) ≡ length kept = ap (λ t. length (flat_map item_of t)) same ∙ sym (ap length all) in
        let least = many.many in
        omega (arith, counted, least, few)

many_items : (items kept : List RawItem) → 65552 ≤ length kept → AreKept items kept → 65552 ≤ length items
many_items items kept many (inl same) = omega (arith, many, ap length same)
many_items items kept many (inr short) = (are_many 65552 items kept short).0

pub too_many_items : (octets : List ℕ) (len : ℕ) (kept : List RawItem) → IsFirstEntry octets len kept → len ≡ length octets → 65552 ≤ length kept → HasTooManyItems octets
too_many_items octets len kept first whole many = record {
  tokens = first.tokens;
  one = subst (λ o. IsOneEntry o first.tokens) (ap (λ n. take n octets) whole ∙ take-length octets) first.one;
  many = many_items (flat_map item_of first.tokens) kept many first.stated;
}

-- ---- octets behind an entry

one_split : (part : List ℕ) (tokens : List Token) → IsOneEntry part tokens → IsSplit part (tokens ∷ []) []
one_split part tokens one = record {
  whole = one.cut.whole ∙ ap text (sym (append-nil tokens)) ∙ sym (append-nil (text (joined (tokens ∷ []))));
  front = subst (λ t. Cuts (text t) t) (sym (append-nil tokens)) (subst (λ o. Cuts o tokens) one.cut.whole one.cut);
  stays = subst (AreEnded zero) (ap (λ (c : Cut). c.ended) one.ended) (cut_ended zero tokens);
}

nothing_more : (tokens s more : List Token) → AreEnded zero (tokens ∷ []) → joined (tokens ∷ []) ++ more ≡ s → cut_from zero s ≡ record { ended = s ∷ []; open_tokens = [] } → more ≡ []
nothing_more tokens s more stays same one =
    let cut = again_zero (tokens ∷ []) more stays in
    let all : cut_from zero (joined (tokens ∷ []) ++ more) ≡ record { ended = s ∷ []; open_tokens = [] } = ap (cut_from zero) same ∙ one in
    let ended : tokens ∷ (cut_from zero more).ended ≡ s ∷ [] = ap (λ (c : Cut). c.ended) (sym cut ∙ all) in
    let open_none : (cut_from zero more).open_tokens ≡ [] = ap (λ (c : Cut). c.open_tokens) (sym cut ∙ all) in
    let none : (cut_from zero more).ended ≡ [] = cc ended in
    sym (cut_whole zero more) ∙ ap (λ t. t ++ (cut_from zero more).open_tokens) (ap joined none) ∙ open_none

nothing_behind : (part rest : List ℕ) (tokens s : List Token) → IsOneEntry part tokens → IsOneEntry (part ++ rest) s → rest ≡ []
nothing_behind part rest tokens s one all = elim (cut_or_broken rest) [
  | inl cut ↦ cut.1.whole ∙ ap text (nothing_more tokens s cut.0 (one_split part tokens one).stays
      (one_cut (part ++ rest) (joined (tokens ∷ []) ++ cut.0) s (cut_more part rest (tokens ∷ []) [] cut.0 (one_split part tokens one) cut.1) all.cut) all.ended)
  | inr breaks ↦ absurd (cut_not_broken (part ++ rest) s (joined (tokens ∷ []) ++ breaks.0) breaks.1 all.cut (break_more part rest (tokens ∷ []) [] breaks.0 breaks.1 (one_split part tokens one) breaks.2))
]

pub more_behind : (octets : List ℕ) (len : ℕ) (kept : List RawItem) → IsFirstEntry octets len kept → (len ≡ length octets → ⊥) → StatesItsClass octets → ⊥
more_behind octets len kept first more states =
    let none : drop len octets ≡ [] = nothing_behind (take len octets) (drop len octets) first.tokens states.tokens first.one (subst (λ o. IsOneEntry o states.tokens) (sym (take-append-drop len octets)) states.one) in
    let within = first.within in
    more (omega (arith, within, sym (length-drop len octets) ∙ ap length none))
