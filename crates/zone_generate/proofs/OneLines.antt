-- Octets that are one entry of one line.
use Rattle.zone_text.proofs.Common.{AreTokens, Cut, Cuts, EndInLineFeed, Fault, IsBrokenOff, IsFirstEntry, IsOneEntry, IsOpen, List, RawItem, Token, [], ap, append-nil, append_assoc, arith, cases_eq, count_by, cut_from, drop, inl, inr, length, length-append, line_feed, refl, rules, subst, sum_by-append, sym, take, take-append-drop, take-length, text, token_text, zero, ℕ, ◌++◌, ◌+◌, ◌<◌, ◌==◌, ◌∙◌, ◌∷◌, ◌≡◌, ◌≤◌, ◌⊎◌}
use Rattle.std.proofs.Common.{◌≢◌, false}
use Rattle.std.proofs.lemmas.Bool.Decides.{nat_tests}
use Rattle.std.specs.Prelude.{IsTrue, nat_eq}
use Rattle.std.proofs.lemmas.List.{take-append-le}
use Rattle.zone_text.proofs.Tokens.CutAgain.{AreEnded, cut_ended, cut_whole, joined}
use Rattle.zone_text.proofs.Tokens.Cuttings.{cut_not_broken, cut_or_broken, one_cut}
use Rattle.zone_generate.specs.Lines.{IsOneLine}

abbrev feeds : List ℕ → ℕ
feeds octets = count_by (λ c. c == 10) octets

feeds_of_both : (xs ys : List ℕ) → feeds (xs ++ ys) ≡ feeds xs + feeds ys
feeds_of_both xs ys = sum_by-append _ xs ys

-- ---- an entry ends in its line feed

ends_after : (p q : Token) (tokens : List Token) → EndInLineFeed (p ∷ q ∷ tokens) → EndInLineFeed (q ∷ tokens)
ends_after p q tokens ends = search rules

ends_in_feed : (tokens : List Token) → EndInLineFeed tokens → 0 < length tokens → (front : List ℕ) × (text tokens ≡ front ++ 10 ∷ [])
ends_in_feed [] ends some = absurd (omega arith)
ends_in_feed (line_feed ∷ []) ends some = ([], refl)
ends_in_feed (p ∷ []) ends some = absurd ends
ends_in_feed (p ∷ q ∷ tokens) ends some =
    let more = ends_in_feed (q ∷ tokens) (ends_after p q tokens ends) (omega arith) in
    (token_text p ++ more.0, ap (λ t. token_text p ++ t) more.1 ∙ sym (append_assoc (token_text p) more.0 (10 ∷ [])))

entry_ends : (octets : List ℕ) (tokens : List Token) → IsOneEntry octets tokens → (front : List ℕ) × (octets ≡ front ++ 10 ∷ [])
entry_ends octets tokens one =
    let are : AreEnded zero (tokens ∷ []) = subst (AreEnded zero) (ap (λ (c : Cut). c.ended) one.ended) (cut_ended zero tokens) in
    let ends : EndInLineFeed tokens = subst EndInLineFeed (append-nil tokens) are.ends in
    let found = ends_in_feed tokens ends are.each.0 in
    (found.0, one.cut.whole ∙ found.1)

-- ---- an entry with the only line feed is all octets

shorter : (octets : List ℕ) (n : ℕ) (kept : List RawItem) → IsFirstEntry octets n kept → n < length octets → IsOneLine octets → ⊥
shorter octets n kept first less line =
    let part = entry_ends (take n octets) first.tokens first.one in
    let whole = entry_ends octets line.tokens line.one in
    let count : length octets ≡ length whole.0 + 1 = ap length whole.1 ∙ length-append whole.0 (10 ∷ []) in
    let within : n ≤ length whole.0 = omega arith in
    let front : take n octets ≡ take n whole.0 = ap (take n) whole.1 ∙ take-append-le n whole.0 (10 ∷ []) within in
    let all : feeds octets ≡ feeds whole.0 + 1 = ap feeds whole.1 ∙ feeds_of_both whole.0 (10 ∷ []) in
    let some : feeds (take n octets) ≡ feeds part.0 + 1 = ap feeds part.1 ∙ feeds_of_both part.0 (10 ∷ []) in
    let parted : feeds whole.0 ≡ feeds (take n whole.0) + feeds (drop n whole.0) = ap feeds (sym (take-append-drop n whole.0)) ∙ feeds_of_both (take n whole.0) (drop n whole.0) in
    let same : feeds (take n octets) ≡ feeds (take n whole.0) = ap feeds front in
    let one = line.feeds in
    omega (arith, one, all, some, parted, same)

pub whole_line : (octets : List ℕ) (n : ℕ) (kept : List RawItem) → IsFirstEntry octets n kept → n ≡ length octets → feeds octets ≡ 1 → IsOneLine octets
whole_line octets n kept first whole one = record {
  tokens = first.tokens;
  one = subst (λ o. IsOneEntry o first.tokens) (ap (λ k. take k octets) whole ∙ take-length octets) first.one;
  feeds = one;
}

pub part_of_line : (octets : List ℕ) (n : ℕ) (kept : List RawItem) → IsFirstEntry octets n kept → n ≢ length octets → IsOneLine octets → ⊥
part_of_line octets n kept first other line =
    let within = first.within in
    shorter octets n kept first (omega arith) line

-- ---- what is open or broken is no entry

none_ended : (octets : List ℕ) (tokens : List Token) → Cuts octets tokens → (cut_from zero tokens).ended ≡ [] → IsOneLine octets → ⊥
none_ended octets tokens cut none line =
    let same : tokens ≡ line.tokens = one_cut octets tokens line.tokens cut line.one.cut in
    let bad : [] ≡ line.tokens ∷ [] = sym none ∙ ap (λ t. (cut_from zero t).ended) same ∙ ap (λ (c : Cut). c.ended) line.one.ended in
    cc bad

by_tokens : (octets : List ℕ) (tokens : List Token) → AreTokens octets tokens → (cut_from zero tokens).ended ≡ [] → IsOneLine octets → ⊥
by_tokens octets tokens (inl cut) none line = none_ended octets tokens cut none line
by_tokens octets tokens (inr broken) none line = cut_not_broken octets line.tokens tokens broken.0 line.one.cut broken.1

pub open_line : (octets : List ℕ) → IsOpen octets → IsOneLine octets → ⊥
open_line octets is line = by_tokens octets is.tokens is.are is.none line

pub broken_line : (octets : List ℕ) (fault : Fault) → IsBrokenOff octets fault → IsOneLine octets → ⊥
broken_line octets fault is line = cut_not_broken octets line.tokens is.tokens fault line.one.cut is.breaks.breaks

-- ---- octets are one line or not

other_tokens : (octets : List ℕ) (tokens : List Token) → Cuts octets tokens → (cut_from zero tokens ≡ record { ended = tokens ∷ []; open_tokens = [] } → ⊥) → IsOneLine octets → ⊥
other_tokens octets tokens cut other line =
    let same : line.tokens ≡ tokens = one_cut octets line.tokens tokens line.one.cut cut in
    other (subst (λ t. cut_from zero t ≡ record { ended = t ∷ []; open_tokens = [] }) same line.one.ended)

one_of_cut : (tokens : List Token) (cut : Cut) → cut_from zero tokens ≡ cut → (cut_from zero tokens ≡ record { ended = tokens ∷ []; open_tokens = [] }) ⊎ (cut_from zero tokens ≡ record { ended = tokens ∷ []; open_tokens = [] } → ⊥)
one_of_cut tokens cut is = by_parts cut.ended cut.open_tokens (is)
  where
    by_parts : (ended : List (List Token)) (open_tokens : List Token) → cut_from zero tokens ≡ record { ended = ended; open_tokens = open_tokens } → (cut_from zero tokens ≡ record { ended = tokens ∷ []; open_tokens = [] }) ⊎ (cut_from zero tokens ≡ record { ended = tokens ∷ []; open_tokens = [] } → ⊥)
    by_parts [] open_tokens e = inr (λ one. let bad : [] ≡ tokens ∷ [] = ap (λ (c : Cut). c.ended) (sym e ∙ one) in cc bad)
    by_parts (entry ∷ []) [] e =
        let whole : joined (entry ∷ []) ++ [] ≡ tokens = subst (λ (c : Cut). joined c.ended ++ c.open_tokens ≡ tokens) e (cut_whole zero tokens) in
        let same : entry ≡ tokens = sym (append-nil entry) ∙ sym (append-nil (joined (entry ∷ []))) ∙ whole in
        inl (e ∙ ap (λ t. record { ended = t ∷ []; open_tokens = [] }) same)
    by_parts (entry ∷ []) (p ∷ more) e = inr (λ one. let bad : p ∷ more ≡ [] = ap (λ (c : Cut). c.open_tokens) (sym e ∙ one) in cc bad)
    by_parts (entry ∷ next ∷ ended) open_tokens e = inr (λ one. let bad : entry ∷ next ∷ ended ≡ tokens ∷ [] = ap (λ (c : Cut). c.ended) (sym e ∙ one) in cc bad)

pub one_line_or_not : (octets : List ℕ) → IsOneLine octets ⊎ (IsOneLine octets → ⊥)
one_line_or_not octets = elim (cut_or_broken octets) [
  | inl cut ↦ elim (one_of_cut cut.0 (cut_from zero cut.0) refl) [
    | inl one ↦ elim (cases_eq (feeds octets) 1) [
      | inl feeds ↦ inl (record { tokens = cut.0; one = record { cut = cut.1; ended = one }; feeds = feeds })
      | inr feeds ↦ inr (λ line. feeds line.feeds)
    ]
    | inr other ↦ inr (other_tokens octets cut.0 cut.1 other)
  ]
  | inr breaks ↦ inr (λ line. cut_not_broken octets line.tokens breaks.0 breaks.1 line.one.cut breaks.2)
]

-- whether the first entry is all octets
pub whole_or_part : (octets : List ℕ) (n : ℕ) (kept : List RawItem) → IsFirstEntry octets n kept → feeds octets ≡ 1 → (IsTrue (nat_eq n (length octets)) → IsOneLine octets) × (IsOneLine octets → IsTrue (nat_eq n (length octets)))
whole_or_part octets n kept first one = (
  λ same. whole_line octets n kept first (let e : n ≡ length octets = grind (arith, nat_tests) in e) one,
  λ line. elim (cases_eq n (length octets)) [
    | inl same ↦ (let e : IsTrue (nat_eq n (length octets)) = grind (arith, nat_tests) in e)
    | inr other ↦ absurd (part_of_line octets n kept first other line)
  ],
)

-- octets that are none
pub no_line : (octets : List ℕ) → (IsOneLine octets → ⊥) → (IsTrue false → IsOneLine octets) × (IsOneLine octets → IsTrue false)
no_line octets none = (λ is. absurd (let e : ⊥ = grind arith in e), λ line. absurd (none line))
