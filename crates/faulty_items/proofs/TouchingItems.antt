-- The items of an entry, token by token.
use Rattle.faulty_items.proofs.Common.{Bool, DataItem, Item, List, None, Option, Some, TouchingItem, [], ap, append-nil, append_assoc, arith, false, given, length, length-append, length-map, map, map-append, option_map, raw, refl, subst, sym, true, ℕ, ◌++◌, ◌+◌, ◌<◌, ◌∙◌, ◌∷◌, ◌≡◌, ◌≤◌}
use Rattle.std.specs.Prelude.{option_to_list}
use Rattle.zone_text.proofs.Tokens.Cuttings.{shorter}
use Rattle.zone_text.specs.Entries.{item_of}
use Rattle.zone_text.specs.Tokens.{AreTokensOf, Cuts, Token, bare, blank, closing, comment, line_feed, opening, quoted, text}
use Rattle.zone_words.specs.Entry.{most_items, touching_items}

-- some tokens were read, and these are their items
pub record HaveTouched (entry rest : List ℕ) (touches : Bool) (found : List DataItem) : Type 0 where
  pub leads : (tokens : List Token) → AreTokensOf entry tokens → (more : List Token) × AreTokensOf rest more × (touching_items false tokens ≡ map given found ++ touching_items touches more)

pub none_touched : (entry : List ℕ) (found : List DataItem) → found ≡ [] → HaveTouched entry entry false found
none_touched entry found none = record { leads = λ tokens are. (tokens, are, ap (λ l. map given l ++ touching_items false tokens) (sym none)) }

no_tokens : (rest : List ℕ) → 0 < length rest → AreTokensOf rest [] → ⊥
no_tokens rest some are = let none : length rest ≡ 0 = ap length are.whole in omega arith

nothing_touched : (p : Token) (more : List Token) (after : Bool) → [] ≡ item_of p → touching_items after (p ∷ more) ≡ touching_items false more
nothing_touched (blank c) more after is = refl
nothing_touched opening more after is = refl
nothing_touched closing more after is = refl
nothing_touched line_feed more after is = refl
nothing_touched (comment octets) more after is = refl
nothing_touched (bare units) more after is = absurd cc
nothing_touched (quoted units) more after is = absurd cc

one_touched : (p : Token) (more : List Token) (after : Bool) (item : Item) → raw item ∷ [] ≡ item_of p → touching_items after (p ∷ more) ≡ given (record { item = item; touches = after }) ∷ touching_items true more
one_touched (blank c) more after item is = absurd cc
one_touched opening more after item is = absurd cc
one_touched closing more after item is = absurd cc
one_touched line_feed more after item is = absurd cc
one_touched (comment octets) more after item is = absurd cc
one_touched (bare units) more after item is = grind arith
one_touched (quoted units) more after item is = grind arith

abbrev pub FindsToken : List ℕ → Option Item → List ℕ → Type 0
FindsToken rest item left = (p : Token) (more : List Token) → AreTokensOf rest (p ∷ more) → (option_to_list (option_map raw item) ≡ item_of p) × AreTokensOf left more

next_none : (rest left : List ℕ) (touches : Bool) (more : List Token) → 0 < length rest → FindsToken rest None left → AreTokensOf rest more → (others : List Token) × AreTokensOf left others × (touching_items touches more ≡ touching_items false others)
next_none rest left touches [] some finds are = absurd (no_tokens rest some are)
next_none rest left touches (p ∷ more) some finds are = let found = finds p more are in (more, found.1, nothing_touched p more touches found.0)

next_one : (rest left : List ℕ) (touches : Bool) (item : Item) (more : List Token) → 0 < length rest → FindsToken rest (Some item) left → AreTokensOf rest more → (others : List Token) × AreTokensOf left others × (touching_items touches more ≡ given (record { item = item; touches = touches }) ∷ touching_items true others)
next_one rest left touches item [] some finds are = absurd (no_tokens rest some are)
next_one rest left touches item (p ∷ more) some finds are = let found = finds p more are in (more, found.1, one_touched p more touches item found.0)

pub past_none : (entry rest left : List ℕ) (touches : Bool) (found : List DataItem) → length left < length rest → FindsToken rest None left → HaveTouched entry rest touches found → HaveTouched entry left false found
past_none entry rest left touches found fewer finds have = record {
  leads = λ tokens are.
      let here = have.leads tokens are in
      let next = next_none rest left touches here.0 (omega arith) finds here.1 in
      (next.0, next.1, here.2 ∙ ap (λ l. map given found ++ l) next.2);
}

pub past_one : (entry rest left : List ℕ) (touches : Bool) (item : Item) (found new : List DataItem) → length left < length rest → FindsToken rest (Some item) left → new ≡ found ++ record { item = item; touches = touches } ∷ [] → HaveTouched entry rest touches found → HaveTouched entry left true new
past_one entry rest left touches item found new fewer finds put have = record {
  leads = λ tokens are.
      let here = have.leads tokens are in
      let next = next_one rest left touches item here.0 (omega arith) finds here.1 in
      let last : List TouchingItem = given (record { item = item; touches = touches }) ∷ [] in (
        next.0,
        next.1,
        here.2 ∙ ap (λ l. map given found ++ l) next.2 ∙ sym (append_assoc (map given found) last (touching_items true next.0)) ∙ ap (λ l. l ++ touching_items true next.0) (sym (ap (map given) put ∙ map-append given found (record { item = item; touches = touches } ∷ []))),
      );
}

no_front : (rest : List ℕ) (p : Token) (more : List Token) → length rest ≡ 0 → AreTokensOf rest (p ∷ more) → ⊥
no_front rest p more none are = omega (arith, shorter rest (text more) p are.each.0 are.whole, none)

nothing_left : (rest : List ℕ) (more : List Token) → rest ≡ [] → AreTokensOf rest more → more ≡ []
nothing_left rest [] none are = refl
nothing_left rest (p ∷ more) none are = absurd (no_front rest p more (ap length none) are)

pub tokens_of : (octets : List ℕ) (tokens : List Token) → Cuts octets tokens → AreTokensOf octets tokens
tokens_of octets tokens cut = record { whole = cut.whole; each = cut.each; follow = cut.follow }

pub all_touched : (entry rest : List ℕ) (touches : Bool) (found : List DataItem) (tokens : List Token) → rest ≡ [] → HaveTouched entry rest touches found → Cuts entry tokens → map given found ≡ touching_items false tokens
all_touched entry rest touches found tokens none have cut =
    let here = have.leads tokens (tokens_of entry tokens cut) in
    sym (here.2 ∙ ap (λ l. map given found ++ touching_items touches l) (nothing_left rest here.0 none here.1) ∙ append-nil (map given found))

pub many_touched : (entry rest left : List ℕ) (touches : Bool) (item : Item) (found : List DataItem) (tokens : List Token) → length left < length rest → FindsToken rest (Some item) left → 65552 ≤ length found + 1 → HaveTouched entry rest touches found → Cuts entry tokens → most_items ≤ length (touching_items false tokens)
many_touched entry rest left touches item found tokens fewer finds many have cut =
    let here = have.leads tokens (tokens_of entry tokens cut) in
    let next = next_one rest left touches item here.0 (omega arith) finds here.1 in
    let size : length (touching_items false tokens) ≡ length (map given found ++ touching_items touches here.0) = ap length here.2 in
    let tail : length (touching_items touches here.0) ≡ length (touching_items true next.0) + 1 = ap length next.2 ∙ omega arith in
    omega (arith, length-append (map given found) (touching_items touches here.0), length-map found given)

pub ruleset touched = (none_touched, past_none, past_one, all_touched, many_touched)

pub finds_one : (rest : List ℕ) (found : Option Item) (item : Item) (left : List ℕ) → found ≡ Some item → FindsToken rest found left → FindsToken rest (Some item) left
finds_one rest found item left is finds = subst (λ f. FindsToken rest f left) is finds
