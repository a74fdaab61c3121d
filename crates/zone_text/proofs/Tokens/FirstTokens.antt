-- The first token of a text that is cut into tokens, and the items of those after it.
use Rattle.zone_text.proofs.Common.{AllByRecursion, AreKept, AreTokensOf, BadEscape, Bool, Cuts, Fault, IsBadEscape, IsToken, IsUnit, Keeps, KeepsItems, List, Option, RawItem, Sign, Some, Token, UnclosedQuote, Written, [], a_quote, a_semicolon, ap, append-nil, append_assoc, arith, at_backslash, at_end, bare, both_ways, cases_Bool, closing, comment, drop, drop-append_seam, ends_item, eqb-true, false, flat_map, front_of, inl, inr, is_blank, is_quote, item_of, length, length-append, no_escape, no_quote, no_quoted_escape, of_item, refl, rules, sign_of, stops, subst, sym, take, take-append-drop, take-append_seam, takes, text, token_text, true, written_text, ℕ, ◌++◌, ◌<◌, ◌==◌, ◌||◌, ◌∙◌, ◌∷◌, ◌≡◌}
use Rattle.std.proofs.Math.Logic.{⊎_elim}
use Rattle.zone_text.specs.Machine.Cutting as cutting
use Rattle.zone_text.proofs.Entries.Kept.{keeps_more}
use Rattle.zone_text.proofs.Scanning.Walking.{begin_self, settled_stops}
use Rattle.zone_text.proofs.Tokens.Cuttings.{HasRoom, IsSign, Stops, at_sign, broken_front, follow_after, front_takes, next_stops, sign_is, some_octet}
use Rattle.zone_text.proofs.Tokens.ForGood.{malformed_is_bad}
use Rattle.zone_text.proofs.Tokens.Lasting.{lost_escape}
use Rattle.zone_text.specs.Machine.Spans.{BeginsToken, EndsToken, IsItemOrComment, IsLostToken, IsOpenToken, IsTokenSpan, ItemIs, between, in_bare, in_bare_lost, in_comment, in_quotes, in_quotes_lost}
use Rattle.zone_text.specs.declared.token.Span.{Span}
use Rattle.zone_text.specs.declared.token.Span.TheVariants as spans

-- whatever tokens the octets are cut into, the first has these items, and the others are those of
-- the rest
abbrev pub TakesFirst : List ℕ → List ℕ → List RawItem → Type 0
TakesFirst octets left items = (p : Token) (more : List Token) → AreTokensOf octets (p ∷ more) → (items ≡ item_of p) × AreTokensOf left more

first_takes : (octets : List ℕ) (p : Token) (more : List Token) → AreTokensOf octets (p ∷ more) → front_of 1 octets ≡ takes p (text more)
first_takes octets p more are = search (rules, front_takes, at_end, next_stops)

in_front : (octets left : List ℕ) (items : List RawItem) (q : Token) → front_of 1 octets ≡ takes q left → items ≡ item_of q → TakesFirst octets left items
in_front octets left items q front stated p more are =
    let e : takes p (text more) ≡ takes q left = sym (first_takes octets p more are) ∙ front in
    let same : p ≡ q = cc in
    let rest : left ≡ text more = cc in
    (stated ∙ ap item_of (sym same), record { whole = rest; each = are.each.1; follow = follow_after p more are.follow })

none_in_front : (octets : List ℕ) (fault : Option Fault) → front_of 1 octets ≡ stops fault → (p : Token) (more : List Token) → AreTokensOf octets (p ∷ more) → ⊥
none_in_front octets fault front p more are = let e : takes p (text more) ≡ stops fault = sym (first_takes octets p more are) ∙ front in cc

room_one : (q : Token) → HasRoom 1 q
room_one closing = omega arith
room_one q = tt

-- ---- a token of one octet

abbrev pub is_between : ℕ → Bool
is_between c = is_blank c || c == 10 || c == 40 || c == 41

ends_too : (b f q l r n : Bool) → (b || f || l || r) ≡ true → (b || f || q || l || r || n) ≡ true
ends_too b f q l r n e = search rules

goes_on : (b f q l r n : Bool) → (b || f || l || r) ≡ false → q ≡ false → n ≡ false → (b || f || q || l || r || n) ≡ false
goes_on b f q l r n e unquoted unmarked = search rules

pub one_octet : (octets after : List ℕ) (c : ℕ) → octets ≡ c ∷ after → is_between c ≡ true → TakesFirst octets after []
one_octet octets after c whole is = by (sign_of c) (sign_is c) (at_sign 1 c after (sign_of c) refl)
  where
    ends_it : ends_item c ≡ true
    ends_it = ends_too (is_blank c) (c == 10) (c == 34) (c == 40) (c == 41) (c == 59) is

    other : (d : ℕ) → c ≡ d → is_between d ≡ false → ⊥
    other d same none = both_ways (is_between d) none (subst (λ e. is_between e ≡ true) same is)

    by : (sign : Sign) → IsSign c sign → front_of 1 (c ∷ after) ≡ cutting.front_by 1 c after sign → TakesFirst octets after []
    by a_quote sign e = absurd (other 34 sign refl)
    by a_semicolon sign e = absurd (other 59 sign refl)
    by of_item sign e = absurd (both_ways (ends_item c) sign ends_it)
    by sign sign_of_c e = in_front octets after [] _ (ap (front_of 1) whole ∙ e) refl

pub begins_token : (octets after : List ℕ) (c : ℕ) → octets ≡ c ∷ after → is_between c ≡ false → BeginsToken octets
begins_token octets after c whole other =
    subst BeginsToken (sym whole) (⊎_elim (λ q. inr (inl (eqb-true c 34 q))) (λ no_quote. ⊎_elim (λ n. inr (inr (eqb-true c 59 n))) (λ no_note. inl (goes_on (is_blank c) (c == 10) (c == 34) (c == 40) (c == 41) (c == 59) other no_quote no_note)) (cases_Bool (c == 59))) (cases_Bool (c == 34)))

-- ---- a longer token

pub whole_first : (octets token left : List ℕ) (n : ℕ) (items : List RawItem) → EndsToken octets n → token ≡ take n octets → left ≡ drop n octets → ItemIs token items → TakesFirst octets left items
whole_first octets token left n items ends front back item_is =
    let q : Token = ends.token in
    let token_at : token ≡ token_text q = front ∙ ap (λ k. take k octets) ends.len ∙ ap (take (length (token_text q))) ends.parts ∙ take-append_seam (token_text q) ends.left in
    let left_at : left ≡ ends.left = back ∙ ap (λ k. drop k octets) ends.len ∙ ap (drop (length (token_text q))) ends.parts ∙ drop-append_seam (token_text q) ends.left in
    let stop : Stops q ends.left = settled_stops q ends.left ends.left ends.settled (begin_self ends.left) in
    subst (λ t. TakesFirst octets t items) (sym left_at) (in_front octets ends.left items q (ap (front_of 1) ends.parts ∙ front_takes 1 q ends.left ends.is stop (room_one q)) (item_is q token_at ends.is ends.kind))

-- the octets are the token
all_first : (octets : List ℕ) (items : List RawItem) (q : Token) → octets ≡ token_text q → IsToken q → IsItemOrComment q → Stops q [] → ItemIs octets items → TakesFirst octets [] items
all_first octets items q whole is kind stop item_is = in_front octets [] items q (ap (front_of 1) (whole ∙ sym (append-nil (token_text q))) ∙ front_takes 1 q [] is stop (room_one q)) (item_is q whole is kind)

no_more : (rest : List ℕ) → IsBadEscape rest → (more : List Token) → AreTokensOf rest more → ⊥
no_more rest bad [] are = omega (arith, ap length are.whole, ap length bad.1)
no_more rest bad (p ∷ more) are = none_in_front rest (Some BadEscape) (broken_front 1 rest BadEscape (no_escape bad)) p more are

bare_bad : (octets : List ℕ) (units : List Written) (rest : List ℕ) → AllByRecursion (IsUnit ends_item) units → octets ≡ written_text units ++ rest → IsBadEscape rest → (p : Token) (more : List Token) → AreTokensOf octets (p ∷ more) → ⊥
bare_bad octets [] rest each whole bad p more are = no_more octets (subst IsBadEscape (sym whole) bad) (p ∷ more) are
bare_bad octets (w ∷ units) rest each whole bad p more are =
    no_more rest bad more (in_front octets rest (item_of (bare (w ∷ units))) (bare (w ∷ units)) (ap (front_of 1) whole ∙ front_takes 1 (bare (w ∷ units)) rest (omega arith, each) (at_backslash bad) tt) refl p more are).1

quoted_bad : (octets : List ℕ) (units : List Written) (rest : List ℕ) → AllByRecursion (IsUnit is_quote) units → octets ≡ 34 ∷ written_text units ++ rest → IsBadEscape rest → (p : Token) (more : List Token) → AreTokensOf octets (p ∷ more) → ⊥
quoted_bad octets units rest each whole bad = none_in_front octets (Some BadEscape) (broken_front 1 octets BadEscape (no_quoted_escape units rest each whole bad))

open_first : (octets : List ℕ) (n : ℕ) (items : List RawItem) → IsOpenToken octets n → 0 < length octets → ItemIs octets items → TakesFirst octets [] items
open_first octets n items (between none len) some item_is = absurd (omega (arith, some, ap length none))
open_first octets n items (in_comment note first each len) some item_is = all_first octets items (comment note) first each tt tt item_is
open_first octets n items (in_quotes inside k are first (inl none) len) some item_is = λ p more tokens. absurd (none_in_front octets (Some UnclosedQuote) (broken_front 1 octets UnclosedQuote (no_quote are.units are.each (first ∙ ap (λ t. 34 ∷ t) (are.whole ∙ ap (λ t. written_text are.units ++ t) none ∙ append-nil (written_text are.units))))) p more tokens)
open_first octets n items (in_quotes inside k are first (inr cut) len) some item_is = λ p more tokens. absurd (quoted_bad octets are.units are.rest are.each (first ∙ ap (λ t. 34 ∷ t) are.whole) (malformed_is_bad are.rest (inr cut)) p more tokens)
open_first octets n items (in_bare are (inr cut) one) some item_is = λ p more tokens. absurd (bare_bad octets are.units are.rest are.each are.whole (malformed_is_bad are.rest (inr cut)) p more tokens)
open_first octets n items (in_bare are (inl none) one) some item_is = by are.units are.each (are.whole ∙ ap (λ t. written_text are.units ++ t) none ∙ append-nil (written_text are.units))
  where
    by : (units : List Written) → AllByRecursion (IsUnit ends_item) units → octets ≡ written_text units → TakesFirst octets [] items
    by [] each whole = absurd (omega (arith, some, ap length whole))
    by (w ∷ units) each whole = all_first octets items (bare (w ∷ units)) whole (omega arith, each) tt (at_end refl) item_is

lost_first : (octets : List ℕ) (n : ℕ) → IsLostToken (take n octets) → (p : Token) (more : List Token) → AreTokensOf octets (p ∷ more) → ⊥
lost_first octets n (in_quotes_lost inside k are first lost) =
    quoted_bad octets are.units (are.rest ++ drop n octets) are.each (sym (take-append-drop n octets) ∙ ap (λ t. t ++ drop n octets) (first ∙ ap (λ t. 34 ∷ t) are.whole) ∙ ap (λ t. 34 ∷ t) (append_assoc (written_text are.units) are.rest (drop n octets))) (lost_escape are.rest (drop n octets) lost)
lost_first octets n (in_bare_lost k are lost) =
    bare_bad octets are.units (are.rest ++ drop n octets) are.each (sym (take-append-drop n octets) ∙ ap (λ t. t ++ drop n octets) are.whole ∙ append_assoc (written_text are.units) are.rest (drop n octets)) (lost_escape are.rest (drop n octets) lost)

pub first_to_end : (octets : List ℕ) (items : List RawItem) (span : Span) → IsTokenSpan octets span → ((n : ℕ) → span ≡ spans.Whole n → ⊥) → 0 < length octets → ItemIs octets items → TakesFirst octets [] items
first_to_end octets items (spans.Whole n) is other some item_is = absurd (other n refl)
first_to_end octets items (spans.Open n) is other some item_is = open_first octets n items is some item_is
first_to_end octets items (spans.Lost n) is other some item_is = λ p more tokens. absurd (lost_first octets n is.0 p more tokens)

-- ---- the items of the tokens that are left

-- the tokens that are left, and the items of those before them, of which these are kept
pub record IsLeft (rest : List ℕ) (kept : List RawItem) (tokens : List Token) : Type 0 where
  pub more : List Token
  pub are : AreTokensOf rest more
  pub so_far : List RawItem
  pub are_kept : AreKept so_far kept
  pub items : so_far ++ flat_map item_of more ≡ flat_map item_of tokens

abbrev pub LeavesItems : List ℕ → List ℕ → List RawItem → Type 0
LeavesItems entry rest kept = (tokens : List Token) → Cuts entry tokens → IsLeft rest kept tokens

left_by : (octets left : List ℕ) (new item : List RawItem) (tokens more : List Token) (so_far : List RawItem) → length left < length octets → TakesFirst octets left item → ((p : Token) → IsToken p → item ≡ item_of p → AreKept (so_far ++ item) new) → AreTokensOf octets more → so_far ++ flat_map item_of more ≡ flat_map item_of tokens → IsLeft left new tokens
left_by octets left new item tokens [] so_far shorter first keeps are items = absurd (omega (arith, shorter, ap length are.whole))
left_by octets left new item tokens (p ∷ more) so_far shorter first keeps are items =
    let found = first p more are in
    record {
      more = more;
      are = found.1;
      so_far = so_far ++ item;
      are_kept = keeps p are.each.0 found.0;
      items = append_assoc so_far item (flat_map item_of more) ∙ ap (λ t. so_far ++ (t ++ flat_map item_of more)) found.0 ∙ items;
    }

pub one_less : (entry octets left : List ℕ) (kept new : List RawItem) (item : RawItem) → length left < length octets → TakesFirst octets left (item ∷ []) → Keeps item kept new → LeavesItems entry octets kept → LeavesItems entry left new
one_less entry octets left kept new item shorter first keeps leaves tokens cuts =
    let before = leaves tokens cuts in
    left_by octets left new (item ∷ []) tokens before.more before.so_far shorter first (λ p is e. keeps_more p before.so_far kept new item is e before.are_kept keeps) before.are before.items

pub none_less : (entry octets left : List ℕ) (kept : List RawItem) → length left < length octets → TakesFirst octets left [] → LeavesItems entry octets kept → LeavesItems entry left kept
none_less entry octets left kept shorter first leaves tokens cuts =
    let before = leaves tokens cuts in
    left_by octets left kept [] tokens before.more before.so_far shorter first (λ p is e. subst (λ t. AreKept t kept) (sym (append-nil before.so_far)) before.are_kept) before.are before.items

-- where nothing is left, the items are all
pub all_taken : (entry rest : List ℕ) (kept : List RawItem) → rest ≡ [] → LeavesItems entry rest kept → KeepsItems entry kept
all_taken entry rest kept none leaves tokens cuts = by (leaves tokens cuts).more (leaves tokens cuts).are (leaves tokens cuts).items
  where
    by : (more : List Token) → AreTokensOf rest more → (leaves tokens cuts).so_far ++ flat_map item_of more ≡ flat_map item_of tokens → AreKept (flat_map item_of tokens) kept
    by [] are items = subst (λ t. AreKept t kept) (sym (append-nil (leaves tokens cuts).so_far) ∙ items) (leaves tokens cuts).are_kept
    by (p ∷ more) are items = absurd (omega (arith, ap length none, ap length are.whole, some_octet p are.each.0, length-append (token_text p) (text more)))
