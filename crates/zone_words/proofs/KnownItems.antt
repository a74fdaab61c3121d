-- Where items that are known stand among the tokens of octets.
use Rattle.zone_words.proofs.Common.{AreTokensOf, BeginsBlank, Bool, DataItem, FollowsItem, FollowsItems, FrontIs, IsToken, Item, KeepsGap, List, PassesGap, RawItem, StandsAround, Token, Written, [], ap, append-nil, append_assoc, arith, before_item, blank, closing, comment, drop, drop-drop, drop_all, ends_item, escaped, false, filter, flat_map, flat_map-append, follow_after, from_item, get_or, given, is_blank, item_of, length, length-append, length-map, length-take, line_feed, map, map-append, map_push, opening, past_items, plain, raw, refl, shorter, stays, subst, suc, sym, take, take-append-drop, take-append_seam, text, token_text, touching_items, true, written_text, zero, ℕ, ◌&&◌, ◌++◌, ◌+◌, ◌-◌, ◌<◌, ◌==◌, ◌∙◌, ◌∷◌, ◌||◌, ◌≡◌, ◌≢◌, ◌≤◌}
use Rattle.std.proofs.Math.Seq.{drop-append_seam}
use Rattle.std.proofs.lemmas.Bool.{eq-eqb, ne_eqb}
use Rattle.std.proofs.lemmas.List.{drop_more}
use Rattle.zone_name.specs.Spelling.{decimal}
use Rattle.zone_rdata.proofs.Choices.{if_some_weaker}
use Rattle.zone_rdata.specs.Item as items
use Rattle.zone_text.specs.Tokens.{bare, quoted}
use Rattle.std.proofs.Common.{Bor}
use Rattle.std.specs.Prelude.{IfNone, IfSome, None, Option, Some}
use Rattle.type_data.specs.DataItem.{items_of}
use Rattle.zone_words.specs.Machine.KnownItems.{is_between}
use Rattle.zone_words.proofs.Turns.{items_behind}

-- ---- the first token

no_tokens : (octets : List ℕ) → 0 < length octets → AreTokensOf octets [] → ⊥
no_tokens octets some are = let none : length octets ≡ 0 = ap length are.whole in omega (arith, none, some)

nothing_left : (octets : List ℕ) (p : Token) (more : List Token) → length octets ≡ 0 → AreTokensOf octets (p ∷ more) → ⊥
nothing_left octets p more none are = omega (arith, shorter octets (text more) p are.each.0 are.whole, none)

between_ends : (a b d e x y : Bool) → (a || b || d || e) ≡ true → (a || b || x || d || e || y) ≡ true
between_ends true b d e x y is = refl
between_ends false true d e x y is = refl
between_ends false false d e true y is = refl
between_ends false false true e false y is = refl
between_ends false false false true false y is = refl
between_ends false false false false false y is = absurd cc

-- an octet that ends a bare item begins none
no_bare : (c d : ℕ) → c ≡ d → ends_item c ≡ true → ends_item d ≡ false → ⊥
no_bare c d same ends goes = let clash : true ≡ false = sym ends ∙ ap ends_item same ∙ goes in cc

first_same : (c d : ℕ) (after more : List ℕ) → c ∷ after ≡ d ∷ more → c ≡ d
first_same c d after more e = cc

after_one : (octets after : List ℕ) (c d : ℕ) (p : Token) (more : List Token) → octets ≡ c ∷ after → token_text p ≡ d ∷ [] → AreTokensOf octets (p ∷ more) → (c ≡ d) × AreTokensOf after more
after_one octets after c d p more first one are =
    let whole : c ∷ after ≡ d ∷ text more = sym first ∙ are.whole ∙ ap (λ t. t ++ text more) one in
    (cc, record { whole = cc; each = are.each.1; follow = follow_after p more are.follow })

-- the octet is a token
pub one_between : (octets after : List ℕ) (c : ℕ) → octets ≡ c ∷ after → is_between c ≡ true → FrontIs octets [] after
one_between octets after c first is (blank d) more are = (refl, (after_one octets after c d (blank d) more first refl are).1)
one_between octets after c first is opening more are = (refl, (after_one octets after c 40 opening more first refl are).1)
one_between octets after c first is closing more are = (refl, (after_one octets after c 41 closing more first refl are).1)
one_between octets after c first is line_feed more are = (refl, (after_one octets after c 10 line_feed more first refl are).1)
one_between octets after c first is (comment note) more are =
    let e = first_same c 59 after _ (sym first ∙ are.whole) in absurd (let clash : true ≡ false = sym is ∙ ap is_between e in cc)
one_between octets after c first is (quoted units) more are =
    let e = first_same c 34 after _ (sym first ∙ are.whole) in absurd (let clash : true ≡ false = sym is ∙ ap is_between e in cc)
one_between octets after c first is (bare []) more are = absurd (omega (arith, are.each.0.0))
one_between octets after c first is (bare (plain d ∷ units)) more are =
    let e = first_same c d after _ (sym first ∙ are.whole) in
    absurd (no_bare c d e (between_ends (is_blank c) (c == 10) (c == 40) (c == 41) (c == 34) (c == 59) is) are.each.0.1.0.0)
one_between octets after c first is (bare (escaped d ∷ units)) more are =
    let e = first_same c 92 after _ (sym first ∙ are.whole) in absurd (let clash : true ≡ false = sym is ∙ ap is_between e in cc)
one_between octets after c first is (bare (decimal x y z ∷ units)) more are =
    let e = first_same c 92 after _ (sym first ∙ are.whole) in absurd (let clash : true ≡ false = sym is ∙ ap is_between e in cc)

-- a comment is no item
no_item : (octets after : List ℕ) (p : Token) (more : List Token) → octets ≡ 59 ∷ after → AreTokensOf octets (p ∷ more) → [] ≡ item_of p
no_item octets after (bare []) more first are = absurd (omega (arith, are.each.0.0))
no_item octets after (bare (plain d ∷ units)) more first are = absurd (no_bare 59 d (first_same 59 d after _ (sym first ∙ are.whole)) refl are.each.0.1.0.0)
no_item octets after (bare (escaped d ∷ units)) more first are = absurd (let clash = first_same 59 92 after _ (sym first ∙ are.whole) in omega (arith, clash))
no_item octets after (bare (decimal x y z ∷ units)) more first are = absurd (let clash = first_same 59 92 after _ (sym first ∙ are.whole) in omega (arith, clash))
no_item octets after (quoted units) more first are = absurd (let clash = first_same 59 34 after _ (sym first ∙ are.whole) in omega (arith, clash))
no_item octets after (blank d) more first are = refl
no_item octets after opening more first are = refl
no_item octets after closing more first are = refl
no_item octets after line_feed more first are = refl
no_item octets after (comment note) more first are = refl

pub comment_between : (octets after left : List ℕ) (found : List RawItem) → octets ≡ 59 ∷ after → FrontIs octets found left → FrontIs octets [] left
comment_between octets after left found first front p more are = (no_item octets after p more first are, (front p more are).1)

-- another octet begins an item
pub item_first : (octets after : List ℕ) (c : ℕ) → octets ≡ c ∷ after → is_between c ≡ false → c ≢ 59 → (tokens : List Token) → AreTokensOf octets tokens → from_item tokens ≡ tokens
item_first octets after c first none other [] are = refl
item_first octets after c first none other (bare units ∷ more) are = refl
item_first octets after c first none other (quoted units ∷ more) are = refl
item_first octets after c first none other (blank d ∷ more) are =
    let e : c ≡ d = (after_one octets after c d (blank d) more first refl are).0 in
    absurd (let clash : false ≡ true = sym none ∙ ap (λ b. b || c == 10 || c == 40 || c == 41) (ap is_blank e ∙ are.each.0) in cc)
item_first octets after c first none other (opening ∷ more) are =
    absurd (let clash : false ≡ true = sym none ∙ ap is_between (after_one octets after c 40 opening more first refl are).0 in cc)
item_first octets after c first none other (closing ∷ more) are =
    absurd (let clash : false ≡ true = sym none ∙ ap is_between (after_one octets after c 41 closing more first refl are).0 in cc)
item_first octets after c first none other (line_feed ∷ more) are =
    absurd (let clash : false ≡ true = sym none ∙ ap is_between (after_one octets after c 10 line_feed more first refl are).0 in cc)
item_first octets after c first none other (comment note ∷ more) are =
    absurd (other (let e = first_same c 59 after _ (sym first ∙ are.whole) in e))

pub none_first : (octets : List ℕ) → length octets ≡ 0 → (tokens : List Token) → AreTokensOf octets tokens → from_item tokens ≡ tokens
none_first octets none [] are = refl
none_first octets none (p ∷ more) are = absurd (nothing_left octets p more none are)

pub comment_passed : (octets after : List ℕ) (result : Option (Bor (List ℕ))) → octets ≡ 59 ∷ after → IfSome result (λ rest. (more : List ℕ) → octets ≡ 59 ∷ more → FrontIs octets [] rest.now) → IfSome result (λ rest. FrontIs octets [] rest.now)
comment_passed octets after result first is = if_some_weaker result _ _ (λ rest front. front after first) is

pub comment_there : (octets after : List ℕ) (result : Option (Bor (List ℕ))) → octets ≡ 59 ∷ after → IfNone result (octets ≡ []) → IfNone result ((tokens : List Token) → AreTokensOf octets tokens → from_item tokens ≡ tokens)
comment_there octets after None first none = absurd (let clash : [] ≡ 59 ∷ after = sym none ∙ first in cc)
comment_there octets after (Some rest) first none = tt

-- ---- up to an item

from_past : (p : Token) (more : List Token) → [] ≡ item_of p → from_item more ≡ from_item (p ∷ more)
from_past (bare units) more none = absurd cc
from_past (quoted units) more none = absurd cc
from_past p more none = refl

before_past : (p : Token) (more : List Token) → [] ≡ item_of p → p ∷ before_item more ≡ before_item (p ∷ more)
before_past (bare units) more none = absurd cc
before_past (quoted units) more none = absurd cc
before_past p more none = refl

from_few : (tokens : List Token) → length (from_item tokens) ≤ length tokens
from_few [] = omega arith
from_few (bare units ∷ tokens) = omega arith
from_few (quoted units ∷ tokens) = omega arith
from_few (p ∷ tokens) = omega (arith, from_few tokens)

none_before : (tokens : List Token) → from_item tokens ≡ tokens → before_item tokens ≡ []
none_before [] same = refl
none_before (bare units ∷ tokens) same = refl
none_before (quoted units ∷ tokens) same = refl
none_before (p ∷ tokens) same = absurd (omega (arith, from_few tokens, ap length same))

-- some tokens before the next item were passed, and what of them stays came after other octets
pub record IsPassed (rest old new : List ℕ) (tokens : List Token) : Type 0 where
  pub more : List Token
  pub are : AreTokensOf rest more
  pub same : from_item more ≡ from_item tokens
  pub kept : new ++ text (filter stays (before_item more)) ≡ old ++ text (filter stays (before_item tokens))

abbrev pub PassesTo : List ℕ → List ℕ → List ℕ → List ℕ → Type 0
PassesTo octets rest old new = (tokens : List Token) → AreTokensOf octets tokens → IsPassed rest old new tokens

pub passed_none : (octets old : List ℕ) → PassesTo octets octets old old
passed_none octets old tokens are = record { more = tokens; are = are; same = refl; kept = refl }

passed_by : (rest left old new newer : List ℕ) (tokens : List Token) → length left < length rest → FrontIs rest [] left → ((p : Token) (more : List Token) → AreTokensOf rest (p ∷ more) → AreTokensOf left more → [] ≡ item_of p → newer ++ text (filter stays (before_item more)) ≡ new ++ text (filter stays (p ∷ before_item more))) → (at : IsPassed rest old new tokens) → (more : List Token) → at.more ≡ more → IsPassed left old newer tokens
passed_by rest left old new newer tokens less front step at [] e = absurd (no_tokens rest (omega (arith, less)) (subst (AreTokensOf rest) e at.are))
passed_by rest left old new newer tokens less front step at (p ∷ more) e =
    let are : AreTokensOf rest (p ∷ more) = subst (AreTokensOf rest) e at.are in
    let one = front p more are in
    record {
      more = more;
      are = one.1;
      same = from_past p more one.0 ∙ ap from_item (sym e) ∙ at.same;
      kept = step p more are one.1 one.0 ∙ ap (λ t. new ++ text (filter stays t)) (before_past p more one.0 ∙ ap before_item (sym e)) ∙ at.kept;
    }

-- a blank goes
blank_gone : (p : Token) (more : List Token) (rest left : List ℕ) → BeginsBlank rest true → [] ≡ item_of p → rest ≡ token_text p ++ left → filter stays more ≡ filter stays (p ∷ more)
blank_gone (blank d) more rest left begins none whole = refl
blank_gone opening more rest left begins none whole = absurd (let clash : true ≡ false = begins 40 left whole in cc)
blank_gone closing more rest left begins none whole = absurd (let clash : true ≡ false = begins 41 left whole in cc)
blank_gone line_feed more rest left begins none whole = absurd (let clash : true ≡ false = begins 10 left whole in cc)
blank_gone (comment octets) more rest left begins none whole = absurd (let clash : true ≡ false = begins 59 (octets ++ left) whole in cc)
blank_gone p more rest left begins none whole = absurd cc

pub passed_blank : (octets rest left old new : List ℕ) → length left < length rest → BeginsBlank rest true → FrontIs rest [] left → PassesTo octets rest old new → PassesTo octets left old new
passed_blank octets rest left old new less begins front passes tokens are =
    let at = passes tokens are in
    passed_by rest left old new new tokens less front (λ p more all left_are none. ap (λ t. new ++ text t) (blank_gone p (before_item more) rest (text more) begins none all.whole)) at at.more refl

-- another token stays
other_stays : (p : Token) (more : List Token) (rest left : List ℕ) → BeginsBlank rest false → IsToken p → [] ≡ item_of p → rest ≡ token_text p ++ left → p ∷ filter stays more ≡ filter stays (p ∷ more)
other_stays (blank d) more rest left begins is none whole = absurd (let clash : false ≡ true = begins d left whole ∙ is in cc)
other_stays opening more rest left begins is none whole = refl
other_stays closing more rest left begins is none whole = refl
other_stays line_feed more rest left begins is none whole = refl
other_stays (comment octets) more rest left begins is none whole = refl
other_stays p more rest left begins is none whole = absurd cc

token_pushed : (p : Token) (kept_more kept_all : List Token) (rest left taken new newer : List ℕ) → rest ≡ token_text p ++ left → taken ≡ take (length rest - length left) rest → newer ≡ new ++ taken → p ∷ kept_more ≡ kept_all → newer ++ text kept_more ≡ new ++ text kept_all
token_pushed p kept_more kept_all rest left taken new newer whole front pushed stay =
    let len : length rest ≡ length (token_text p) + length left = ap length whole ∙ length-append (token_text p) left in
    let few : length rest - length left ≡ length (token_text p) = omega (arith, len) in
    let is : taken ≡ token_text p = front ∙ ap (λ k. take k rest) few ∙ ap (λ t. take (length (token_text p)) t) whole ∙ take-append_seam (token_text p) left in
    ap (λ t. t ++ text kept_more) (pushed ∙ ap (λ t. new ++ t) is) ∙ append_assoc new (token_text p) (text kept_more) ∙ ap (λ t. new ++ text t) stay

pub passed_other : (octets rest left old new newer taken : List ℕ) → length left < length rest → BeginsBlank rest false → FrontIs rest [] left → taken ≡ take (length rest - length left) rest → newer ≡ new ++ taken → PassesTo octets rest old new → PassesTo octets left old newer
passed_other octets rest left old new newer taken less begins front taken_is pushed passes tokens are =
    let at = passes tokens are in
    passed_by rest left old new newer tokens less front
    (λ p more all left_are none. let whole : rest ≡ token_text p ++ left = all.whole ∙ ap (λ t. token_text p ++ t) (sym left_are.whole) in token_pushed p (filter stays (before_item more)) (filter stays (p ∷ before_item more)) rest left taken new newer whole taken_is pushed (other_stays p (before_item more) rest left begins all.each.0 none whole))
    at at.more refl

-- the next item is reached
pub gap_passed : (octets rest old new : List ℕ) → ((tokens : List Token) → AreTokensOf rest tokens → from_item tokens ≡ tokens) → PassesTo octets rest old new → PassesGap octets rest
gap_passed octets rest old new last passes tokens are =
    let at = passes tokens are in
    subst (AreTokensOf rest) (sym (last at.more at.are) ∙ at.same) at.are

pub gap_kept : (octets rest old new : List ℕ) → ((tokens : List Token) → AreTokensOf rest tokens → from_item tokens ≡ tokens) → PassesTo octets rest old new → KeepsGap octets old new
gap_kept octets rest old new last passes tokens are =
    let at = passes tokens are in
    sym (append-nil new) ∙ ap (λ t. new ++ text (filter stays t)) (sym (none_before at.more (last at.more at.are))) ∙ at.kept

-- ---- a gap of one blank

begins_blank : (octets rest : List ℕ) → octets ≡ 32 ∷ rest → BeginsBlank octets true
begins_blank octets rest first c after e = ap is_blank (first_same 32 c rest after (sym first ∙ e))

past_blank : (octets rest old : List ℕ) → octets ≡ 32 ∷ rest → PassesTo octets rest old old
past_blank octets rest old first = passed_blank octets octets rest old old (omega (arith, ap length first)) (begins_blank octets rest first) (one_between octets rest 32 first refl) (passed_none octets old)

pub one_blank_passed : (octets rest after : List ℕ) (c : ℕ) → octets ≡ 32 ∷ rest → rest ≡ c ∷ after → is_between c ≡ false → c ≢ 59 → PassesGap octets rest
one_blank_passed octets rest after c first next none other = gap_passed octets rest [] [] (item_first rest after c next none other) (past_blank octets rest [] first)

pub one_blank_kept : (octets rest after : List ℕ) (c : ℕ) → octets ≡ 32 ∷ rest → rest ≡ c ∷ after → is_between c ≡ false → c ≢ 59 → (old : List ℕ) → KeepsGap octets old old
one_blank_kept octets rest after c first next none other old = gap_kept octets rest old old (item_first rest after c next none other) (past_blank octets rest old first)

-- the same without what stays
pub record IsCome (rest : List ℕ) (tokens : List Token) : Type 0 where
  pub more : List Token
  pub are : AreTokensOf rest more
  pub same : from_item more ≡ from_item tokens

abbrev pub ComesTo : List ℕ → List ℕ → Type 0
ComesTo octets rest = (tokens : List Token) → AreTokensOf octets tokens → IsCome rest tokens

pub come_past : (octets rest left : List ℕ) → length left < length rest → FrontIs rest [] left → ComesTo octets rest → ComesTo octets left
come_past octets rest left less front comes tokens are = let at = comes tokens are in step at.more at.are at.same
  where
    step : (more : List Token) → AreTokensOf rest more → from_item more ≡ from_item tokens → IsCome left tokens
    step [] are_more same = absurd (no_tokens rest (omega (arith, less)) are_more)
    step (p ∷ more) are_more same = let one = front p more are_more in record { more = more; are = one.1; same = from_past p more one.0 ∙ same }

pub gap_come : (octets rest : List ℕ) → ((tokens : List Token) → AreTokensOf rest tokens → from_item tokens ≡ tokens) → ComesTo octets rest → PassesGap octets rest
gap_come octets rest last comes tokens are =
    let at = comes tokens are in
    subst (AreTokensOf rest) (sym (last at.more at.are) ∙ at.same) at.are

-- ---- past an item

pub bare_followed : (octets left item_text : List ℕ) → left ≡ drop (length item_text) octets → FollowsItem octets (items.bare item_text) left
bare_followed octets left item_text is (bare units) more are e =
    let same : written_text units ≡ item_text = cc e in
    record {
      whole = is ∙ ap (λ t. drop (length t) octets) (sym same) ∙ ap (drop (length (written_text units))) are.whole ∙ drop-append_seam (written_text units) (text more);
      each = are.each.1;
      follow = follow_after (bare units) more are.follow;
    }
bare_followed octets left item_text is p more are e = absurd cc

pub quoted_followed : (octets left item_text : List ℕ) → left ≡ drop 2 (drop (length item_text) octets) → FollowsItem octets (items.quoted item_text) left
quoted_followed octets left item_text is (quoted units) more are e =
    let same : written_text units ≡ item_text = cc e in
    let t : List ℕ = token_text (quoted units) in
    let len : length item_text + 2 ≡ length t = omega (arith, ap length same, length-append (written_text units) (34 ∷ [])) in
    record {
      whole = is ∙ drop-drop 2 (length item_text) octets ∙ ap (λ n. drop n octets) len ∙ ap (drop (length t)) are.whole ∙ drop-append_seam t (text more);
      each = are.each.1;
      follow = follow_after (quoted units) more are.follow;
    }
quoted_followed octets left item_text is p more are e = absurd cc

-- the first item of tokens
record HasItem (tokens : List Token) (item : RawItem) (others : List RawItem) : Type 0 where
  pub p : Token
  pub more : List Token
  pub from : from_item tokens ≡ p ∷ more
  pub is : item_of p ≡ item ∷ []
  pub others_are : flat_map item_of more ≡ others

has_item : (tokens : List Token) (item : RawItem) (others : List RawItem) → flat_map item_of tokens ≡ item ∷ others → HasItem tokens item others
has_item [] item others e = absurd cc
has_item (bare units ∷ more) item others e = record { p = bare units; more = more; from = refl; is = cc; others_are = cc }
has_item (quoted units ∷ more) item others e = record { p = quoted units; more = more; from = refl; is = cc; others_are = cc }
has_item (blank c ∷ more) item others e = let h = has_item more item others e in record { p = h.p; more = h.more; from = h.from; is = h.is; others_are = h.others_are }
has_item (opening ∷ more) item others e = let h = has_item more item others e in record { p = h.p; more = h.more; from = h.from; is = h.is; others_are = h.others_are }
has_item (closing ∷ more) item others e = let h = has_item more item others e in record { p = h.p; more = h.more; from = h.from; is = h.is; others_are = h.others_are }
has_item (line_feed ∷ more) item others e = let h = has_item more item others e in record { p = h.p; more = h.more; from = h.from; is = h.is; others_are = h.others_are }
has_item (comment note ∷ more) item others e = let h = has_item more item others e in record { p = h.p; more = h.more; from = h.from; is = h.is; others_are = h.others_are }

-- ---- past items

-- so many items were passed, and these are left
pub record IsPast (rest : List ℕ) (n : ℕ) (left others : List RawItem) (tokens : List Token) : Type 0 where
  pub are : AreTokensOf rest (past_items n tokens)
  pub left_are : flat_map item_of (past_items n tokens) ≡ left ++ others

abbrev pub PastTo : List ℕ → List RawItem → List ℕ → ℕ → List RawItem → Type 0
PastTo octets all rest n left =
    (tokens : List Token) (others : List RawItem) → AreTokensOf octets tokens → flat_map item_of tokens ≡ all ++ others → IsPast rest n left others tokens

one_past : (octets : List ℕ) (all : List RawItem) (rest ahead after : List ℕ) (n : ℕ) (item : RawItem) (left : List RawItem) → PassesGap rest ahead → FollowsItem ahead item after → PastTo octets all rest n (item ∷ left) → PastTo octets all after (suc n) left
one_past octets all rest ahead after n item left gap follows past tokens others are items_are =
    let at = past tokens others are items_are in
    let h = has_item (past_items n tokens) item (left ++ others) at.left_are in
    let there : drop 1 (from_item (past_items n tokens)) ≡ h.more = ap (drop 1) h.from in
    record {
      are = subst (AreTokensOf after) (sym there) (follows h.p h.more (subst (AreTokensOf ahead) h.from (gap (past_items n tokens) at.are)) h.is);
      left_are = ap (flat_map item_of) there ∙ h.others_are;
    }

pub next_past : (octets : List ℕ) (all : List Item) (rest ahead after : List ℕ) (n : ℕ) (d : Item) → n < length all → PassesGap rest ahead → FollowsItem ahead (raw (get_or all n d)) after → PastTo octets (map raw all) rest n (map raw (drop n all)) → PastTo octets (map raw all) after (n + 1) (map raw (drop (n + 1) all))
next_past octets all rest ahead after n d less gap follows past =
    let one : suc n ≡ n + 1 = omega arith in
    subst (λ k. PastTo octets (map raw all) after k (map raw (drop (n + 1) all))) one
    (one_past octets (map raw all) rest ahead after n (raw (get_or all n d)) (map raw (drop (n + 1) all)) gap follows
    (subst (λ t. PastTo octets (map raw all) rest n (map raw t)) (drop_more all n d less) past))

pub all_past : (octets : List ℕ) (all : List Item) (rest : List ℕ) (n : ℕ) → length all ≤ n → n ≤ length all → PastTo octets (map raw all) rest n (map raw (drop n all)) → FollowsItems octets (map raw all) rest
all_past octets all rest n least most past tokens others are items_are =
    let same : n ≡ length (map raw all) = (let l = length-map all raw in omega (arith, l, least, most)) in
    subst (λ k. AreTokensOf rest (past_items k tokens)) same (past tokens others are items_are).are

-- the first of them passed first
past_first : (n : ℕ) (tokens : List Token) → past_items (suc n) tokens ≡ past_items n (drop 1 (from_item tokens))
past_first zero tokens = refl
past_first (suc n) tokens = ap (λ t. drop 1 (from_item t)) (past_first n tokens)

past_none : (n : ℕ) (p : Token) (more : List Token) → item_of p ≡ [] → from_item (past_items n (p ∷ more)) ≡ from_item (past_items n more)
past_none zero p more none = sym (from_past p more (sym none))
past_none (suc n) p more none = ap (λ t. from_item (drop 1 t)) (past_none n p more none)

word_ahead : (n : ℕ) (front back : List Token) (units : List Written) → length (flat_map item_of front) ≡ n → from_item (past_items n (front ++ bare units ∷ back)) ≡ bare units ∷ back
word_ahead zero [] back units count = refl
word_ahead (suc n) [] back units count = absurd cc
word_ahead zero (bare others ∷ front) back units count = absurd (omega (arith, count))
word_ahead (suc n) (bare others ∷ front) back units count = ap from_item (past_first n (bare others ∷ front ++ bare units ∷ back)) ∙ word_ahead n front back units (omega (arith, count))
word_ahead zero (quoted others ∷ front) back units count = absurd (omega (arith, count))
word_ahead (suc n) (quoted others ∷ front) back units count = ap from_item (past_first n (quoted others ∷ front ++ bare units ∷ back)) ∙ word_ahead n front back units (omega (arith, count))
word_ahead n (blank c ∷ front) back units count = past_none n (blank c) (front ++ bare units ∷ back) refl ∙ word_ahead n front back units count
word_ahead n (opening ∷ front) back units count = past_none n opening (front ++ bare units ∷ back) refl ∙ word_ahead n front back units count
word_ahead n (closing ∷ front) back units count = past_none n closing (front ++ bare units ∷ back) refl ∙ word_ahead n front back units count
word_ahead n (line_feed ∷ front) back units count = past_none n line_feed (front ++ bare units ∷ back) refl ∙ word_ahead n front back units count
word_ahead n (comment note ∷ front) back units count = past_none n (comment note) (front ++ bare units ∷ back) refl ∙ word_ahead n front back units count

-- the item at a place of a list, and those before and after it
item_there : (front : List Token) (units : List Written) (back : List Token) (all : List RawItem) (n : ℕ) (before : List RawItem) (word : RawItem) (after : List RawItem) → flat_map item_of (front ++ bare units ∷ back) ≡ all → length (flat_map item_of front) ≡ n → all ≡ before ++ word ∷ after → length before ≡ n → word ≡ items.bare (written_text units)
item_there front units back all n before word after items_are count split len = same (flat_map item_of front) before (omega (arith, count, len)) (sym (flat_map-append item_of front (bare units ∷ back)) ∙ items_are ∙ split)
  where
    same : (xs ys : List RawItem) → length xs ≡ length ys → xs ++ items.bare (written_text units) ∷ flat_map item_of back ≡ ys ++ word ∷ after → word ≡ items.bare (written_text units)
    same [] [] lengths e = cc
    same [] (y ∷ ys) lengths e = absurd cc
    same (x ∷ xs) [] lengths e = absurd cc
    same (x ∷ xs) (y ∷ ys) lengths e = same xs ys (omega (arith, lengths)) (cc e)

around_by : (entry passed rest before_text left : List ℕ) (before : List RawItem) (word : RawItem) (after : List RawItem) (n : ℕ) → length before ≡ n → FollowsItems entry before passed → PassesGap passed rest → before_text ≡ take (length entry - length rest) entry → FollowsItem rest word left → StandsAround entry (before ++ word ∷ after) n before_text left
around_by entry passed rest before_text left before word after n len follow_items gap taken follows front back units are items_are count =
    let at : AreTokensOf passed (past_items n (front ++ bare units ∷ back)) = subst (λ k. AreTokensOf passed (past_items k (front ++ bare units ∷ back))) len (follow_items (front ++ bare units ∷ back) (word ∷ after) are items_are) in
    let there : AreTokensOf rest (bare units ∷ back) = subst (AreTokensOf rest) (word_ahead n front back units count) (gap (past_items n (front ++ bare units ∷ back)) at) in
    let word_is : word ≡ items.bare (written_text units) = item_there front units back (before ++ word ∷ after) n before word after items_are count refl len in
    let whole : entry ≡ text front ++ rest = are.whole ∙ flat_map-append token_text front (bare units ∷ back) ∙ ap (λ t. text front ++ t) (sym there.whole) in
    let few : length entry - length rest ≡ length (text front) = omega (arith, ap length whole, length-append (text front) rest) in
    (taken ∙ ap (λ k. take k entry) few ∙ ap (take (length (text front))) whole ∙ take-append_seam (text front) rest, (follows (bare units) back there (ap (λ i. i ∷ []) (sym word_is))).whole)

pub stands_around : (entry passed rest before_text left : List ℕ) (all : List Item) (n : ℕ) (d : Item) → n < length all → FollowsItems entry (map raw (take n all)) passed → PassesGap passed rest → before_text ≡ take (length entry - length rest) entry → FollowsItem rest (raw (get_or all n d)) left → StandsAround entry (map raw all) n before_text left
stands_around entry passed rest before_text left all n d less follow_items gap taken follows =
    let parts : map raw all ≡ map raw (take n all) ++ raw (get_or all n d) ∷ map raw (drop (n + 1) all) =
    ap (map raw) (sym (take-append-drop n all) ∙ ap (λ t. take n all ++ t) (drop_more all n d less)) ∙ map-append raw (take n all) (get_or all n d ∷ drop (n + 1) all) in
    subst (λ i. StandsAround entry i n before_text left) (sym parts)
    (around_by entry passed rest before_text left (map raw (take n all)) (raw (get_or all n d)) (map raw (drop (n + 1) all)) n (omega (arith, less, length-map (take n all) raw, length-take n all)) follow_items gap taken follows)

-- ---- the items of data

abbrev is_empty : List Token → Bool
is_empty [] = true
is_empty (p ∷ tokens) = false

and_true : (b : Bool) → b ≡ b && true
and_true true = refl
and_true false = refl

and_false : (b : Bool) → false ≡ b && false
and_false true = refl
and_false false = refl

-- the first item, with whether it directly follows another
touching_next : (b : Bool) (tokens : List Token) (p : Token) (more : List Token) (item : RawItem) → from_item tokens ≡ p ∷ more → item_of p ≡ item ∷ [] → touching_items b tokens ≡ record { item = item; touches = b && is_empty (before_item tokens) } ∷ touching_items true more
touching_next b [] p more item from is = absurd cc
touching_next b (bare units ∷ tokens) p more item from is =
    let q : bare units ≡ p = cc from in let m : tokens ≡ more = cc from in
    let i : items.bare (written_text units) ≡ item = cc (ap item_of q ∙ is) in
    ap (λ t. record { item = items.bare (written_text units); touches = b } ∷ touching_items true t) m ∙ ap (λ t. record { item = t; touches = b } ∷ touching_items true more) i ∙ ap (λ t. record { item = item; touches = t } ∷ touching_items true more) (and_true b)
touching_next b (quoted units ∷ tokens) p more item from is =
    let q : quoted units ≡ p = cc from in let m : tokens ≡ more = cc from in
    let i : items.quoted (written_text units) ≡ item = cc (ap item_of q ∙ is) in
    ap (λ t. record { item = items.quoted (written_text units); touches = b } ∷ touching_items true t) m ∙ ap (λ t. record { item = t; touches = b } ∷ touching_items true more) i ∙ ap (λ t. record { item = item; touches = t } ∷ touching_items true more) (and_true b)
touching_next b (blank c ∷ tokens) p more item from is = touching_next false tokens p more item from is ∙ ap (λ t. record { item = item; touches = t } ∷ touching_items true more) (and_false b)
touching_next b (opening ∷ tokens) p more item from is = touching_next false tokens p more item from is ∙ ap (λ t. record { item = item; touches = t } ∷ touching_items true more) (and_false b)
touching_next b (closing ∷ tokens) p more item from is = touching_next false tokens p more item from is ∙ ap (λ t. record { item = item; touches = t } ∷ touching_items true more) (and_false b)
touching_next b (line_feed ∷ tokens) p more item from is = touching_next false tokens p more item from is ∙ ap (λ t. record { item = item; touches = t } ∷ touching_items true more) (and_false b)
touching_next b (comment note ∷ tokens) p more item from is = touching_next false tokens p more item from is ∙ ap (λ t. record { item = item; touches = t } ∷ touching_items true more) (and_false b)

-- what stays of tokens is what stays before the first item and after it
stays_next : (tokens : List Token) (p : Token) (more : List Token) (item : RawItem) → from_item tokens ≡ p ∷ more → item_of p ≡ item ∷ [] → filter stays tokens ≡ filter stays (before_item tokens) ++ filter stays more
stays_next [] p more item from is = absurd cc
stays_next (bare units ∷ tokens) p more item from is = ap (filter stays) (let m : tokens ≡ more = cc from in m)
stays_next (quoted units ∷ tokens) p more item from is = ap (filter stays) (let m : tokens ≡ more = cc from in m)
stays_next (blank c ∷ tokens) p more item from is = stays_next tokens p more item from is
stays_next (opening ∷ tokens) p more item from is = ap (λ t. opening ∷ t) (stays_next tokens p more item from is)
stays_next (closing ∷ tokens) p more item from is = ap (λ t. closing ∷ t) (stays_next tokens p more item from is)
stays_next (line_feed ∷ tokens) p more item from is = ap (λ t. line_feed ∷ t) (stays_next tokens p more item from is)
stays_next (comment note ∷ tokens) p more item from is = ap (λ t. comment note ∷ t) (stays_next tokens p more item from is)

stays_last : (tokens : List Token) → flat_map item_of tokens ≡ [] → filter stays tokens ≡ filter stays (before_item tokens)
stays_last [] none = refl
stays_last (bare units ∷ tokens) none = absurd cc
stays_last (quoted units ∷ tokens) none = absurd cc
stays_last (blank c ∷ tokens) none = stays_last tokens none
stays_last (opening ∷ tokens) none = ap (λ t. opening ∷ t) (stays_last tokens none)
stays_last (closing ∷ tokens) none = ap (λ t. closing ∷ t) (stays_last tokens none)
stays_last (line_feed ∷ tokens) none = ap (λ t. line_feed ∷ t) (stays_last tokens none)
stays_last (comment note ∷ tokens) none = ap (λ t. comment note ∷ t) (stays_last tokens none)

-- octets before the item make the difference
gap_len : (rest ahead : List ℕ) (tokens : List Token) → AreTokensOf rest tokens → AreTokensOf ahead (from_item tokens) → (is : Bool) → length ahead == length rest ≡ is → is ≡ is_empty (before_item tokens)
gap_len rest ahead [] are from is e = sym e ∙ ap (λ n. n == length rest) (ap length from.whole ∙ sym (ap length are.whole)) ∙ eq-eqb (length rest) (length rest) refl
gap_len rest ahead (bare units ∷ tokens) are from is e = sym e ∙ ap (λ n. n == length rest) (ap length from.whole ∙ sym (ap length are.whole)) ∙ eq-eqb (length rest) (length rest) refl
gap_len rest ahead (quoted units ∷ tokens) are from is e = sym e ∙ ap (λ n. n == length rest) (ap length from.whole ∙ sym (ap length are.whole)) ∙ eq-eqb (length rest) (length rest) refl
gap_len rest ahead (p ∷ tokens) are from is e = sym e ∙ ne_eqb (length ahead) (length rest) (λ same. omega (arith, same, ap length from.whole, from_shorter tokens, shorter rest (text tokens) p are.each.0 are.whole))
  where
    from_shorter : (tokens : List Token) → length (text (from_item tokens)) ≤ length (text tokens)
    from_shorter [] = omega arith
    from_shorter (bare units ∷ tokens) = omega arith
    from_shorter (quoted units ∷ tokens) = omega arith
    from_shorter (p ∷ tokens) = omega (arith, from_shorter tokens, length-append (token_text p) (text tokens))

-- the items so far, those that are left, and what stays so far
pub record AreFound (rest : List ℕ) (left : List RawItem) (found : List DataItem) (staying : List ℕ) (all : List Token) : Type 0 where
  pub more : List Token
  pub are : AreTokensOf rest more
  pub left_are : flat_map item_of more ≡ left
  pub whole : map given found ++ touching_items true more ≡ touching_items true all
  pub kept : staying ++ text (filter stays more) ≡ text (filter stays all)

abbrev pub FindsTo : List ℕ → List RawItem → List ℕ → List RawItem → List DataItem → List ℕ → Type 0
FindsTo octets given_items rest left found staying =
    (all : List Token) → AreTokensOf octets all → given_items ≡ items_of (touching_items true all) → AreFound rest left found staying all

pub found_none : (octets : List ℕ) (given_items : List RawItem) (staying : List ℕ) → staying ≡ [] → FindsTo octets given_items octets given_items [] staying
found_none octets given_items staying none all are same = record {
  more = all;
  are = are;
  left_are = sym (same ∙ items_behind true all);
  whole = refl;
  kept = ap (λ t. t ++ text (filter stays all)) none;
}

found_by : (rest ahead after : List ℕ) (item : RawItem) (left : List RawItem) (found more_found : List DataItem) (d : DataItem) (staying more_staying : List ℕ) (all : List Token) → PassesGap rest ahead → KeepsGap rest staying more_staying → FollowsItem ahead item after → more_found ≡ found ++ d ∷ [] → raw d.item ≡ item → d.touches ≡ (length ahead == length rest) → (at : AreFound rest (item ∷ left) found staying all) → HasItem at.more item left → AreFound after left more_found more_staying all
found_by rest ahead after item left found more_found d staying more_staying all gap keeps follows pushed is touch at h =
    let from : AreTokensOf ahead (from_item at.more) = gap at.more at.are in
    let touches_is : d.touches ≡ is_empty (before_item at.more) = touch ∙ gap_len rest ahead at.more at.are from (length ahead == length rest) refl in
    let given_is : given d ≡ record { item = item; touches = is_empty (before_item at.more) } = ap (λ i. record { item = i; touches = d.touches }) is ∙ ap (λ t. record { item = item; touches = t }) touches_is in
    let next : touching_items true at.more ≡ record { item = item; touches = is_empty (before_item at.more) } ∷ touching_items true h.more = touching_next true at.more h.p h.more item h.from h.is in
    let stay : filter stays at.more ≡ filter stays (before_item at.more) ++ filter stays h.more = stays_next at.more h.p h.more item h.from h.is in
    record {
      more = h.more;
      are = follows h.p h.more (subst (AreTokensOf ahead) h.from from) h.is;
      left_are = h.others_are;
      whole =
          ap (λ t. map given t ++ touching_items true h.more) pushed
          ∙ ap (λ t. t ++ touching_items true h.more) (map_push given found d)
          ∙ append_assoc (map given found) (given d ∷ []) (touching_items true h.more)
          ∙ ap (λ g. map given found ++ g ∷ touching_items true h.more) given_is
          ∙ ap (λ t. map given found ++ t) (sym next)
          ∙ at.whole;
      kept =
          ap (λ t. t ++ text (filter stays h.more)) (keeps at.more at.are)
          ∙ append_assoc staying (text (filter stays (before_item at.more))) (text (filter stays h.more))
          ∙ ap (λ t. staying ++ t) (sym (flat_map-append token_text (filter stays (before_item at.more)) (filter stays h.more)) ∙ ap text (sym stay))
          ∙ at.kept;
    }

one_found : (octets : List ℕ) (given_items : List RawItem) (rest ahead after : List ℕ) (item : RawItem) (left : List RawItem) (found more_found : List DataItem) (d : DataItem) (staying more_staying : List ℕ) → PassesGap rest ahead → KeepsGap rest staying more_staying → FollowsItem ahead item after → more_found ≡ found ++ d ∷ [] → raw d.item ≡ item → d.touches ≡ (length ahead == length rest) → FindsTo octets given_items rest (item ∷ left) found staying → FindsTo octets given_items after left more_found more_staying
one_found octets given_items rest ahead after item left found more_found d staying more_staying gap keeps follows pushed is touch finds all are same =
    let at = finds all are same in
    found_by rest ahead after item left found more_found d staying more_staying all gap keeps follows pushed is touch at (has_item at.more item left at.left_are)

-- an item more
pub found_more : (octets : List ℕ) (given_items : List Item) (rest ahead after : List ℕ) (n : ℕ) (e : Item) (found more_found : List DataItem) (d : DataItem) (staying more_staying : List ℕ) → n < length given_items → PassesGap rest ahead → KeepsGap rest staying more_staying → FollowsItem ahead (raw (get_or given_items n e)) after → more_found ≡ found ++ d ∷ [] → d.item ≡ get_or given_items n e → d.touches ≡ (length ahead == length rest) → FindsTo octets (map raw given_items) rest (map raw (drop n given_items)) found staying → FindsTo octets (map raw given_items) after (map raw (drop (n + 1) given_items)) more_found more_staying
found_more octets given_items rest ahead after n e found more_found d staying more_staying less gap keeps follows pushed is touch finds =
    one_found octets (map raw given_items) rest ahead after (raw (get_or given_items n e)) (map raw (drop (n + 1) given_items)) found more_found d staying more_staying gap keeps follows pushed (ap raw is) touch
    (subst (λ t. FindsTo octets (map raw given_items) rest (map raw t) found staying) (drop_more given_items n e less) finds)

-- all of them
pub found_all : (octets : List ℕ) (given_items : List Item) (rest : List ℕ) (found : List DataItem) (staying : List ℕ) (n : ℕ) → length given_items ≤ n → FindsTo octets (map raw given_items) rest (map raw (drop n given_items)) found staying → (all : List Token) → AreTokensOf octets all → map raw given_items ≡ items_of (touching_items true all) → map given found ≡ touching_items true all
found_all octets given_items rest found staying n most finds all are same =
    let at = finds all are same in
    sym (append-nil (map given found)) ∙ ap (λ t. map given found ++ t) (sym (no_touching true at.more (at.left_are ∙ ap (map raw) (drop_all n given_items most)))) ∙ at.whole
  where
    no_touching : (b : Bool) (tokens : List Token) → flat_map item_of tokens ≡ [] → touching_items b tokens ≡ []
    no_touching b [] none = refl
    no_touching b (bare units ∷ tokens) none = absurd cc
    no_touching b (quoted units ∷ tokens) none = absurd cc
    no_touching b (p ∷ tokens) none = no_touching false tokens none

pub all_stays : (octets : List ℕ) (given_items : List Item) (rest : List ℕ) (found : List DataItem) (staying last : List ℕ) (n : ℕ) → length given_items ≤ n → FindsTo octets (map raw given_items) rest (map raw (drop n given_items)) found staying → KeepsGap rest staying last → (all : List Token) → AreTokensOf octets all → map raw given_items ≡ items_of (touching_items true all) → last ≡ text (filter stays all)
all_stays octets given_items rest found staying last n most finds keeps all are same =
    let at = finds all are same in
    keeps at.more at.are ∙ ap (λ t. staying ++ text t) (sym (stays_last at.more (at.left_are ∙ ap (map raw) (drop_all n given_items most)))) ∙ at.kept
