-- A walk over an entry, token by token, which may stop where octets end.
use Rattle.zone_text.proofs.Common.{All, AllByRecursion, AreKept, BadEscape, Bool, BreaksAtEnd, Cut, Cuts, EndsAt, Fault, IsBadEscape, IsBroken, IsBrokenOff, IsCutOff, IsFirstEntry, IsLostEscape, IsOpen, IsToken, IsUnit, Keeps, KeepsBare, List, MayEndBefore, None, Option, RawItem, Some, StaysBroken, Token, UnbalancedParenthesis, UnclosedQuote, Written, [], ap, append-nil, append_assoc, arith, at_end, at_line_end, at_octet, bare, blank, both_ways, closes_nothing, closing, closing_stays, comment, common_steps, cut_from, depth_after, depth_past, drop, drop-append_seam, drop-drop, ends_item, escape_open, escape_stays, false, flat_map, flat_map-append, in_front_of, inl, inr, is_blank, is_quote, item_of, length, length-append, length-drop, length-map, length-take, line_feed, map, ne_eqb, no_escape, no_quote, no_quoted_escape, not_closed, nothing_left, one_digit, opening, or_parts, plain, quote_open, quoted, quoted_escape_open, quoted_escape_stays, recursion_from_All, refl, stops_bare, subst, suc, sum_by-cons, sym, take, take-append-drop, take-append_seam, text, token_text, too_great, true, two_digits, written_text, zero, ℕ, ⊤, ◌++◌, ◌+◌, ◌-◌, ◌<◌, ◌==◌, ◌∙◌, ◌∷◌, ◌≡◌, ◌≢◌, ◌≤◌}
use Rattle.std.specs.List.{prefix_len}
use Rattle.zone_rdata.specs.Item as raw
use Rattle.zone_text.proofs.Entries.Kept.{keeps_more}
use Rattle.zone_text.proofs.Files.Left.{line_feeds}
use Rattle.zone_text.proofs.Scanning.StopMarks.{goes_on, prefix_stops}
use Rattle.zone_text.proofs.Tokens.Cuttings.{HasRoom, Stops, Takes, begins, breaks, cuts, depth_on, no_token, one_token_more, some_octet}
use Rattle.zone_text.proofs.Tokens.ForGood.{ends_not_for_good, malformed_is_bad, stays_for_good}
use Rattle.zone_text.proofs.Tokens.WrittenItems.{each_plain, ends_but_mark}
use Rattle.zone_text.proofs.Scanning.FirstEntries.{feeds_of_both, none_first, none_in, other_than_ten}
pub use Rattle.zone_text.specs.Machine.Spans.{AreUnits, BeginsToken, EndsToken, IsItemOrComment, IsLostToken, IsOpenToken, IsSeen, ItemIs, RunsOut, Settles, between, in_bare, in_bare_lost, in_comment, in_quotes, in_quotes_lost}
use Rattle.zone_text.specs.Machine.Stops.{Tells}
pub use Rattle.zone_text.specs.Machine.Walk.{BeginAs, EndsEntry, IsBegun, IsCut, IsPast, KeepsAll, KeepsToken, StandsAt, StandsOpen, Walked, fronted}
use Rattle.zone_text.specs.declared.stops.Stops.{Stops as StopBits}
use Rattle.zone_text.specs.declared.walk.At.{At}
use Rattle.zone_text.specs.declared.walk.Between.{Between}
use Rattle.zone_name.proofs.Texts.Bare.{plain_text}

-- ---- what follows a token

pub begin_self : (rest : List ℕ) → BeginAs rest rest
begin_self [] = tt
begin_self (c ∷ rest) = refl

begin_both : (front left tail : List ℕ) → 0 < length front → BeginAs (front ++ left) (front ++ tail)
begin_both [] left tail some = absurd (omega (arith, some))
begin_both (c ∷ front) left tail some = refl

begin_less : (rest piece tail : List ℕ) → BeginAs (rest ++ piece) tail → BeginAs rest tail
begin_less [] piece tail begins = tt
begin_less (c ∷ rest) piece [] begins = absurd begins
begin_less (c ∷ rest) piece (d ∷ tail) begins = begins

pub settled_stops : (p : Token) (left tail : List ℕ) → Settles p left → BeginAs left tail → Stops p tail
settled_stops (bare units) [] tail settled begins = absurd settled
settled_stops (bare units) (c ∷ left) [] settled begins = absurd begins
settled_stops (bare units) (c ∷ left) (d ∷ tail) settled begins = at_octet d tail refl (ap ends_item (sym begins) ∙ settled)
settled_stops (comment octets) [] tail settled begins = absurd settled
settled_stops (comment octets) (c ∷ left) [] settled begins = absurd begins
settled_stops (comment octets) (c ∷ left) (d ∷ tail) settled begins = sym begins ∙ settled
settled_stops p left tail settled begins = tt

-- the token ends no entry
abbrev pub EndsNone : ℕ → Token → Type 0
EndsNone depth line_feed = depth ≢ 0
EndsNone depth p = ⊤

-- ---- tokens before the entries of others

fronted_append : (xs ys : List Token) (cut : Cut) → fronted (xs ++ ys) cut ≡ fronted xs (fronted ys cut)
fronted_append [] ys cut = refl
fronted_append (p ∷ xs) ys cut = ap (in_front_of p) (fronted_append xs ys cut)

abbrev pub one_open : List Token → Cut
one_open tokens = record { ended = []; open_tokens = tokens }

abbrev one_ended : List Token → Cut
one_ended tokens = record { ended = tokens ∷ []; open_tokens = [] }

fronted_open : (xs ys : List Token) → fronted xs (one_open ys) ≡ one_open (xs ++ ys)
fronted_open [] ys = refl
fronted_open (p ∷ xs) ys = ap (in_front_of p) (fronted_open xs ys)

fronted_ended : (xs ys : List Token) → fronted xs (one_ended ys) ≡ one_ended (xs ++ ys)
fronted_ended [] ys = refl
fronted_ended (p ∷ xs) ys = ap (in_front_of p) (fronted_ended xs ys)

cut_one : (depth : ℕ) (p : Token) (more : List Token) → HasRoom depth p → EndsNone depth p → cut_from depth (p ∷ more) ≡ in_front_of p (cut_from (depth_past depth p) more)
cut_one zero line_feed more room none = absurd (none refl)
cut_one zero closing more room none = refl
cut_one zero p more room none = refl
cut_one (suc depth) closing more room none = ap (λ d. in_front_of closing (cut_from d more)) (let e : depth ≡ suc depth - 1 = omega arith in e)
cut_one (suc depth) p more room none = refl

-- ---- the tokens so far

pub walked_none : (octets : List ℕ) (keeps : Bool) (kept : List RawItem) → kept ≡ [] → Walked octets octets zero zero keeps kept
walked_none octets keeps kept none = record {
  before = [];
  whole = refl;
  goes = λ tail more fault begins is. is;
  entries = λ more. refl;
  are_kept = λ k. subst (AreKept []) (sym none) (inl refl);
  feeds_are = refl;
  deep = omega arith;
}

-- more octets: nothing changes
pub walked_on : (octets rest piece : List ℕ) (depth feeds : ℕ) (keeps : Bool) (kept : List RawItem) → Walked octets rest depth feeds keeps kept → Walked (octets ++ piece) (rest ++ piece) depth feeds keeps kept
walked_on octets rest piece depth feeds keeps kept so_far = record {
  before = so_far.before;
  whole = ap (λ t. t ++ piece) so_far.whole ∙ append_assoc (text so_far.before) rest piece;
  goes = λ tail more fault begins is. so_far.goes tail more fault (begin_less rest piece tail begins) is;
  entries = so_far.entries;
  are_kept = so_far.are_kept;
  feeds_are = so_far.feeds_are;
  deep = so_far.deep;
}

-- a token at the front of the rest, which what follows settles
pub record Passes (depth : ℕ) (rest : List ℕ) (p : Token) (left : List ℕ) : Type 0 where
  pub parts : rest ≡ token_text p ++ left
  pub token : IsToken p
  pub settled : Settles p left
  pub room : HasRoom depth p
  pub none : EndsNone depth p

text_more : (before : List Token) (p : Token) → text (before ++ p ∷ []) ≡ text before ++ token_text p
text_more before p = flat_map-append token_text before (p ∷ []) ∙ ap (λ t. text before ++ t) (append-nil (token_text p))

past_deep : (depth : ℕ) (p : Token) → IsToken p → depth_past depth p ≤ depth + length (token_text p)
past_deep depth opening is = omega arith
past_deep depth closing is = omega arith
past_deep depth p is = omega arith

pub walked_more : (octets rest left : List ℕ) (depth feeds : ℕ) (keeps : Bool) (kept new : List RawItem) (p : Token) (so_far : Walked octets rest depth feeds keeps kept) → Passes depth rest p left → (keeps ≡ true → AreKept (flat_map item_of so_far.before ++ item_of p) new) → Walked octets left (depth_past depth p) (feeds + line_feeds (token_text p)) keeps new
walked_more octets rest left depth feeds keeps kept new p so_far passes are = record {
  before = so_far.before ++ p ∷ [];
  whole = so_far.whole ∙ ap (λ t. text so_far.before ++ t) passes.parts ∙ sym (append_assoc (text so_far.before) (token_text p) left) ∙ ap (λ t. t ++ left) (sym (text_more so_far.before p));
  goes = λ tail more fault begins is.
      let front : Takes depth (token_text p ++ tail) p tail = record { whole = refl; token = passes.token; stop = settled_stops p left tail passes.settled begins; room = passes.room } in
      let one : IsCut depth (token_text p ++ tail) (p ∷ more) fault = one_token_more depth (token_text p ++ tail) tail p more fault front is in
      let alike : BeginAs rest (token_text p ++ tail) = subst (λ t. BeginAs t (token_text p ++ tail)) (sym passes.parts) (begin_both (token_text p) left tail (some_octet p passes.token)) in
      let all : IsCut zero (text so_far.before ++ (token_text p ++ tail)) (so_far.before ++ p ∷ more) fault = so_far.goes (token_text p ++ tail) (p ∷ more) fault alike one in
      let octets_are : text so_far.before ++ (token_text p ++ tail) ≡ text (so_far.before ++ p ∷ []) ++ tail = sym (append_assoc (text so_far.before) (token_text p) tail) ∙ ap (λ t. t ++ tail) (sym (text_more so_far.before p)) in
      let tokens_are : so_far.before ++ p ∷ more ≡ (so_far.before ++ p ∷ []) ++ more = sym (append_assoc so_far.before (p ∷ []) more) in
      subst (λ t. IsCut zero t ((so_far.before ++ p ∷ []) ++ more) fault) octets_are (subst (λ t. IsCut zero (text so_far.before ++ (token_text p ++ tail)) t fault) tokens_are all);
  entries = λ more.
      ap (cut_from zero) (append_assoc so_far.before (p ∷ []) more)
      ∙ so_far.entries (p ∷ more)
      ∙ ap (fronted so_far.before) (cut_one depth p more passes.room passes.none)
      ∙ sym (fronted_append so_far.before (p ∷ []) (cut_from (depth_past depth p) more));
  are_kept = λ k. subst (λ t. AreKept t new) (sym (flat_map-append item_of so_far.before (p ∷ []) ∙ ap (λ t. flat_map item_of so_far.before ++ t) (append-nil (item_of p)))) (are k);
  feeds_are = ap line_feeds (text_more so_far.before p) ∙ feeds_of_both (text so_far.before) (token_text p) ∙ ap (λ n. n + line_feeds (token_text p)) so_far.feeds_are;
  deep = omega (arith, so_far.deep, past_deep depth p passes.token, ap length (text_more so_far.before p), length-append (text so_far.before) (token_text p));
}

-- ---- where a walk stops

-- the line feed that ends the entry
pub walked_ends : (octets rest after : List ℕ) (feeds n : ℕ) (keeps : Bool) (kept : List RawItem) → Walked octets rest zero feeds keeps kept → rest ≡ 10 ∷ after → n ≡ length octets - length after → EndsEntry octets n (feeds + 1) keeps kept
walked_ends octets rest after feeds n keeps kept so_far first count =
    let tokens : List Token = so_far.before ++ line_feed ∷ [] in
    let front : List ℕ = text so_far.before ++ 10 ∷ [] in
    let last : IsCut zero (10 ∷ []) (line_feed ∷ []) None = one_token_more zero (10 ∷ []) [] line_feed [] None (record { whole = refl; token = tt; stop = tt; room = tt }) (no_token zero [] None (refl, refl)) in
    let all : IsCut zero front tokens None = so_far.goes (10 ∷ []) (line_feed ∷ []) None (subst (λ t. BeginAs t (10 ∷ [])) (sym first) refl) last in
    let whole : octets ≡ front ++ after = so_far.whole ∙ ap (λ t. text so_far.before ++ t) first ∙ sym (append_assoc (text so_far.before) (10 ∷ []) after) in
    let len : length octets ≡ length front + length after = ap length whole ∙ length-append front after in
    let taken : n ≡ length front = omega (arith, count, len) in
    let entry : take n octets ≡ front = rw (taken, whole) (take-append_seam front after) in
    let ended : cut_from zero tokens ≡ one_ended tokens = so_far.entries (line_feed ∷ []) ∙ fronted_ended so_far.before (line_feed ∷ []) in
    record {
      tokens = tokens;
      one = record { cut = subst (λ t. Cuts t tokens) (sym entry) (cuts front tokens all); ended = ended };
      stated = λ k. subst (λ t. AreKept t kept) (sym (flat_map-append item_of so_far.before (line_feed ∷ []) ∙ append-nil (flat_map item_of so_far.before))) (so_far.are_kept k);
      some = omega (arith, taken, length-append (text so_far.before) (10 ∷ []));
      within = omega (arith, taken, len);
      feeds_are = ap line_feeds entry ∙ feeds_of_both (text so_far.before) (10 ∷ []) ∙ ap (λ k. k + 1) so_far.feeds_are;
    }

-- the octets after one that was passed
pub after_left : (octets rest after : List ℕ) (c depth feeds n : ℕ) (keeps : Bool) (kept : List RawItem) → Walked octets rest depth feeds keeps kept → rest ≡ c ∷ after → n ≡ length octets - length after → drop n octets ≡ after
after_left octets rest after c depth feeds n keeps kept so_far first count =
    let front : List ℕ = text so_far.before ++ c ∷ [] in
    let whole : octets ≡ front ++ after = so_far.whole ∙ ap (λ t. text so_far.before ++ t) first ∙ sym (append_assoc (text so_far.before) (c ∷ []) after) in
    let taken : n ≡ length front = omega (arith, count, ap length whole, length-append front after) in
    rw (taken, whole) (drop-append_seam front after)

pub all_of : (octets rest : List ℕ) (depth feeds : ℕ) (keeps : Bool) (kept : List RawItem) (so_far : Walked octets rest depth feeds keeps kept) (more : List Token) (fault : Option Fault) → IsCut depth rest more fault → IsCut zero octets (so_far.before ++ more) fault
all_of octets rest depth feeds keeps kept so_far more fault is = subst (λ t. IsCut zero t (so_far.before ++ more) fault) (sym so_far.whole) (so_far.goes rest more fault (begin_self rest) is)

pub none_ended : (octets rest : List ℕ) (depth feeds : ℕ) (keeps : Bool) (kept : List RawItem) (so_far : Walked octets rest depth feeds keeps kept) (more : List Token) → cut_from depth more ≡ one_open more → (cut_from zero (so_far.before ++ more)).ended ≡ []
none_ended octets rest depth feeds keeps kept so_far more is = ap (λ (cut : Cut). cut.ended) (so_far.entries more ∙ ap (fronted so_far.before) is ∙ fronted_open so_far.before more)

left_is : (octets rest left : List ℕ) (depth feeds : ℕ) (keeps : Bool) (kept : List RawItem) (so_far : Walked octets rest depth feeds keeps kept) (more : List Token) → rest ≡ text more ++ left → octets ≡ text (so_far.before ++ more) ++ left
left_is octets rest left depth feeds keeps kept so_far more e = so_far.whole ∙ ap (λ t. text so_far.before ++ t) e ∙ sym (append_assoc (text so_far.before) (text more) left) ∙ ap (λ t. t ++ left) (sym (flat_map-append token_text so_far.before more))

-- what breaks the entry, whatever follows
pub walked_breaks : (octets rest : List ℕ) (depth feeds : ℕ) (keeps : Bool) (kept : List RawItem) (so_far : Walked octets rest depth feeds keeps kept) (more : List Token) (fault : Fault) (is : IsCut depth rest more (Some fault)) → StaysBroken is.rest → cut_from depth more ≡ one_open more → IsBrokenOff octets fault
walked_breaks octets rest depth feeds keeps kept so_far more fault is stays open_is = record {
  tokens = so_far.before ++ more;
  breaks = stays_for_good octets (so_far.before ++ more) fault (breaks octets (so_far.before ++ more) fault (all_of octets rest depth feeds keeps kept so_far more (Some fault) is)) is.rest (left_is octets rest is.rest depth feeds keeps kept so_far more is.whole) stays;
  none = none_ended octets rest depth feeds keeps kept so_far more open_is;
}

closes_there : (octets rest after : List ℕ) (feeds : ℕ) (keeps : Bool) (kept : List RawItem) → Walked octets rest zero feeds keeps kept → rest ≡ 41 ∷ after → IsBrokenOff octets UnbalancedParenthesis
closes_there octets rest after feeds keeps kept so_far first =
    walked_breaks octets rest zero feeds keeps kept so_far [] UnbalancedParenthesis (record { rest = rest; at = zero; whole = refl; each = tt; follow = tt; last = tt; parentheses = refl; ends = closes_nothing after refl first }) (closing_stays after first) refl

begin_more : (front after tail : List ℕ) → 0 < length front → BeginAs front tail → BeginAs (front ++ after) tail
begin_more [] after tail some begins = absurd (omega (arith, some))
begin_more (c ∷ front) after [] some begins = absurd begins
begin_more (c ∷ front) after (d ∷ tail) some begins = begins

-- fewer octets, where one is left at least
walked_cut : (octets rest front after : List ℕ) (depth feeds : ℕ) (keeps : Bool) (kept : List RawItem) (so_far : Walked octets rest depth feeds keeps kept) → rest ≡ front ++ after → 0 < length front → Walked (text so_far.before ++ front) front depth feeds keeps kept
walked_cut octets rest front after depth feeds keeps kept so_far parts some = record {
  before = so_far.before;
  whole = refl;
  goes = λ tail more fault begins is. so_far.goes tail more fault (subst (λ t. BeginAs t tail) (sym parts) (begin_more front after tail some begins)) is;
  entries = so_far.entries;
  are_kept = so_far.are_kept;
  feeds_are = so_far.feeds_are;
  deep = so_far.deep;
}

cut_at : (octets rest front after : List ℕ) (depth feeds n : ℕ) (keeps : Bool) (kept : List RawItem) (so_far : Walked octets rest depth feeds keeps kept) → rest ≡ front ++ after → n ≡ length octets - length after → (take n octets ≡ text so_far.before ++ front) × (n ≤ length octets)
cut_at octets rest front after depth feeds n keeps kept so_far parts count =
    let before : List ℕ = text so_far.before in
    let whole : octets ≡ (before ++ front) ++ after = so_far.whole ∙ ap (λ t. before ++ t) parts ∙ sym (append_assoc before front after) in
    let size : n ≡ length (before ++ front) = omega (arith, count, ap length whole, length-append (before ++ front) after) in
    (ap (λ k. take k octets) size ∙ ap (take (length (before ++ front))) whole ∙ take-append_seam (before ++ front) after, omega (arith, count))

pub walked_closes : (octets rest after : List ℕ) (feeds n : ℕ) (keeps : Bool) (kept : List RawItem) → Walked octets rest zero feeds keeps kept → rest ≡ 41 ∷ after → n ≡ length octets - length after → IsBrokenOff (take n octets) UnbalancedParenthesis × (n ≤ length octets)
walked_closes octets rest after feeds n keeps kept so_far first count =
    let cut = cut_at octets rest (41 ∷ []) after zero feeds n keeps kept so_far first count in
    (subst (λ t. IsBrokenOff t UnbalancedParenthesis) (sym cut.0) (closes_there (text so_far.before ++ 41 ∷ []) (41 ∷ []) [] feeds keeps kept (walked_cut octets rest (41 ∷ []) after zero feeds keeps kept so_far first (omega arith)) refl), cut.1)

-- the end of the octets, within a token or not
pub walked_open : (octets rest : List ℕ) (depth feeds : ℕ) (keeps : Bool) (kept : List RawItem) (so_far : Walked octets rest depth feeds keeps kept) (more : List Token) (fault : Option Fault) (is : IsCut depth rest more fault) → BreaksAtEnd is.rest → cut_from depth more ≡ one_open more → IsOpen octets
walked_open octets rest depth feeds keeps kept so_far more fault is ends open_is = by fault (all_of octets rest depth feeds keeps kept so_far more fault is)
  where
    by : (found : Option Fault) → IsCut zero octets (so_far.before ++ more) found → IsOpen octets
    by None all = record {
      tokens = so_far.before ++ more;
      are = inl (cuts octets (so_far.before ++ more) all);
      none = none_ended octets rest depth feeds keeps kept so_far more open_is;
      goes_on = ends_not_for_good octets (so_far.before ++ more) is.rest (left_is octets rest is.rest depth feeds keeps kept so_far more is.whole) ends;
    }
    by (Some found) all = record {
      tokens = so_far.before ++ more;
      are = inr (found, breaks octets (so_far.before ++ more) found all);
      none = none_ended octets rest depth feeds keeps kept so_far more open_is;
      goes_on = ends_not_for_good octets (so_far.before ++ more) is.rest (left_is octets rest is.rest depth feeds keeps kept so_far more is.whole) ends;
    }

-- ---- a token of one octet

walked_past : (octets rest left : List ℕ) (depth feeds : ℕ) (keeps : Bool) (kept : List RawItem) (p : Token) → Walked octets rest depth feeds keeps kept → Passes depth rest p left → item_of p ≡ [] → Walked octets left (depth_past depth p) (feeds + line_feeds (token_text p)) keeps kept
walked_past octets rest left depth feeds keeps kept p so_far passes none =
    walked_more octets rest left depth feeds keeps kept kept p so_far passes (λ k. subst (λ t. AreKept t kept) (sym (ap (λ t. flat_map item_of so_far.before ++ t) none ∙ append-nil (flat_map item_of so_far.before))) (so_far.are_kept k))

pub first_octet : (octets after : List ℕ) (c d : ℕ) → octets ≡ c ∷ after → c ≡ d → octets ≡ d ∷ after
first_octet octets after c d first is = first ∙ ap (λ e. e ∷ after) is

pub no_escape_stop : (c : ℕ) → is_blank c ≡ true → c ≢ 92
no_escape_stop c is e = absurd (let clash : false ≡ true = sym (ap is_blank e) ∙ is in cc)

pub walked_blank : (octets rest left : List ℕ) (depth feeds c : ℕ) (keeps : Bool) (kept : List RawItem) → Walked octets rest depth feeds keeps kept → rest ≡ c ∷ left → is_blank c ≡ true → Walked octets left depth feeds keeps kept
walked_blank octets rest left depth feeds c keeps kept so_far first is =
    let none : line_feeds (c ∷ []) ≡ 0 = none_first c [] (other_than_ten is_blank true (λ e. cc) c is) in
    let more : feeds + line_feeds (c ∷ []) ≡ feeds = omega (arith, none) in
    subst (λ f. Walked octets left depth f keeps kept) more (walked_past octets rest left depth feeds keeps kept (blank c) so_far (record { parts = first; token = is; settled = tt; room = tt; none = tt }) refl)

pub walked_feed : (octets rest left : List ℕ) (depth feeds c : ℕ) (keeps : Bool) (kept : List RawItem) → Walked octets rest depth feeds keeps kept → rest ≡ c ∷ left → c ≡ 10 → depth ≢ 0 → Walked octets left depth (feeds + 1) keeps kept
walked_feed octets rest left depth feeds c keeps kept so_far first is deep =
    walked_past octets rest left depth feeds keeps kept line_feed so_far (record { parts = first_octet rest left c 10 first is; token = tt; settled = tt; room = tt; none = deep }) refl

pub walked_opening : (octets rest left : List ℕ) (depth feeds c : ℕ) (keeps : Bool) (kept : List RawItem) → Walked octets rest depth feeds keeps kept → rest ≡ c ∷ left → c ≡ 40 → Walked octets left (depth + 1) feeds keeps kept
walked_opening octets rest left depth feeds c keeps kept so_far first is =
    let more : suc depth ≡ depth + 1 = omega arith in
    let none : feeds + 0 ≡ feeds = omega arith in
    subst (λ f. Walked octets left (depth + 1) f keeps kept) none (subst (λ k. Walked octets left k (feeds + 0) keeps kept) more (walked_past octets rest left depth feeds keeps kept opening so_far (record { parts = first_octet rest left c 40 first is; token = tt; settled = tt; room = tt; none = tt }) refl))

pub walked_closing : (octets rest left : List ℕ) (depth feeds c : ℕ) (keeps : Bool) (kept : List RawItem) → Walked octets rest depth feeds keeps kept → rest ≡ c ∷ left → c ≡ 41 → depth ≢ 0 → Walked octets left (depth - 1) feeds keeps kept
walked_closing octets rest left depth feeds c keeps kept so_far first is deep =
    let none : feeds + 0 ≡ feeds = omega arith in
    subst (λ f. Walked octets left (depth - 1) f keeps kept) none (walked_past octets rest left depth feeds keeps kept closing so_far (record { parts = first_octet rest left c 41 first is; token = tt; settled = tt; room = omega (arith, deep); none = tt }) refl)

-- ---- a longer token

kept_all : (p : Token) (items kept new : List RawItem) → IsToken p → AreKept items kept → KeepsAll (item_of p) kept new → AreKept (items ++ item_of p) new
kept_all (bare units) items kept new is are keeps = keeps_more (bare units) items kept new (raw.bare (written_text units)) is refl are keeps
kept_all (quoted units) items kept new is are keeps = keeps_more (quoted units) items kept new (raw.quoted (written_text units)) is refl are keeps
kept_all p items kept new is are keeps = subst (λ t. AreKept t new) (sym (append-nil items)) (subst (AreKept items) (sym keeps) are)

passes_kind : (depth : ℕ) (rest left : List ℕ) (p : Token) → IsItemOrComment p → rest ≡ token_text p ++ left → IsToken p → Settles p left → Passes depth rest p left × (depth_past depth p ≡ depth)
passes_kind depth rest left (bare units) kind parts is settled = (record { parts = parts; token = is; settled = settled; room = tt; none = tt }, refl)
passes_kind depth rest left (quoted units) kind parts is settled = (record { parts = parts; token = is; settled = settled; room = tt; none = tt }, refl)
passes_kind depth rest left (comment octets) kind parts is settled = (record { parts = parts; token = is; settled = settled; room = tt; none = tt }, refl)
passes_kind depth rest left p kind parts is settled = absurd kind

pub walked_token : (octets rest front left : List ℕ) (depth feeds fed n : ℕ) (keeps : Bool) (kept new : List RawItem) → Walked octets rest depth feeds keeps kept → EndsToken rest n → front ≡ take n rest → left ≡ drop n rest → KeepsToken front fed keeps kept new → Walked octets left depth (feeds + fed) keeps new
walked_token octets rest front left depth feeds fed n keeps kept new so_far token front_is left_is_drop keep =
    let p : Token = token.token in
    let front_at : front ≡ token_text p = front_is ∙ ap (λ k. take k rest) token.len ∙ ap (take (length (token_text p))) token.parts ∙ take-append_seam (token_text p) token.left in
    let left_at : left ≡ token.left = left_is_drop ∙ ap (λ k. drop k rest) token.len ∙ ap (drop (length (token_text p))) token.parts ∙ drop-append_seam (token_text p) token.left in
    let kept_is = keep p front_at token.is token.kind in
    let passes = passes_kind depth rest token.left p token.kind token.parts token.is token.settled in
    let next : Walked octets token.left (depth_past depth p) (feeds + line_feeds (token_text p)) keeps new = walked_more octets rest token.left depth feeds keeps kept new p so_far passes.0 (λ k. kept_all p (flat_map item_of so_far.before) kept new token.is (so_far.are_kept k) (kept_is.1 k)) in
    let fed_is : line_feeds (token_text p) ≡ fed = ap line_feeds (sym front_at) ∙ kept_is.0 in
    subst (λ t. Walked octets t depth (feeds + fed) keeps new) (sym left_at) (subst (λ d. Walked octets token.left d (feeds + fed) keeps new) passes.1 (subst (λ f. Walked octets token.left (depth_past depth p) (feeds + f) keeps new) fed_is next))

-- a bare item without backslashes
plain_token : (rest after : List ℕ) (c n : ℕ) → n ≡ prefix_len goes_on rest → 0 < n → drop n rest ≡ c ∷ after → ends_item c ≡ true → EndsToken rest n
plain_token rest after c n len some first ends_it = record {
  token = bare (map plain (take n rest));
  left = drop n rest;
  parts = sym (take-append-drop n rest) ∙ ap (λ t. t ++ drop n rest) (plain_text (take n rest));
  is = (omega (arith, some, more, length-map (take n rest) plain, length-take n rest), each_plain ends_item (take n rest) (prefix_stops rest n len).1);
  kind = tt;
  settled = subst (Settles (bare (map plain (take n rest)))) (sym first) ends_it;
  len = omega (arith, ap length (plain_text (take n rest)), length-take n rest, more);
}
  where
    more : n < length rest
    more = omega (arith, ap length first, length-drop n rest)

-- what stops a bare item there ends it
stop_ends : (rest stopped after : List ℕ) (c n : ℕ) → n ≡ prefix_len goes_on rest → stopped ≡ drop n rest → stopped ≡ c ∷ after → c ≢ 92 → ends_item c ≡ true
stop_ends rest stopped after c n len back first other = ends_but_mark c (subst (EndsAt stops_bare) (sym back ∙ first) (prefix_stops rest n len).2) other

none_plain : (xs : List ℕ) → All (λ c. stops_bare c ≡ false) xs → line_feeds xs ≡ 0
none_plain xs each = none_in (λ c. stops_bare c ≡ false) (λ c e. other_than_ten stops_bare false (λ f. cc) c e) xs (recursion_from_All (λ c. stops_bare c ≡ false) xs each)

pub walked_bare : (octets rest front stopped after : List ℕ) (depth feeds stop n : ℕ) (keeps : Bool) (kept new : List RawItem) → Walked octets rest depth feeds keeps kept → n ≡ prefix_len goes_on rest → front ≡ take n rest → stopped ≡ drop n rest → stopped ≡ stop ∷ after → stop ≢ 92 → (keeps ≡ true → KeepsBare front kept new) → Walked octets stopped depth feeds keeps new
walked_bare octets rest front stopped after depth feeds stop zero keeps kept new so_far len front_is back first other keep =
    subst (λ t. Walked octets t depth feeds keeps new) (sym back) (record {
      before = so_far.before;
      whole = so_far.whole;
      goes = so_far.goes;
      entries = so_far.entries;
      are_kept = λ k. subst (AreKept (flat_map item_of so_far.before)) (sym (rw front_is at (keep k))) (so_far.are_kept k);
      feeds_are = so_far.feeds_are;
      deep = so_far.deep;
    })
walked_bare octets [] front stopped after depth feeds stop (suc n) keeps kept new so_far len front_is back first other keep = absurd (omega (arith, len))
walked_bare octets (c ∷ rest) front stopped after depth feeds stop (suc n) keeps kept new so_far len front_is back first other keep =
    let token = plain_token (c ∷ rest) after stop (suc n) len (omega arith) (sym back ∙ first) (stop_ends (c ∷ rest) stopped after stop (suc n) len back first other) in
    let none : line_feeds front ≡ 0 = ap line_feeds front_is ∙ none_plain (take (suc n) (c ∷ rest)) (prefix_stops (c ∷ rest) (suc n) len).1 in
    let more : feeds + 0 ≡ feeds = omega arith in
    subst (λ f. Walked octets stopped depth f keeps new) more
    (walked_token octets (c ∷ rest) front stopped depth feeds 0 (suc n) keeps kept new so_far token front_is back (λ p text_is is kind. (none, λ k. bare_kept p front kept new text_is is kind (rw front_is refl) (keep k))))
  where
    first_goes : ends_item c ≡ false
    first_goes = (or_parts (ends_item c) (c == 92) (recursion_from_All (λ c. stops_bare c ≡ false) (c ∷ take n rest) (prefix_stops (c ∷ rest) (suc n) len).1).0).0

    goes : (d : ℕ) → c ≡ d → ends_item d ≡ true → ⊥
    goes d same ends_it = both_ways (ends_item d) (subst (λ e. ends_item e ≡ false) same first_goes) ends_it

    -- a token that begins as a bare item does is one
    bare_kept : (p : Token) (front : List ℕ) (kept new : List RawItem) → front ≡ token_text p → IsToken p → IsItemOrComment p → front ≡ c ∷ take n rest → KeepsBare front kept new → KeepsAll (item_of p) kept new
    bare_kept (bare units) front kept new text_is is kind first_is keep = subst (λ t. Keeps (raw.bare t) kept new) (sym first_is ∙ text_is) (rw first_is at keep)
    bare_kept (quoted units) front kept new text_is is kind first_is keep = absurd (goes 34 (let e : c ≡ 34 = cc in e) refl)
    bare_kept (comment octets) front kept new text_is is kind first_is keep = absurd (goes 59 (let e : c ≡ 59 = cc in e) refl)
    bare_kept p front kept new text_is is kind first_is keep = absurd kind

-- ---- where a token begins that is no mark

pub tells_after : (stops : StopBits) (rest stopped after : List ℕ) (c n : ℕ) → stopped ≡ drop n rest → stopped ≡ c ∷ after → Tells stops (drop (n + 1) rest) → Tells stops after
tells_after stops rest stopped after c n back first tells = subst (Tells stops) (sym (drop-drop 1 n rest) ∙ ap (drop 1) (sym back ∙ first)) tells

-- at a backslash it began before, with the bare item
pub begun_before : (octets rest stopped : List ℕ) (after : Between) (c n : ℕ) (keeps : Bool) (kept : List RawItem) → Walked octets rest after.depth after.feeds keeps kept → stopped ≡ drop n rest → stopped ≡ c ∷ after.rest.now → Tells after.stops (drop (n + 1) rest) → IsBegun octets rest after keeps kept
begun_before octets rest stopped after c n keeps kept so_far back first tells = record {
  walked = so_far;
  tells = tells_after after.stops rest stopped after.rest.now c n back first tells;
  skip = n + 1;
  skipped = sym (sym (drop-drop 1 n rest) ∙ ap (drop 1) (sym back ∙ first));
  room = omega (arith, ap length back, ap length first, length-drop n rest);
}

pub begun_there : (octets rest stopped : List ℕ) (after : Between) (c n : ℕ) (keeps : Bool) (kept : List RawItem) → Walked octets stopped after.depth after.feeds keeps kept → stopped ≡ drop n rest → stopped ≡ c ∷ after.rest.now → Tells after.stops (drop (n + 1) rest) → IsBegun octets stopped after keeps kept
begun_there octets rest stopped after c n keeps kept so_far back first tells = record {
  walked = so_far;
  tells = tells_after after.stops rest stopped after.rest.now c n back first tells;
  skip = 1;
  skipped = sym (ap (drop 1) first);
  room = omega (arith, ap length first);
}

-- what is past the end of other octets is past them
pub past_more : (octets rest token : List ℕ) (walk : Between) (n : ℕ) (keeps : Bool) (kept : List RawItem) → token ≡ drop n rest → IsPast octets token walk keeps kept → IsPast octets rest walk keeps kept
past_more octets rest token walk n keeps kept back past = record {
  walked = past.walked;
  tells = past.tells;
  shorter = omega (arith, past.shorter, ap length back, length-drop n rest);
}

-- ---- the place of a rest

pub rest_at : (octets rest : List ℕ) (depth feeds : ℕ) (keeps : Bool) (kept : List RawItem) → Walked octets rest depth feeds keeps kept → rest ≡ drop (length octets - length rest) octets
rest_at octets rest depth feeds keeps kept so_far =
    let len : length octets ≡ length (text so_far.before) + length rest = ap length so_far.whole ∙ length-append (text so_far.before) rest in
    let e : length octets - length rest ≡ length (text so_far.before) = omega (arith, len) in
    sym (rw (e, so_far.whole) (drop-append_seam (text so_far.before) rest))

pub stands : (octets rest : List ℕ) (depth feeds seen : ℕ) (keeps : Bool) (kept : List RawItem) (at : At) → Walked octets rest depth feeds keeps kept → IsOpenToken rest seen → at.start ≡ length octets - length rest → at.seen - at.start ≡ seen → at.start ≤ at.seen → at.depth ≡ depth → at.feeds ≡ feeds → StandsOpen octets at keeps kept
stands octets rest depth feeds seen keeps kept at so_far token start seen_is order depth_is feeds_is =
    let here : rest ≡ drop at.start octets = rest_at octets rest depth feeds keeps kept so_far ∙ ap (λ n. drop n octets) (sym start) in
    record {
      walked = rw (depth_is, feeds_is) (subst (λ t. Walked octets t depth feeds keeps kept) here so_far);
      is_open = rw seen_is (subst (λ t. IsOpenToken t seen) here token);
      within = omega (arith, start);
      order = order;
    }

-- nothing was seen of the token at the front
pub none_seen : (octets : List ℕ) → IsSeen octets 0
none_seen octets = record {
  of_comment = λ note e. record { each = tt; within = omega arith };
  of_quoted = λ inside e. record { units = []; rest = inside; each = tt; whole = refl; len = refl };
  of_bare = λ no_comment no_quote. record { units = []; rest = octets; each = tt; whole = refl; len = refl };
}

pub stands_begun : (octets : List ℕ) (at : At) (keeps : Bool) (kept : List RawItem) → at.start ≡ 0 → at.seen ≡ 0 → at.depth ≡ 0 → at.feeds ≡ 0 → kept ≡ [] → StandsAt octets at keeps kept
stands_begun octets at keeps kept start seen depth feeds none =
    rw (start, seen, depth, feeds) (record { walked = walked_none octets keeps kept none; seen = none_seen octets; within = omega arith; order = omega arith })

-- ---- a token that isn't ended, or breaks

-- a bare item goes on to the end of the octets
bare_to_end : (rest stopped : List ℕ) (n : ℕ) → n ≡ prefix_len goes_on rest → stopped ≡ drop n rest → stopped ≡ [] → 0 < length rest → IsOpenToken rest (length rest)
bare_to_end rest stopped n len back none some =
    let all : take n rest ≡ rest = sym (append-nil (take n rest)) ∙ ap (λ t. take n rest ++ t) (sym none ∙ back) ∙ take-append-drop n rest in
    in_bare (record {
      units = map plain rest;
      rest = [];
      each = each_plain ends_item rest (subst (All (λ c. stops_bare c ≡ false)) all (prefix_stops rest n len).1);
      whole = plain_text rest ∙ sym (append-nil (written_text (map plain rest)));
      len = ap length (plain_text rest);
    }) (inl refl) some

-- so does what is left where nothing is
pub open_to_end : (rest stopped : List ℕ) (n : ℕ) → n ≡ prefix_len goes_on rest → stopped ≡ drop n rest → stopped ≡ [] → IsOpenToken rest (length rest)
open_to_end [] stopped n len back none = between refl refl
open_to_end (c ∷ rest) stopped n len back none = bare_to_end (c ∷ rest) stopped n len back none (omega arith)

pub one_by : (depth : ℕ) (p : Token) → IsItemOrComment p → cut_from depth (p ∷ []) ≡ one_open (p ∷ [])
one_by zero (bare units) kind = refl
one_by zero (quoted units) kind = refl
one_by zero (comment octets) kind = refl
one_by zero p kind = absurd kind
one_by (suc depth) (bare units) kind = refl
one_by (suc depth) (quoted units) kind = refl
one_by (suc depth) (comment octets) kind = refl
one_by (suc depth) p kind = absurd kind

open_by : (depth : ℕ) (octets rest : List ℕ) (feeds : ℕ) (keeps : Bool) (kept : List RawItem) → Walked octets rest depth feeds keeps kept → (p : Token) → IsToken p → rest ≡ token_text p → HasRoom depth p → (depth_past depth p ≡ depth) → cut_from depth (p ∷ []) ≡ one_open (p ∷ []) → Stops p [] → IsOpen octets
open_by zero octets rest feeds keeps kept so_far p token whole room same open_is stop =
    walked_open octets rest zero feeds keeps kept so_far (p ∷ []) None (one_token_more zero rest [] p [] None (record { whole = whole ∙ sym (append-nil (token_text p)); token = token; stop = stop; room = room }) (no_token (depth_past zero p) [] None (same, refl))) (nothing_left (at_the_end (one_token_more zero rest [] p [] None (record { whole = whole ∙ sym (append-nil (token_text p)); token = token; stop = stop; room = room }) (no_token (depth_past zero p) [] None (same, refl))))) open_is
  where
    at_the_end : (is : IsCut zero rest (p ∷ []) None) → is.rest ≡ []
    at_the_end is = is.ends.1
open_by (suc depth) octets rest feeds keeps kept so_far p token whole room same open_is stop =
    walked_open octets rest (suc depth) feeds keeps kept so_far (p ∷ []) (Some UnbalancedParenthesis) (record { rest = []; at = suc depth; whole = whole ∙ sym (append-nil (token_text p)) ∙ sym (append-nil (token_text p ++ [])); each = (token, tt); follow = tt; last = last_of p; parentheses = depth_is; ends = not_closed (omega arith) refl }) (nothing_left refl) open_is
  where
    last_of : (p : Token) → MayEndBefore (p ∷ []) []
    last_of (comment octets) = refl
    last_of p = tt

    depth_is : depth_after (suc depth) (p ∷ []) ≡ Some (suc depth)
    depth_is = depth_on (suc depth) p [] room ∙ ap Some same

-- nothing is left
open_between : (octets : List ℕ) (depth feeds : ℕ) (keeps : Bool) (kept : List RawItem) → Walked octets [] depth feeds keeps kept → IsOpen octets
open_between octets zero feeds keeps kept so_far = walked_open octets [] zero feeds keeps kept so_far [] None (record { rest = []; at = zero; whole = refl; each = tt; follow = tt; last = tt; parentheses = refl; ends = (refl, refl) }) (nothing_left refl) refl
open_between octets (suc depth) feeds keeps kept so_far = walked_open octets [] (suc depth) feeds keeps kept so_far [] (Some UnbalancedParenthesis) (record { rest = []; at = suc depth; whole = refl; each = tt; follow = tt; last = tt; parentheses = refl; ends = not_closed (omega arith) refl }) (nothing_left refl) refl

-- no token stands there
pub breaks_there : (depth : ℕ) (rest : List ℕ) (fault : Fault) → IsBroken depth rest fault → IsCut depth rest [] (Some fault)
breaks_there depth rest fault broken = record { rest = rest; at = depth; whole = refl; each = tt; follow = tt; last = tt; parentheses = refl; ends = broken }

-- units of a bare item, and a backslash that begins no escape
pub breaks_after : (depth : ℕ) (rest after : List ℕ) (w : Written) (units : List Written) → AllByRecursion (IsUnit ends_item) (w ∷ units) → rest ≡ written_text (w ∷ units) ++ after → IsBadEscape after → IsCut depth rest (bare (w ∷ units) ∷ []) (Some BadEscape)
breaks_after depth rest after w units each whole bad = record { rest = after; at = depth; whole = whole ∙ ap (λ t. t ++ after) (sym (append-nil (written_text (w ∷ units)))); each = ((omega arith, each), tt); follow = tt; last = tt; parentheses = depth_on depth (bare (w ∷ units)) [] tt; ends = no_escape bad }

open_bare : (octets rest : List ℕ) (depth feeds : ℕ) (keeps : Bool) (kept : List RawItem) → Walked octets rest depth feeds keeps kept → (units : List Written) (after : List ℕ) → AllByRecursion (IsUnit ends_item) units → rest ≡ written_text units ++ after → RunsOut after → 0 < length rest → IsOpen octets
unfolding breaks_there breaks_after
open_bare octets rest depth feeds keeps kept so_far [] after each whole (inl none) some = absurd (omega (arith, some, ap length whole, ap length none))
open_bare octets rest depth feeds keeps kept so_far [] after each whole (inr cut) some =
    let bad : IsCutOff rest = subst IsCutOff (sym whole) cut in
    walked_open octets rest depth feeds keeps kept so_far [] (Some BadEscape) (breaks_there depth rest BadEscape (no_escape (malformed_is_bad rest (inr bad)))) (escape_open bad) refl
open_bare octets rest depth feeds keeps kept so_far (w ∷ units) after each whole (inl none) some =
    open_by depth octets rest feeds keeps kept so_far (bare (w ∷ units)) (omega arith, each) (whole ∙ ap (λ t. written_text (w ∷ units) ++ t) none ∙ append-nil (written_text (w ∷ units))) tt refl (one_by depth (bare (w ∷ units)) tt) (at_end refl)
open_bare octets rest depth feeds keeps kept so_far (w ∷ units) after each whole (inr cut) some =
    walked_open octets rest depth feeds keeps kept so_far (bare (w ∷ units) ∷ []) (Some BadEscape) (breaks_after depth rest after w units each whole (malformed_is_bad after (inr cut))) (escape_open cut) (one_by depth (bare (w ∷ units)) tt)

open_quoted : (octets rest : List ℕ) (depth feeds : ℕ) (keeps : Bool) (kept : List RawItem) → Walked octets rest depth feeds keeps kept → (units : List Written) (after : List ℕ) → AllByRecursion (IsUnit is_quote) units → rest ≡ 34 ∷ written_text units ++ after → RunsOut after → IsOpen octets
unfolding breaks_there
open_quoted octets rest depth feeds keeps kept so_far units after each whole (inl none) =
    let all : rest ≡ 34 ∷ written_text units = whole ∙ ap (λ t. 34 ∷ written_text units ++ t) none ∙ ap (λ t. 34 ∷ t) (append-nil (written_text units)) in
    walked_open octets rest depth feeds keeps kept so_far [] (Some UnclosedQuote) (breaks_there depth rest UnclosedQuote (no_quote units each all)) (quote_open units each all) refl
open_quoted octets rest depth feeds keeps kept so_far units after each whole (inr cut) =
    walked_open octets rest depth feeds keeps kept so_far [] (Some BadEscape) (breaks_there depth rest BadEscape (no_quoted_escape units after each whole (malformed_is_bad after (inr cut)))) (quoted_escape_open units after each whole cut) refl

pub open_is : (octets rest : List ℕ) (depth feeds n : ℕ) (keeps : Bool) (kept : List RawItem) → Walked octets rest depth feeds keeps kept → IsOpenToken rest n → IsOpen octets
open_is octets rest depth feeds n keeps kept so_far (between none len) = open_between octets depth feeds keeps kept (subst (λ t. Walked octets t depth feeds keeps kept) none so_far)
open_is octets rest depth feeds n keeps kept so_far (in_comment note first each len) =
    open_by depth octets rest feeds keeps kept so_far (comment note) each first tt refl (one_by depth (comment note) tt) tt
open_is octets rest depth feeds n keeps kept so_far (in_quotes inside k are first ended len) =
    open_quoted octets rest depth feeds keeps kept so_far are.units are.rest are.each (first ∙ ap (λ t. 34 ∷ t) are.whole) ended
open_is octets rest depth feeds n keeps kept so_far (in_bare are ended some) =
    open_bare octets rest depth feeds keeps kept so_far are.units are.rest are.each are.whole ended some

pub first_of : (octets : List ℕ) (n feeds : ℕ) (kept : List RawItem) → EndsEntry octets n feeds true kept → IsFirstEntry octets n kept
first_of octets n feeds kept ends = record { tokens = ends.tokens; one = ends.one; stated = ends.stated refl; some = ends.some; within = ends.within }

pub walk_open : (octets : List ℕ) (at : At) (keeps : Bool) (kept : List RawItem) → StandsOpen octets at keeps kept → IsOpen octets
walk_open octets at keeps kept is = open_is octets (drop at.start octets) at.depth at.feeds (at.seen - at.start) keeps kept is.walked is.is_open

lost_bare : (octets rest : List ℕ) (depth feeds : ℕ) (keeps : Bool) (kept : List RawItem) → Walked octets rest depth feeds keeps kept → (units : List Written) (after : List ℕ) → AllByRecursion (IsUnit ends_item) units → rest ≡ written_text units ++ after → IsLostEscape after → IsBrokenOff octets BadEscape
unfolding breaks_there breaks_after
lost_bare octets rest depth feeds keeps kept so_far [] after each whole lost =
    let bad : IsLostEscape rest = subst IsLostEscape (sym whole) lost in
    walked_breaks octets rest depth feeds keeps kept so_far [] BadEscape (breaks_there depth rest BadEscape (no_escape (malformed_is_bad rest (inl bad)))) (escape_stays bad) refl
lost_bare octets rest depth feeds keeps kept so_far (w ∷ units) after each whole lost =
    walked_breaks octets rest depth feeds keeps kept so_far (bare (w ∷ units) ∷ []) BadEscape (breaks_after depth rest after w units each whole (malformed_is_bad after (inl lost))) (escape_stays lost) (one_by depth (bare (w ∷ units)) tt)

lost_there : (octets rest : List ℕ) (depth feeds : ℕ) (keeps : Bool) (kept : List RawItem) → Walked octets rest depth feeds keeps kept → IsLostToken rest → IsBrokenOff octets BadEscape
unfolding breaks_there
lost_there octets rest depth feeds keeps kept so_far (in_quotes_lost inside n are first lost) =
    let whole : rest ≡ 34 ∷ written_text are.units ++ are.rest = first ∙ ap (λ t. 34 ∷ t) are.whole in
    walked_breaks octets rest depth feeds keeps kept so_far [] BadEscape (breaks_there depth rest BadEscape (no_quoted_escape are.units are.rest are.each whole (malformed_is_bad are.rest (inl lost)))) (quoted_escape_stays are.units are.rest are.each whole lost) refl
lost_there octets rest depth feeds keeps kept so_far (in_bare_lost n are lost) = lost_bare octets rest depth feeds keeps kept so_far are.units are.rest are.each are.whole lost

some_lost : (rest : List ℕ) → IsLostEscape rest → 0 < length rest
some_lost rest (at_line_end c more e is) = omega (arith, ap length e)
some_lost rest (one_digit x c more e dx nc) = omega (arith, ap length e)
some_lost rest (two_digits x y c more e dx dy nc) = omega (arith, ap length e)
some_lost rest (too_great x y z more e dx dy dz great) = omega (arith, ap length e)

some_of_lost : (octets : List ℕ) → IsLostToken octets → 0 < length octets
some_of_lost octets (in_quotes_lost inside n are first lost) = omega (arith, ap length first)
some_of_lost octets (in_bare_lost n are lost) = omega (arith, ap length are.whole, length-append (written_text are.units) are.rest, some_lost are.rest lost)

pub walked_lost : (octets rest : List ℕ) (depth feeds k n : ℕ) (keeps : Bool) (kept : List RawItem) → Walked octets rest depth feeds keeps kept → IsLostToken (take k rest) × (k ≤ length rest) → n ≡ length octets - length rest + k → IsBrokenOff (take n octets) BadEscape × (n ≤ length octets)
walked_lost octets rest depth feeds k n keeps kept so_far (lost, within) count =
    let front : List ℕ = take k rest in
    let parts : rest ≡ front ++ drop k rest = sym (take-append-drop k rest) in
    let size : n ≡ length octets - length (drop k rest) = omega (arith, count, within, length-drop k rest, ap length so_far.whole, length-append (text so_far.before) rest) in
    let cut = cut_at octets rest front (drop k rest) depth feeds n keeps kept so_far parts size in
    (subst (λ t. IsBrokenOff t BadEscape) (sym cut.0) (lost_there (text so_far.before ++ front) front depth feeds keeps kept (walked_cut octets rest front (drop k rest) depth feeds keeps kept so_far parts (some_of_lost front lost)) lost), cut.1)

-- a comment has no item
pub comment_kept : (front : List ℕ) (keeps : Bool) (kept : List RawItem) → ItemIs front [] → KeepsToken front 0 keeps kept kept
comment_kept front keeps kept none (comment octets) text_is is kind = (ap line_feeds text_is ∙ none_first 59 octets refl ∙ none_in _ (λ d. ne_eqb d 10) octets is, λ k. refl)
comment_kept front keeps kept none (bare units) text_is is kind = absurd (let e : [] ≡ raw.bare (written_text units) ∷ [] = none (bare units) text_is is kind in let t : ⊥ = cc in t)
comment_kept front keeps kept none (quoted units) text_is is kind = absurd (let e : [] ≡ raw.quoted (written_text units) ∷ [] = none (quoted units) text_is is kind in let t : ⊥ = cc in t)
comment_kept front keeps kept none p text_is is kind = absurd kind

-- ---- numbers that fit

count_fits : (xs : List ℕ) → line_feeds xs ≤ length xs
count_fits [] = omega arith
count_fits (c ∷ xs) = grind (arith, common_steps, sum_by-cons, count_fits xs)

pub few_of : (octets rest : List ℕ) (depth feeds : ℕ) (keeps : Bool) (kept : List RawItem) → Walked octets rest depth feeds keeps kept → feeds + length rest ≤ length octets
few_of octets rest depth feeds keeps kept so_far = omega (arith, so_far.feeds_are, count_fits (text so_far.before), ap length so_far.whole, length-append (text so_far.before) rest)

pub deep_of : (octets rest : List ℕ) (depth feeds : ℕ) (keeps : Bool) (kept : List RawItem) → Walked octets rest depth feeds keeps kept → depth + length rest ≤ length octets
deep_of octets rest depth feeds keeps kept so_far = omega (arith, so_far.deep, ap length so_far.whole, length-append (text so_far.before) rest)
