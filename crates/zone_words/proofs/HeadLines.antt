-- The tokens of a line: a head, the word of a type and items, each after a blank but one that
-- touches the item before it.
use Rattle.zone_words.proofs.Common.{AllByRecursion, AreOnOneLine, Bool, Cuts, IsToken, List, RawItem, Some, Token, TouchingItem, Written, [], ap, append_assoc, arith, blank, closing, comment, count_by, cut_from, false, filter, flat_map, flat_map-append, if◌then◌else◌, item_of, line_feed, line_feeds_in, map, nat_tests, opening, plain, refl, stays, sym, text, token_text, touching_items, true, word, written_text, zero, ℕ, ◌++◌, ◌==◌, ◌∙◌, ◌∷◌, ◌≡◌, ◌≢◌}
use Rattle.std.proofs.lemmas.List.Sums.{sum_by-cons}
use Rattle.zone_text.specs.Entries.{in_front_of}
use Rattle.zone_words.proofs.KeptEntries.{bare_feedless}
use Rattle.zone_text.proofs.Common.{bare, quoted}
use Rattle.zone_name.proofs.Texts.Bare.{plain_text}
use Rattle.zone_rdata.specs.Item as raw
use Rattle.zone_rdata.specs.Text.{written_item}
use Rattle.zone_text.specs.Entries.{Cut}
use Rattle.zone_text.specs.Tokens.{AllFollow, MayFollow, depth_after}
use Rattle.type_data.specs.DataItem.{items_of}
use Rattle.type_data.specs.Parameters.Printed.{written_touching}
use Rattle.type_data.specs.StandingItem.{IsQuoted, Stands, StandsBehind}
use Rattle.zone_words.specs.WordsLine.{IsHead, IsOwnerlessHead}

-- ---- the tokens of items

abbrev pub token_of : (item : RawItem) → Stands item → Token
token_of (raw.bare t) s = bare s.units
token_of (raw.quoted t) s = quoted s.units

abbrev pub gap : Bool → List Token → List Token
gap true tokens = tokens
gap false tokens = blank 32 ∷ tokens

-- those of items one after another, and the line feed behind them
abbrev pub tail : (items : List TouchingItem) → AllByRecursion StandsBehind items → List Token
tail [] s = line_feed ∷ []
tail (i ∷ items) s = gap i.touches (token_of i.item s.0.stands ∷ tail items s.1)

token_written : (item : RawItem) (s : Stands item) → token_text (token_of item s) ≡ written_item item
token_written (raw.bare t) s = sym s.spelt
token_written (raw.quoted t) s = ap (λ u. 34 ∷ u ++ 34 ∷ []) (sym s.parts)

token_is : (item : RawItem) (s : Stands item) → IsToken (token_of item s)
token_is (raw.bare t) s = s.is
token_is (raw.quoted t) s = s.each

item_is : (item : RawItem) (s : Stands item) → item_of (token_of item s) ≡ item ∷ []
item_is (raw.bare t) s = ap (λ u. raw.bare u ∷ []) (sym s.spelt)
item_is (raw.quoted t) s = ap (λ u. raw.quoted u ∷ []) (sym s.parts)

-- ---- what holds of them

gap_text : (touches : Bool) (p : Token) (tokens : List Token) → text (gap touches (p ∷ tokens)) ≡ (if touches then token_text p else 32 ∷ token_text p) ++ text tokens
gap_text true p tokens = refl
gap_text false p tokens = refl

tail_text : (items : List TouchingItem) (s : AllByRecursion StandsBehind items) → text (tail items s) ≡ written_touching items ++ 10 ∷ []
tail_text [] s = refl
tail_text (i ∷ items) s =
    gap_text i.touches (token_of i.item s.0.stands) (tail items s.1)
    ∙ (λ j. (if i.touches then token_written i.item s.0.stands j else 32 ∷ token_written i.item s.0.stands j) ++ tail_text items s.1 j)
    ∙ sym (append_assoc (if i.touches then written_item i.item else 32 ∷ written_item i.item) (written_touching items) (10 ∷ []))

gap_each : (touches : Bool) (tokens : List Token) → AllByRecursion IsToken tokens → AllByRecursion IsToken (gap touches tokens)
gap_each true tokens each = each
gap_each false tokens each = (refl, each)

tail_each : (items : List TouchingItem) (s : AllByRecursion StandsBehind items) → AllByRecursion IsToken (tail items s)
tail_each [] s = (tt, tt)
tail_each (i ∷ items) s = gap_each i.touches (token_of i.item s.0.stands ∷ tail items s.1) (token_is i.item s.0.stands, tail_each items s.1)

-- a bare or a quoted item
abbrev IsItemToken : Token → Type 0
IsItemToken (bare units) = Unit {0}
IsItemToken (quoted units) = Unit {0}
IsItemToken p = ⊥

item_token : (item : RawItem) (s : Stands item) → IsItemToken (token_of item s)
item_token (raw.bare t) s = tt
item_token (raw.quoted t) s = tt

-- what may stand behind a bare item may stand behind either
behind_item : (p q : Token) → IsItemToken p → MayFollow (bare []) q → MayFollow p q
behind_item (bare units) q is may = may
behind_item (quoted units) q is may = tt
behind_item (blank c) q is may = absurd is
behind_item opening q is may = absurd is
behind_item closing q is may = absurd is
behind_item line_feed q is may = absurd is
behind_item (comment octets) q is may = absurd is

quoted_follows : (item : RawItem) (s : Stands item) → IsQuoted item → MayFollow (bare []) (token_of item s)
quoted_follows (raw.bare t) s is = absurd is
quoted_follows (raw.quoted t) s is = tt

gap_follow : (p : Token) (touches : Bool) (item : RawItem) (st : Stands item) (tokens : List Token) → IsItemToken p → (touches ≡ true → IsQuoted item) → AllFollow (token_of item st ∷ tokens) → AllFollow (p ∷ gap touches (token_of item st ∷ tokens))
gap_follow p true item st tokens is quotes more = (behind_item p (token_of item st) is (quoted_follows item st (quotes refl)), more)
gap_follow p false item st tokens is quotes more = (behind_item p (blank 32) is tt, (tt, more))

tail_follow : (p : Token) (items : List TouchingItem) (s : AllByRecursion StandsBehind items) → IsItemToken p → AllFollow (p ∷ tail items s)
tail_follow p [] s is = (behind_item p line_feed is tt, tt)
tail_follow p (i ∷ items) s is =
    gap_follow p i.touches i.item s.0.stands (tail items s.1) is s.0.parted (tail_follow (token_of i.item s.0.stands) items s.1 (item_token i.item s.0.stands))

-- ---- one entry

item_depth : (p : Token) (tokens : List Token) → IsItemToken p → depth_after zero (p ∷ tokens) ≡ depth_after zero tokens
item_depth (bare units) tokens is = refl
item_depth (quoted units) tokens is = refl
item_depth (blank c) tokens is = absurd is
item_depth opening tokens is = absurd is
item_depth closing tokens is = absurd is
item_depth line_feed tokens is = absurd is
item_depth (comment octets) tokens is = absurd is

gap_depth : (touches : Bool) (tokens : List Token) → depth_after zero (gap touches tokens) ≡ depth_after zero tokens
gap_depth true tokens = refl
gap_depth false tokens = refl

tail_depth : (items : List TouchingItem) (s : AllByRecursion StandsBehind items) → depth_after zero (tail items s) ≡ Some zero
tail_depth [] s = refl
tail_depth (i ∷ items) s =
    gap_depth i.touches (token_of i.item s.0.stands ∷ tail items s.1)
    ∙ item_depth (token_of i.item s.0.stands) (tail items s.1) (item_token i.item s.0.stands)
    ∙ tail_depth items s.1

abbrev pub one_cut_of : List Token → Cut
one_cut_of tokens = record { ended = tokens ∷ []; open_tokens = [] }

abbrev pub IsOneOf : List Token → Type 0
IsOneOf tokens = cut_from zero tokens ≡ one_cut_of tokens

item_cut : (p : Token) (tokens : List Token) → IsItemToken p → IsOneOf tokens → IsOneOf (p ∷ tokens)
item_cut (bare units) tokens is one = ap (in_front_of (bare units)) one
item_cut (quoted units) tokens is one = ap (in_front_of (quoted units)) one
item_cut (blank c) tokens is one = absurd is
item_cut opening tokens is one = absurd is
item_cut closing tokens is one = absurd is
item_cut line_feed tokens is one = absurd is
item_cut (comment octets) tokens is one = absurd is

pub blank_cut : (tokens : List Token) → IsOneOf tokens → IsOneOf (blank 32 ∷ tokens)
blank_cut tokens one = ap (in_front_of (blank 32)) one

pub word_cut : (units : List Written) (tokens : List Token) → IsOneOf tokens → IsOneOf (bare units ∷ blank 32 ∷ tokens)
word_cut units tokens one = item_cut (bare units) (blank 32 ∷ tokens) tt (blank_cut tokens one)

gap_cut : (touches : Bool) (tokens : List Token) → IsOneOf tokens → IsOneOf (gap touches tokens)
gap_cut true tokens one = one
gap_cut false tokens one = blank_cut tokens one

tail_cut : (items : List TouchingItem) (s : AllByRecursion StandsBehind items) → IsOneOf (tail items s)
tail_cut [] s = refl
tail_cut (i ∷ items) s =
    gap_cut i.touches (token_of i.item s.0.stands ∷ tail items s.1) (item_cut (token_of i.item s.0.stands) (tail items s.1) (item_token i.item s.0.stands) (tail_cut items s.1))

-- ---- its items

gap_items : (touches : Bool) (tokens : List Token) → flat_map item_of (gap touches tokens) ≡ flat_map item_of tokens
gap_items true tokens = refl
gap_items false tokens = refl

tail_items : (items : List TouchingItem) (s : AllByRecursion StandsBehind items) → flat_map item_of (tail items s) ≡ items_of items
tail_items [] s = refl
tail_items (i ∷ items) s =
    gap_items i.touches (token_of i.item s.0.stands ∷ tail items s.1) ∙ (λ j. item_is i.item s.0.stands j ++ tail_items items s.1 j)

touch_token : (after : Bool) (item : RawItem) (s : Stands item) (tokens : List Token) → touching_items after (token_of item s ∷ tokens) ≡ record { item = item; touches = after } ∷ touching_items true tokens
touch_token after (raw.bare t) s tokens = ap (λ u. record { item = raw.bare u; touches = after } ∷ touching_items true tokens) (sym s.spelt)
touch_token after (raw.quoted t) s tokens = ap (λ u. record { item = raw.quoted u; touches = after } ∷ touching_items true tokens) (sym s.parts)

touch_gap : (touches : Bool) (item : RawItem) (s : Stands item) (tokens : List Token) → touching_items true (gap touches (token_of item s ∷ tokens)) ≡ record { item = item; touches = touches } ∷ touching_items true tokens
touch_gap true item s tokens = touch_token true item s tokens
touch_gap false item s tokens = touch_token false item s tokens

pub tail_touching : (items : List TouchingItem) (s : AllByRecursion StandsBehind items) → touching_items true (tail items s) ≡ items
tail_touching [] s = refl
tail_touching (i ∷ items) s = touch_gap i.touches i.item s.0.stands (tail items s.1) ∙ ap (λ t. i ∷ t) (tail_touching items s.1)

stay_token : (item : RawItem) (s : Stands item) (tokens : List Token) → filter stays (token_of item s ∷ tokens) ≡ filter stays tokens
stay_token (raw.bare t) s tokens = refl
stay_token (raw.quoted t) s tokens = refl

stay_gap : (touches : Bool) (tokens : List Token) → filter stays (gap touches tokens) ≡ filter stays tokens
stay_gap true tokens = refl
stay_gap false tokens = refl

pub tail_stays : (items : List TouchingItem) (s : AllByRecursion StandsBehind items) → filter stays (tail items s) ≡ line_feed ∷ []
tail_stays [] s = refl
tail_stays (i ∷ items) s =
    stay_gap i.touches (token_of i.item s.0.stands ∷ tail items s.1)
    ∙ stay_token i.item s.0.stands (tail items s.1) ∙ tail_stays items s.1

-- ---- no line feed stands in them

no_feed_in : (front : List ℕ) → AllByRecursion (λ c. c ≢ 10) front → count_by (λ c. c == 10) front ≡ 0
no_feed_in [] none = refl
no_feed_in (c ∷ front) none = grind (arith, nat_tests, sum_by-cons, no_feed_in front none.1)

item_feeds : (item : RawItem) → Stands item → line_feeds_in item ≡ 0
item_feeds (raw.bare t) s = ap (count_by (λ c. c == 10)) s.spelt ∙ bare_feedless s.units s.is
item_feeds (raw.quoted t) s = no_feed_in t s.one_line

pub one_line : (items : List TouchingItem) → AllByRecursion StandsBehind items → AreOnOneLine (items_of items)
one_line [] s = tt
one_line (i ∷ items) s = (item_feeds i.item s.0.stands, one_line items s.1)

-- ---- what stands before the type

-- Its tokens: before tokens that are one entry, which begin with a bare item, they leave them one.
pub record IsFront (head : List ℕ) : Type 0 where
  pub before : List Token
  pub spelt : text before ≡ head
  pub each : (more : List Token) → AllByRecursion IsToken more → AllByRecursion IsToken (before ++ more)
  pub follow : (units : List Written) (more : List Token) → AllFollow (bare units ∷ more) → AllFollow (before ++ bare units ∷ more)
  pub depth : (more : List Token) → depth_after zero (before ++ more) ≡ depth_after zero more
  pub one : (more : List Token) → IsOneOf more → IsOneOf (before ++ more)

abbrev pub of_head : (head : List ℕ) (class_number : ℕ) → IsHead head class_number → IsFront head
of_head head class_number h = record {
  before = bare h.owner_stands.units ∷ blank 32 ∷ bare h.ttl_stands.units ∷ blank 32 ∷ bare h.word_stands.units ∷ blank 32 ∷ [];
  spelt = (λ j. sym h.owner_stands.spelt j ++ 32 ∷ (sym h.ttl_stands.spelt j ++ 32 ∷ (sym h.word_stands.spelt j ++ 32 ∷ []))) ∙ sym h.whole;
  each = λ more each. (h.owner_stands.is, (refl, (h.ttl_stands.is, (refl, (h.word_stands.is, (refl, each))))));
  follow = λ units more follow. (tt, (tt, (tt, (tt, (tt, (tt, follow))))));
  depth = λ more. refl;
  one = λ more one. word_cut h.owner_stands.units _ (word_cut h.ttl_stands.units _ (word_cut h.word_stands.units more one));
}

abbrev pub of_ownerless : (head : List ℕ) (class_number : ℕ) → IsOwnerlessHead head class_number → IsFront head
of_ownerless head class_number h = record {
  before = blank 32 ∷ bare h.word_stands.units ∷ blank 32 ∷ [];
  spelt = (λ j. 32 ∷ (sym h.word_stands.spelt j ++ 32 ∷ [])) ∙ sym h.whole;
  each = λ more each. (refl, (h.word_stands.is, (refl, each)));
  follow = λ units more follow. (tt, (tt, (tt, follow)));
  depth = λ more. refl;
  one = λ more one. blank_cut _ (word_cut h.word_stands.units more one);
}

-- ---- a line of a head, a type's word and items

module _ (head : List ℕ) (front : IsFront head) (type_text : List ℕ) (items : List TouchingItem) (type_is : IsToken (word type_text)) (s : AllByRecursion StandsBehind items) where
  abbrev pub type_units : List Written
  type_units = map plain type_text

  abbrev pub tokens : List Token
  tokens = front.before ++ bare type_units ∷ tail items s

  line_text : head ++ (type_text ++ (written_touching items ++ 10 ∷ [])) ≡ text tokens
  line_text =
      sym (flat_map-append token_text front.before (bare type_units ∷ tail items s)
      ∙ (λ j. front.spelt j ++ (sym (plain_text type_text) j ++ tail_text items s j)))

  pub line_cut : Cuts (head ++ (type_text ++ (written_touching items ++ 10 ∷ []))) tokens
  line_cut = record {
    whole = line_text;
    each = front.each (bare type_units ∷ tail items s) (type_is, tail_each items s);
    follow = front.follow type_units (tail items s) (tail_follow (bare type_units) items s tt);
    balanced = front.depth (bare type_units ∷ tail items s) ∙ tail_depth items s;
  }

  pub line_ended : IsOneOf tokens
  line_ended = front.one (bare type_units ∷ tail items s) (item_cut (bare type_units) (tail items s) tt (tail_cut items s))

  -- the items from the type on, as they are spelt by their tokens
  pub rest_items : flat_map item_of (bare type_units ∷ tail items s) ≡ raw.bare (written_text type_units) ∷ items_of items
  rest_items = ap (λ t. raw.bare (written_text type_units) ∷ t) (tail_items items s)

pub items_spelt : (head : List ℕ) (class_number : ℕ) (h : IsHead head class_number) (type_text : List ℕ) (items : List TouchingItem) (type_is : IsToken (word type_text)) (s : AllByRecursion StandsBehind items) → flat_map item_of (tokens head (of_head head class_number h) type_text items type_is s) ≡ raw.bare h.owner ∷ raw.bare h.ttl ∷ raw.bare h.word ∷ raw.bare type_text ∷ items_of items
items_spelt head class_number h type_text items type_is s =
    ap (λ t. raw.bare (written_text h.owner_stands.units) ∷ raw.bare (written_text h.ttl_stands.units) ∷ raw.bare (written_text h.word_stands.units) ∷ t) (rest_items head (of_head head class_number h) type_text items type_is s)
    ∙ (λ j. raw.bare (sym h.owner_stands.spelt j) ∷ raw.bare (sym h.ttl_stands.spelt j) ∷ raw.bare (sym h.word_stands.spelt j) ∷ raw.bare (sym (plain_text type_text) j) ∷ items_of items)
