-- Lines that are entries by themselves, and stay.
use Rattle.std.proofs.Common.{◌≡◌, ◌≢◌, ℕ, zero, ◌<◌, ◌+◌, ◌-◌, ◌^◌, List, [], ◌∷◌, ◌++◌, length, take, drop, Option, Some, None, Bool, true, false, if◌then◌else◌, not, ◌==◌, ◌||◌, refl, sym, ap, subst, ◌∙◌, append_assoc, append-nil, arith, inl, inr, ap₂, eqb-true, length-append, take-append-drop}
use Rattle.std.proofs.lemmas.List.Folds.{length-prefix_len}
use Rattle.std.proofs.lemmas.List.Sums.{sum_by-append}
use Rattle.std.proofs.lemmas.Grind.{common_steps}
use Rattle.std.proofs.lemmas.List.{length-take}
use Rattle.std.specs.List.{AllByRecursion, flat_map, prefix_len, slice_get}
use Rattle.memchr.specs.Find.{Nowhere, Passes, is_byte}
use Rattle.words_print.proofs.Cuts.{around_last_at, has_none}
use Rattle.std.specs.Option.{option_or}
use Rattle.zone_name.proofs.InOctets.Runs.{prefix_step}
use Rattle.zone_name.proofs.InOctets.Pushing.{AllByRecursion-append, AllByRecursion-back, AllByRecursion-front}
use Rattle.zone_name.specs.Common.{AreOctets, Labels}
use Rattle.zone_name.specs.Name.{IsCasedName}
use Rattle.zone_name.specs.Spelling.{SpellsCased, Written, plain, written_text}
use Rattle.zone_rdata.specs.Spelling.{RawItem}
use Rattle.zone_rdata.specs.Spelling as raw
use Rattle.zone_text.proofs.Common.{flat_map-append, rules}
use Rattle.zone_text.specs.Entries.{Cut, cut_from, in_front_of, item_of}
use Rattle.zone_text.specs.FirstEntry.{IsOneEntry}
use Rattle.zone_text.specs.Statements.{Statement, directive, owned, statement_by, unowned}
use Rattle.zone_text.specs.Tokens.{AllFollow, IsToken, Token, bare, blank, closing, comment, depth_after, ends_item, is_blank, line_feed, opening, quoted, text, token_text}
use Rattle.zone_words.specs.Inherited.{IsOneOrNone}
use Rattle.zone_files.specs.Expansion.{EntryBecomes, Holds, StatementBecomes, line_feeds, owned_by, past, same, stays}
use Rattle.zone_files.specs.FileExpander.{Continues}
use Rattle.zone_files.specs.Places.{counted}
use Rattle.zone_files.specs.Machine.Lines.{AreLines, BeginsUnowned, EndsAtFeed, HasNoFeed, HasNoMark, HasParted, IsLine, LeavesOwner, MayStay, StatesOwner, StayOwned, Stays, feed, is_mark, nothing, omits, parts_owner, states}
use Rattle.zone_files.proofs.Expansions.Own.{not_out, spelled_or_not}
use Rattle.zone_files.proofs.Expansions.Steps.{continues_entry}

-- ---- the octets of a line as tokens

-- an octet before others, in a bare item
abbrev pub put : ℕ → List Token → List Token
put c (bare units ∷ ts) = bare (plain c ∷ units) ∷ ts
put c ts = bare (plain c ∷ []) ∷ ts

abbrev pub add : Bool → ℕ → List Token → List Token
add true c ts = blank c ∷ ts
add false c ts = put c ts

abbrev pub words_in : List ℕ → List Token
words_in [] = []
words_in (c ∷ octets) = add (is_blank c) c (words_in octets)

-- blanks and bare items
abbrev pub IsWord : Token → Type 0
IsWord (blank c) = Unit {0}
IsWord (bare units) = Unit {0}
IsWord p = ⊥

pub record AreWords (octets : List ℕ) (ts : List Token) : Type 0 where
  pub whole : text ts ≡ octets
  pub each : AllByRecursion IsToken ts
  pub words : AllByRecursion IsWord ts
  pub follow : AllFollow ts

unmarked_bits : (b q d l r n s f : Bool) → b ≡ false → f ≡ false → (q || d || l || r || n || s) ≡ false → ((b || f || q || l || r || n) ≡ false) × (s ≡ false)
unmarked_bits b q d l r n s f e g h = search rules

not_eq : (c d : ℕ) → (c == d) ≡ false → c ≢ d
not_eq c d e = grind arith

eq_not : (c d : ℕ) → c ≢ d → (c == d) ≡ false
eq_not c d e = grind arith

unit_of : (c : ℕ) → is_blank c ≡ false → is_mark c ≡ false → c ≢ 10 → (ends_item c ≡ false) × (c ≢ 92)
unit_of c b m f =
    let bits = unmarked_bits (is_blank c) (c == 34) (c == 36) (c == 40) (c == 41) (c == 59) (c == 92) (c == 10) b (eq_not c 10 f) m in
    (bits.0, not_eq c 92 bits.1)

put_words : (c : ℕ) (octets : List ℕ) (ts : List Token) → (ends_item c ≡ false) × (c ≢ 92) → AreWords octets ts → AreWords (c ∷ octets) (put c ts)
put_words c octets [] u w = record { whole = ap (λ t. c ∷ t) w.whole; each = ((omega arith, (u, tt)), tt); words = (tt, tt); follow = tt }
put_words c octets (bare units ∷ []) u w = record { whole = ap (λ t. c ∷ t) w.whole; each = ((omega arith, (u, w.each.0.1)), tt); words = (tt, tt); follow = tt }
put_words c octets (bare units ∷ q ∷ ts) u w = record { whole = ap (λ t. c ∷ t) w.whole; each = ((omega arith, (u, w.each.0.1)), w.each.1); words = (tt, w.words.1); follow = follow_on q w.follow }
  where
    follow_on : (q : Token) → AllFollow (bare units ∷ q ∷ ts) → AllFollow (bare (plain c ∷ units) ∷ q ∷ ts)
    follow_on (bare more) f = absurd f.0
    follow_on (blank b) f = f
    follow_on opening f = f
    follow_on closing f = f
    follow_on line_feed f = f
    follow_on (comment n) f = f
    follow_on (quoted n) f = f
put_words c octets (blank b ∷ ts) u w = record { whole = ap (λ t. c ∷ t) w.whole; each = ((omega arith, (u, tt)), w.each); words = (tt, w.words); follow = (tt, w.follow) }
put_words c octets (opening ∷ ts) u w = absurd w.words.0
put_words c octets (closing ∷ ts) u w = absurd w.words.0
put_words c octets (line_feed ∷ ts) u w = absurd w.words.0
put_words c octets (comment n ∷ ts) u w = absurd w.words.0
put_words c octets (quoted n ∷ ts) u w = absurd w.words.0

blank_words : (c : ℕ) (octets : List ℕ) (ts : List Token) → is_blank c ≡ true → AreWords octets ts → AreWords (c ∷ octets) (blank c ∷ ts)
blank_words c octets [] b w = record { whole = ap (λ t. c ∷ t) w.whole; each = (b, tt); words = (tt, tt); follow = tt }
blank_words c octets (q ∷ ts) b w = record { whole = ap (λ t. c ∷ t) w.whole; each = (b, w.each); words = (tt, w.words); follow = (tt, w.follow) }

add_words : (b : Bool) (c : ℕ) (octets : List ℕ) (ts : List Token) → is_blank c ≡ b → is_mark c ≡ false → c ≢ 10 → AreWords octets ts → AreWords (c ∷ octets) (add b c ts)
add_words true c octets ts is m f w = blank_words c octets ts is w
add_words false c octets ts is m f w = put_words c octets ts (unit_of c is m f) w

pub are_words : (octets : List ℕ) → HasNoMark octets → HasNoFeed octets → AreWords octets (words_in octets)
are_words [] m f = record { whole = refl; each = tt; words = tt; follow = tt }
are_words (c ∷ octets) m f = add_words (is_blank c) c octets (words_in octets) refl m.0 f.0 (are_words octets m.1 f.1)

-- ---- a line is an entry

abbrev pub line_tokens : List Token → List Token
line_tokens ts = ts ++ line_feed ∷ []

with_feed_each : (ts : List Token) → AllByRecursion IsToken ts → AllByRecursion IsToken (line_tokens ts)
with_feed_each ts each = AllByRecursion-append IsToken ts (line_feed ∷ []) each (tt, tt)

with_feed_follow : (ts : List Token) → AllByRecursion IsWord ts → AllFollow ts → AllFollow (line_tokens ts)
with_feed_follow [] w f = tt
with_feed_follow (blank b ∷ []) w f = (tt, tt)
with_feed_follow (bare u ∷ []) w f = (tt, tt)
with_feed_follow (p ∷ q ∷ ts) w f = (f.0, with_feed_follow (q ∷ ts) w.1 f.1)
with_feed_follow (opening ∷ []) w f = absurd w.0
with_feed_follow (closing ∷ []) w f = absurd w.0
with_feed_follow (line_feed ∷ []) w f = absurd w.0
with_feed_follow (comment n ∷ []) w f = absurd w.0
with_feed_follow (quoted n ∷ []) w f = absurd w.0

with_feed_depth : (ts : List Token) → AllByRecursion IsWord ts → depth_after zero (line_tokens ts) ≡ Some zero
with_feed_depth [] w = refl
with_feed_depth (blank b ∷ ts) w = with_feed_depth ts w.1
with_feed_depth (bare u ∷ ts) w = with_feed_depth ts w.1
with_feed_depth (opening ∷ ts) w = absurd w.0
with_feed_depth (closing ∷ ts) w = absurd w.0
with_feed_depth (line_feed ∷ ts) w = absurd w.0
with_feed_depth (comment n ∷ ts) w = absurd w.0
with_feed_depth (quoted n ∷ ts) w = absurd w.0

abbrev one_cut : List Token → Cut
one_cut ts = record { ended = ts ∷ []; open_tokens = [] }

with_feed_cut : (ts : List Token) → AllByRecursion IsWord ts → cut_from zero (line_tokens ts) ≡ one_cut (line_tokens ts)
with_feed_cut [] w = refl
with_feed_cut (blank b ∷ ts) w = ap (in_front_of (blank b)) (with_feed_cut ts w.1)
with_feed_cut (bare u ∷ ts) w = ap (in_front_of (bare u)) (with_feed_cut ts w.1)
with_feed_cut (opening ∷ ts) w = absurd w.0
with_feed_cut (closing ∷ ts) w = absurd w.0
with_feed_cut (line_feed ∷ ts) w = absurd w.0
with_feed_cut (comment n ∷ ts) w = absurd w.0
with_feed_cut (quoted n ∷ ts) w = absurd w.0

with_feed_text : (ts : List Token) → text (line_tokens ts) ≡ text ts ++ 10 ∷ []
with_feed_text ts = flat_map-append token_text ts (line_feed ∷ [])

pub line_one : (octets : List ℕ) (ts : List Token) → AreWords octets ts → IsOneEntry (octets ++ 10 ∷ []) (line_tokens ts)
line_one octets ts w = record {
  cut = record {
    whole = sym (with_feed_text ts ∙ ap (λ t. t ++ 10 ∷ []) w.whole);
    each = with_feed_each ts w.each;
    follow = with_feed_follow ts w.words w.follow;
    balanced = with_feed_depth ts w.words;
  };
  ended = with_feed_cut ts w.words;
}

-- ---- the owner that a line states

abbrev inside : ℕ → Bool
inside c = not (parts_owner c)

abbrev pub owner_in : List ℕ → List ℕ
owner_in octets = take (prefix_len inside octets) octets

owner_stops : (c : ℕ) (octets : List ℕ) → parts_owner c ≡ true → owner_in (c ∷ octets) ≡ []
owner_stops c octets is = elim (prefix_step parts_owner c octets) [
  | inl e ↦ ap (λ n. take n (c ∷ octets)) e.1
  | inr e ↦ absurd (let no_way : true ≡ false = sym is ∙ e.0 in cc)
]

owner_goes : (c : ℕ) (octets : List ℕ) → parts_owner c ≡ false → owner_in (c ∷ octets) ≡ c ∷ owner_in octets
owner_goes c octets is = elim (prefix_step parts_owner c octets) [
  | inl e ↦ absurd (let no_way : false ≡ true = sym is ∙ e.0 in cc)
  | inr e ↦ ap (λ n. take n (c ∷ octets)) e.1
]

or_true : (a b : Bool) → a ≡ true → (a || b) ≡ true
or_true a b e = ap (λ t. t || b) e

or_false : (a b : Bool) → a ≡ false → b ≡ false → (a || b) ≡ false
or_false a b e f = ap₂ (λ s t. s || t) e f

-- the first token, where the first octet is no blank, and the tokens after it
pub record BeginsWith (octets : List ℕ) (ts : List Token) : Type 0 where
  pub units : List Written
  pub more : List Token
  pub are : ts ≡ bare units ∷ more
  pub owner : written_text units ≡ owner_in (octets ++ 10 ∷ [])

begins_by : (b : Bool) (c d : ℕ) (octets : List ℕ) → is_blank c ≡ false → c ≢ 10 → is_blank d ≡ b → (is_blank d ≡ false → BeginsWith (d ∷ octets) (words_in (d ∷ octets))) → BeginsWith (c ∷ d ∷ octets) (put c (words_in (d ∷ octets)))
begins_by true c d octets is f blank_is begins = record {
  units = plain c ∷ [];
  more = words_in (d ∷ octets);
  are = ap (λ b. put c (add b d (words_in octets))) blank_is ∙ sym (ap (λ b. bare (plain c ∷ []) ∷ add b d (words_in octets)) blank_is);
  owner = sym (owner_goes c ((d ∷ octets) ++ 10 ∷ []) (or_false (is_blank c) (c == 10) is (eq_not c 10 f)) ∙ ap (λ t. c ∷ t) (owner_stops d (octets ++ 10 ∷ []) (or_true (is_blank d) (d == 10) blank_is)));
}
begins_by false c d octets is f blank_is begins =
    let b = begins blank_is in
    record {
      units = plain c ∷ b.units;
      more = b.more;
      are = ap (put c) b.are;
      owner = ap (λ t. c ∷ t) b.owner ∙ sym (owner_goes c ((d ∷ octets) ++ 10 ∷ []) (or_false (is_blank c) (c == 10) is (eq_not c 10 f)));
    }

begins_with : (c : ℕ) (octets : List ℕ) → is_blank c ≡ false → HasNoFeed (c ∷ octets) → BeginsWith (c ∷ octets) (put c (words_in octets))
begins_with c [] is f = record {
  units = plain c ∷ [];
  more = [];
  are = refl;
  owner = sym (owner_goes c (10 ∷ []) (or_false (is_blank c) (c == 10) is (eq_not c 10 f.0)) ∙ ap (λ t. c ∷ t) (owner_stops 10 [] refl));
}
begins_with c (d ∷ octets) is f = begins_by (is_blank d) c d octets is f.0 refl (λ blank_is. subst (λ b. BeginsWith (d ∷ octets) (add b d (words_in octets))) (sym blank_is) (begins_with d octets blank_is f.1))

-- ---- what a line leaves

stay_one : (h next : Holds) (octets : List ℕ) (tokens : List Token) → IsOneEntry octets tokens → EntryBecomes h tokens (stays octets next) → Stays h octets next
stay_one h next octets tokens one becomes start fed files given c = continues_entry start h [] octets fed files given c tokens one octets next becomes

stay_none : (h : Holds) → Stays h [] h
stay_none h start fed files given c =
    subst (λ t. Continues start h [] t files (given ++ [])) (sym (append-nil fed))
    (subst (λ t. Continues start h [] fed files t) (sym (append-nil given)) c)

stay_then : (h next last : Holds) (a b : List ℕ) → Stays h a next → Stays next b last → Stays h (a ++ b) last
stay_then h next last a b f g start fed files given c =
    subst (λ t. Continues start last [] t files (given ++ (a ++ b))) (append_assoc fed a b)
    (subst (λ t. Continues start last [] ((fed ++ a) ++ b) files t) (append_assoc given a b)
    (g start (fed ++ a) files (given ++ a) (f start fed files given c)))

-- lines are counted one after another
counted_twice : (line : ℕ) (a b : List ℕ) → counted (counted (line + line_feeds a) + line_feeds b) ≡ counted (line + line_feeds (a ++ b))
counted_twice line a b = let both : line_feeds (a ++ b) ≡ line_feeds a + line_feeds b = sum_by-append _ a b in rw (both) (omega arith)

past_none : (h : Holds) → h.line < 2 ^ 64 → past [] h ≡ h
past_none h low = ap (λ n. record h { line = n }) (same h.line low)
  where
    same : (line : ℕ) → line < 2 ^ 64 → counted (line + 0) ≡ line
    same line low = omega (arith, low)

owned_twice : (f g : Option Labels) (a b : List ℕ) (h : Holds) → owned_by g (past b (owned_by f (past a h))) ≡ owned_by (option_or g f) (past (a ++ b) h)
owned_twice f None a b h = ap (λ n. owned_by f (record h { line = n })) (counted_twice h.line a b)
owned_twice f (Some name) a b h = ap (λ n. owned_by (Some name) (record h { line = n })) (counted_twice h.line a b)

may_after : (h : Holds) (named : Option Labels) (octets : List ℕ) → MayStay h → MayStay (owned_by named (past octets h))
may_after h named octets may = record {
  own = ap (option_or named) may.own;
  none_out = may.none_out;
  line = few (h.line + line_feeds octets);
}
  where
    few : (n : ℕ) → counted n < 2 ^ 64
    few n = omega arith

-- the owner of the octets behind, or else that of those before them
stay_both : (h : Holds) (a b : List ℕ) (f g : Option Labels) → Stays h a (owned_by f (past a h)) → Stays (owned_by f (past a h)) b (owned_by g (past b (owned_by f (past a h)))) → Stays h (a ++ b) (owned_by (option_or g f) (past (a ++ b) h))
stay_both h a b f g first other = subst (Stays h (a ++ b)) (owned_twice f g a b h) (stay_then h (owned_by f (past a h)) (owned_by g (past b (owned_by f (past a h)))) a b first other)

-- by its first octet
abbrev Form : Bool → Bool → RawItem → List RawItem → Statement
Form a b item items = if a then directive item items else if b then unowned (item ∷ items) else owned item items

no_dollar : (c : ℕ) → is_blank c ≡ true → (c == 36) ≡ false
no_dollar c is = grind arith

unowned_becomes : (h : Holds) → h.owner ≡ h.stated → (entry : List ℕ) (c : ℕ) (items : List RawItem) → is_blank c ≡ true → StatementBecomes h entry items (statement_by (Some c) items) (stays entry (past entry h))
unowned_becomes h own entry c [] is = refl
unowned_becomes h own entry c (item ∷ items) is =
    subst (λ a. StatementBecomes h entry (item ∷ items) (Form a (is_blank c) item items) (stays entry (past entry h))) (sym (no_dollar c is))
    (subst (λ b. StatementBecomes h entry (item ∷ items) (Form false b item items) (stays entry (past entry h))) (sym is) (same own refl))

owned_becomes : (h : Holds) (entry : List ℕ) (c : ℕ) (owner : List ℕ) (items : List RawItem) (named : Option Labels) → is_blank c ≡ false → (c == 36) ≡ false → IsOneOrNone (SpellsCased (Some h.origin) owner) named → StatementBecomes h entry (raw.bare owner ∷ items) (statement_by (Some c) (raw.bare owner ∷ items)) (stays entry (owned_by named (past entry h)))
owned_becomes h entry c owner items named is other spelt =
    subst (λ a. StatementBecomes h entry (raw.bare owner ∷ items) (Form a (is_blank c) (raw.bare owner) items) (stays entry (owned_by named (past entry h)))) (sym other)
    (subst (λ b. StatementBecomes h entry (raw.bare owner ∷ items) (Form false b (raw.bare owner) items) (stays entry (owned_by named (past entry h)))) (sym is) (named, spelt, refl))

-- what becomes of an entry, by its text
becomes_by : (h next : Holds) (octets : List ℕ) (tokens : List Token) → h.taken_out ≡ [] → text tokens ≡ octets → StatementBecomes h octets (flat_map item_of tokens) (statement_by (slice_get octets 0) (flat_map item_of tokens)) (stays octets next) → EntryBecomes h tokens (stays octets next)
becomes_by h next octets tokens none is b = not_out h tokens (stays octets next) none (subst (λ t. StatementBecomes h t (flat_map item_of tokens) (statement_by (slice_get t 0) (flat_map item_of tokens)) (stays octets next)) (sym is) b)

dollar_bit : (q d l r n s : Bool) → (q || d || l || r || n || s) ≡ false → d ≡ false
dollar_bit q d l r n s e = search rules

module _ (h : Holds) (none : h.taken_out ≡ []) (body : List ℕ) (unmarked : HasNoMark body) (unfed : HasNoFeed body) where
  all_words : AreWords body (words_in body)
  all_words = are_words body unmarked unfed

  stay_line : (next : Holds) → StatementBecomes h (body ++ 10 ∷ []) (flat_map item_of (line_tokens (words_in body))) (statement_by (slice_get (body ++ 10 ∷ []) 0) (flat_map item_of (line_tokens (words_in body)))) (stays (body ++ 10 ∷ []) next) → Stays h (body ++ 10 ∷ []) next
  stay_line next b = stay_one h next (body ++ 10 ∷ []) (line_tokens (words_in body)) (line_one body (words_in body) all_words)
      (becomes_by h next (body ++ 10 ∷ []) (line_tokens (words_in body)) none (with_feed_text (words_in body) ∙ ap (λ t. t ++ 10 ∷ []) all_words.whole) b)

blank_line : (h : Holds) → MayStay h → (c : ℕ) (body : List ℕ) → HasNoMark (c ∷ body) → HasNoFeed (c ∷ body) → is_blank c ≡ true → Stays h ((c ∷ body) ++ 10 ∷ []) (past ((c ∷ body) ++ 10 ∷ []) h)
blank_line h may c body unmarked unfed is = stay_line h may.none_out (c ∷ body) unmarked unfed (past ((c ∷ body) ++ 10 ∷ []) h) (unowned_becomes h may.own ((c ∷ body) ++ 10 ∷ []) c (flat_map item_of (line_tokens (words_in (c ∷ body)))) is)

empty_line : (h : Holds) → h.taken_out ≡ [] → Stays h (10 ∷ []) (past (10 ∷ []) h)
empty_line h none = stay_line h none [] tt tt (past (10 ∷ []) h) refl

owned_line : (h : Holds) → h.taken_out ≡ [] → (c : ℕ) (body : List ℕ) → HasNoMark (c ∷ body) → HasNoFeed (c ∷ body) → is_blank c ≡ false → (named : Option Labels) → IsOneOrNone (SpellsCased (Some h.origin) (owner_in ((c ∷ body) ++ 10 ∷ []))) named → Stays h ((c ∷ body) ++ 10 ∷ []) (owned_by named (past ((c ∷ body) ++ 10 ∷ []) h))
owned_line h none c body unmarked unfed is named spelt =
    let first = begins_with c body is unfed in
    let next : Holds = owned_by named (past ((c ∷ body) ++ 10 ∷ []) h) in
    let are : words_in (c ∷ body) ≡ bare first.units ∷ first.more = ap (λ b. add b c (words_in body)) is ∙ first.are in
    let other : (c == 36) ≡ false = dollar_bit (c == 34) (c == 36) (c == 40) (c == 41) (c == 59) (c == 92) unmarked.0 in
    stay_line h none (c ∷ body) unmarked unfed next
    (subst (λ ts. StatementBecomes h ((c ∷ body) ++ 10 ∷ []) (flat_map item_of (line_tokens ts)) (statement_by (Some c) (flat_map item_of (line_tokens ts))) (stays ((c ∷ body) ++ 10 ∷ []) next)) (sym are)
    (owned_becomes h ((c ∷ body) ++ 10 ∷ []) c (written_text first.units) (flat_map item_of (line_tokens first.more)) named is other
    (subst (λ t. IsOneOrNone (SpellsCased (Some h.origin) t) named) (sym first.owner) spelt)))

-- ---- a line by what its owner spells

not_none : (line owner : List ℕ) → StatesOwner line owner → owner_in line ≡ [] → ⊥
not_none line owner st none = let e : owner ≡ [] = st.is ∙ none in omega (arith, st.some, ap length e)

leaves_blank : (h : Holds) → (line : List ℕ) (found : Option Labels) → LeavesOwner h.origin line found → owner_in line ≡ [] → Stays h line (past line h) → Stays h line (owned_by found (past line h))
leaves_blank h line found (states owner st spelt) none s = absurd (not_none line owner st none)
leaves_blank h line found (omits begins is) none s = subst (λ f. Stays h line (owned_by f (past line h))) (sym is) s

leaves_owned : (h : Holds) → h.taken_out ≡ [] → (c : ℕ) (body : List ℕ) → HasNoMark (c ∷ body) → HasNoFeed (c ∷ body) → is_blank c ≡ false → (found : Option Labels) → LeavesOwner h.origin ((c ∷ body) ++ 10 ∷ []) found → Stays h ((c ∷ body) ++ 10 ∷ []) (owned_by found (past ((c ∷ body) ++ 10 ∷ []) h))
leaves_owned h none c body unmarked unfed is found (states owner st spelt) = owned_line h none c body unmarked unfed is found (subst (λ t. IsOneOrNone (SpellsCased (Some h.origin) t) found) st.is spelt)
leaves_owned h out c body unmarked unfed is found (omits begins none) =
    absurd (let e : owner_in ((c ∷ body) ++ 10 ∷ []) ≡ [] = ap (λ n. take n ((c ∷ body) ++ 10 ∷ [])) begins in
    let g : c ∷ owner_in (body ++ 10 ∷ []) ≡ [] = sym (owner_goes c (body ++ 10 ∷ []) (or_false (is_blank c) (c == 10) is (eq_not c 10 unfed.0))) ∙ e in cc)

leaves_by : (h : Holds) → MayStay h → (body : List ℕ) → HasNoMark body → HasNoFeed body → (found : Option Labels) → LeavesOwner h.origin (body ++ 10 ∷ []) found → Stays h (body ++ 10 ∷ []) (owned_by found (past (body ++ 10 ∷ []) h))
leaves_by h may [] unmarked unfed found leaves = leaves_blank h (10 ∷ []) found leaves (owner_stops 10 [] refl) (empty_line h may.none_out)
leaves_by h may (c ∷ body) unmarked unfed found leaves = by (is_blank c) refl
  where
    by : (b : Bool) → is_blank c ≡ b → Stays h ((c ∷ body) ++ 10 ∷ []) (owned_by found (past ((c ∷ body) ++ 10 ∷ []) h))
    by true is = leaves_blank h ((c ∷ body) ++ 10 ∷ []) found leaves (owner_stops c (body ++ 10 ∷ []) (or_true (is_blank c) (c == 10) is)) (blank_line h may c body unmarked unfed is)
    by false is = leaves_owned h may.none_out c body unmarked unfed is found leaves

pub line_leaves : (h : Holds) → MayStay h → (line : List ℕ) → IsLine line → (found : Option Labels) → LeavesOwner h.origin line found → Stays h line (owned_by found (past line h))
line_leaves h may line is found leaves =
    subst (λ t. Stays h t (owned_by found (past t h))) (sym is.whole)
    (leaves_by h may is.body is.unmarked is.unfed found (subst (λ t. LeavesOwner h.origin t found) is.whole leaves))

-- ---- lines, whatever their owners

octets_of_take : (n : ℕ) (octets : List ℕ) → AreOctets octets → AreOctets (take n octets)
octets_of_take n octets low = AllByRecursion-front (λ c. c < 256) (take n octets) (drop n octets) (subst AreOctets (sym (take-append-drop n octets)) low)

owner_by : (origin : Labels) → IsCasedName origin → (line owner : List ℕ) → owner ≡ owner_in line → AreOctets owner → (found : Option Labels) × LeavesOwner origin line found
owner_by origin is line [] are low = (None, omits (no_length line (sym are)) refl)
  where
    no_length : (line : List ℕ) → owner_in line ≡ [] → BeginsUnowned line
    no_length line none = sym (length-prefix_len inside line) ∙ ap length none
owner_by origin is line (c ∷ owner) are low =
    let n = spelled_or_not origin is (c ∷ owner) low in
    (n.0, states (c ∷ owner) (record { some = omega arith; is = are }) n.1)

abbrev IsBody : List ℕ → Type 0
IsBody body = HasNoMark body × HasNoFeed body

abbrev with_feed : List ℕ → List ℕ
with_feed body = body ++ 10 ∷ []

bodies_stay : (bodies : List (List ℕ)) → AllByRecursion IsBody bodies → AreOctets (flat_map with_feed bodies) → (h : Holds) → IsCasedName h.origin → MayStay h → (named : Option Labels) × Stays h (flat_map with_feed bodies) (owned_by named (past (flat_map with_feed bodies) h))
bodies_stay [] each low h name may = (None, subst (Stays h []) (sym (past_none h may.line)) (stay_none h))
bodies_stay (body ∷ bodies) each low h name may =
    let line : List ℕ = with_feed body in
    let here = owner_by h.origin name line (owner_in line) refl (octets_of_take (prefix_len inside line) line (AllByRecursion-front (λ c. c < 256) line (flat_map with_feed bodies) low)) in
    let next : Holds = owned_by here.0 (past line h) in
    let others = bodies_stay bodies each.1 (AllByRecursion-back (λ c. c < 256) line (flat_map with_feed bodies) low) next name (may_after h here.0 line may) in (
      option_or others.0 here.0,
      stay_both h line (flat_map with_feed bodies) here.0 others.0 (leaves_by h may body each.0.0 each.0.1 here.0 here.1) others.1,
    )

-- ---- octets as lines

pub record Bodies (octets : List ℕ) : Type 0 where
  pub bodies : List (List ℕ)
  pub are : octets ≡ flat_map with_feed bodies
  pub each : AllByRecursion IsBody bodies

ends_behind : (c d : ℕ) (octets : List ℕ) → EndsAtFeed (c ∷ d ∷ octets) → EndsAtFeed (d ∷ octets)
ends_behind c d octets (nothing e) = absurd (let no_way : c ∷ d ∷ octets ≡ [] = e in cc)
ends_behind c d octets (feed [] e) = absurd (let no_way : c ∷ d ∷ octets ≡ 10 ∷ [] = e in cc)
ends_behind c d octets (feed (x ∷ front) e) = feed front (ap (drop 1) e)

last_feed : (c : ℕ) → EndsAtFeed (c ∷ []) → c ≡ 10
last_feed c (nothing e) = absurd (let no_way : c ∷ [] ≡ [] = e in cc)
last_feed c (feed [] e) = let same : c ∷ [] ≡ 10 ∷ [] = e in cc
last_feed c (feed (x ∷ front) e) = absurd (omega (arith, ap length e, length-append front (10 ∷ [])))

feed_before : (c : ℕ) (octets : List ℕ) → c ≡ 10 → Bodies octets → Bodies (c ∷ octets)
feed_before c octets is b = record { bodies = [] ∷ b.bodies; are = ap₂ (λ x xs. x ∷ xs) is b.are; each = ((tt, tt), b.each) }

octet_before : (c d : ℕ) (octets : List ℕ) → c ≢ 10 → is_mark c ≡ false → (bodies : List (List ℕ)) → d ∷ octets ≡ flat_map with_feed bodies → AllByRecursion IsBody bodies → Bodies (c ∷ d ∷ octets)
octet_before c d octets other unmarked [] are each = absurd (let no_way : d ∷ octets ≡ [] = are in cc)
octet_before c d octets other unmarked (body ∷ bodies) are each = record { bodies = (c ∷ body) ∷ bodies; are = ap (λ t. c ∷ t) are; each = (((unmarked, each.0.0), (other, each.0.1)), each.1) }

cut_bodies : (octets : List ℕ) → HasNoMark octets → EndsAtFeed octets → Bodies octets
cut_bodies [] unmarked ends = record { bodies = []; are = refl; each = tt }
cut_bodies (c ∷ []) unmarked ends = feed_before c [] (last_feed c ends) (record { bodies = []; are = refl; each = tt })
cut_bodies (c ∷ d ∷ octets) unmarked ends = by (c == 10) refl (cut_bodies (d ∷ octets) unmarked.1 (ends_behind c d octets ends))
  where
    by : (b : Bool) → (c == 10) ≡ b → Bodies (d ∷ octets) → Bodies (c ∷ d ∷ octets)
    by true is others = feed_before c (d ∷ octets) (eqb-true c 10 is) others
    by false is others = octet_before c d octets (not_eq c 10 is) unmarked.0 others.bodies others.are others.each

pub lines_stay : (octets : List ℕ) → AreLines octets → AreOctets octets → (h : Holds) → IsCasedName h.origin → MayStay h → (named : Option Labels) × Stays h octets (owned_by named (past octets h))
lines_stay octets lines low h name may =
    let b = cut_bodies octets lines.unmarked lines.ends in
    subst (λ t. (named : Option Labels) × Stays h t (owned_by named (past t h))) (sym b.are) (bodies_stay b.bodies b.each (subst AreOctets b.are low) h name may)

-- ---- from the last line back

-- the lines behind leave what holds before them, under this origin
pub record StayBehind (origin : Labels) (lines front : List ℕ) : Type 0 where
  pub back : List ℕ
  pub whole : lines ≡ front ++ back
  pub stay : StayOwned origin back None

pub none_behind : (origin : Labels) (lines : List ℕ) → StayBehind origin lines lines
none_behind origin lines = record { back = []; whole = sym (append-nil lines); stay = λ h under may. subst (Stays h []) (sym (past_none h may.line)) (stay_none h) }

pub line_behind : (origin : Labels) (lines front before line : List ℕ) (found : Option Labels) → StayBehind origin lines front → front ≡ before ++ line → IsLine line → LeavesOwner origin line found → found ≡ None → StayBehind origin lines before
line_behind origin lines front before line found behind parts is leaves none = record {
  back = line ++ behind.back;
  whole = behind.whole ∙ ap (λ t. t ++ behind.back) parts ∙ append_assoc before line behind.back;
  stay = λ h under may. stay_both h line behind.back None None
      (line_leaves h may line is None (subst (λ o. LeavesOwner o line None) (sym under) (subst (LeavesOwner origin line) none leaves)))
      (behind.stay (owned_by None (past line h)) under (may_after h None line may));
}

pub stay_all : (origin : Labels) (lines front : List ℕ) → StayBehind origin lines front → front ≡ [] → StayOwned origin lines None
stay_all origin lines front behind none =
    subst (λ t. StayOwned origin t None) (sym (behind.whole ∙ ap (λ t. t ++ behind.back) none)) behind.stay

pub stay_owned : (origin : Labels) (lines front before line : List ℕ) (name : Labels) → IsCasedName origin → StayBehind origin lines front → front ≡ before ++ line → AreLines before → AreOctets lines → IsLine line → LeavesOwner origin line (Some name) → StayOwned origin lines (Some name)
stay_owned origin lines front before line name cased behind parts lines_before low is leaves h under may =
    let whole : lines ≡ before ++ (line ++ behind.back) = behind.whole ∙ ap (λ t. t ++ behind.back) parts ∙ append_assoc before line behind.back in
    let first = lines_stay before lines_before (AllByRecursion-front (λ c. c < 256) before (line ++ behind.back) (subst AreOctets whole low)) h (subst IsCasedName (sym under) cased) may in
    let mid : Holds = owned_by first.0 (past before h) in
    let may_mid : MayStay mid = may_after h first.0 before may in
    let next : Holds = owned_by (Some name) (past line mid) in
    subst (λ t. Stays h t (owned_by (Some name) (past t h))) (sym whole)
    (stay_both h before (line ++ behind.back) first.0 (Some name) first.1
    (stay_both mid line behind.back (Some name) None
    (line_leaves mid may_mid line is (Some name) (subst (λ o. LeavesOwner o line (Some name)) (sym under) leaves))
    (behind.stay next under (may_after mid (Some name) line may_mid))))

-- ---- octets parted after a line feed

take_front : (a b : List ℕ) → take (length a) (a ++ b) ≡ a
take_front a b = grind (arith, common_steps)

drop_front : (a b : List ℕ) → drop (length a) (a ++ b) ≡ b
drop_front a b = grind (arith, common_steps)

parted_by : (octets a b front back : List ℕ) (k : ℕ) → octets ≡ (a ++ 10 ∷ []) ++ b → k ≡ length (a ++ 10 ∷ []) → front ≡ take k octets → back ≡ drop k octets → HasNoFeed b → HasParted octets front back
parted_by octets a b front back k parts long front_is back_is none =
    let first : front ≡ a ++ 10 ∷ [] = front_is ∙ ap₂ take long parts ∙ take_front (a ++ 10 ∷ []) b in
    let second : back ≡ b = back_is ∙ ap₂ drop long parts ∙ drop_front (a ++ 10 ∷ []) b in
    record { whole = parts ∙ ap₂ (λ s t. s ++ t) (sym first) (sym second); ends = feed a first; none = subst HasNoFeed (sym second) none }

pub parted_at : (octets front back : List ℕ) (k : ℕ) → front ≡ take (k + 1) octets → back ≡ drop (k + 1) octets → k < length octets → Nowhere (Passes (is_byte 10) octets) (k + 1) (length octets) → Passes (is_byte 10) octets k → HasParted octets front back
parted_at octets front back k front_is back_is inside after here =
    let a = around_last_at 10 octets (take k octets) (drop k octets) (drop 1 (drop k octets)) k refl refl refl inside after here in
    parted_by octets (take k octets) (drop 1 (drop k octets)) front back (k + 1)
    (a.whole ∙ sym (append_assoc (take k octets) (10 ∷ []) (drop 1 (drop k octets))))
    (omega (arith, length-append (take k octets) (10 ∷ []), length-take k octets, inside)) front_is back_is a.none

pub parted_none : (octets front back : List ℕ) → front ≡ take 0 octets → back ≡ drop 0 octets → Nowhere (Passes (is_byte 10) octets) 0 (length octets) → HasParted octets front back
parted_none octets front back front_is back_is none = record {
  whole = sym (ap₂ (λ s t. s ++ t) front_is back_is);
  ends = nothing front_is;
  none = subst HasNoFeed (sym back_is) (has_none 10 octets none);
}

-- ---- the last line

fed_front : (octets : List ℕ) → 0 < length octets → EndsAtFeed octets → (front : List ℕ) × (octets ≡ front ++ 10 ∷ [])
fed_front octets some (nothing e) = absurd (omega (arith, some, ap length e))
fed_front octets some (feed front e) = (front, e)

pub record LastLine (lines before line : List ℕ) : Type 0 where
  pub before_is : AreLines before
  pub line_is : IsLine line
  pub parts : lines ≡ before ++ line
  pub shorter : length before < length lines

last_by : (lines front head rest before line : List ℕ) → HasNoMark lines → lines ≡ front ++ 10 ∷ [] → front ≡ head ++ rest → EndsAtFeed head → HasNoFeed rest → before ≡ take (length head) lines → line ≡ drop (length head) lines → LastLine lines before line
last_by lines front head rest before line unmarked whole parts ends none before_is line_is =
    let all : lines ≡ head ++ (rest ++ 10 ∷ []) = whole ∙ ap (λ t. t ++ 10 ∷ []) parts ∙ append_assoc head rest (10 ∷ []) in
    let first : before ≡ head = before_is ∙ ap (take (length head)) all ∙ take_front head (rest ++ 10 ∷ []) in
    let second : line ≡ rest ++ 10 ∷ [] = line_is ∙ ap (drop (length head)) all ∙ drop_front head (rest ++ 10 ∷ []) in
    let low : HasNoMark (head ++ (rest ++ 10 ∷ [])) = subst HasNoMark all unmarked in
    record {
      before_is = record {
        unmarked = subst HasNoMark (sym first) (AllByRecursion-front (λ c. is_mark c ≡ false) head (rest ++ 10 ∷ []) low);
        ends = subst EndsAtFeed (sym first) ends;
      };
      line_is = record {
        body = rest;
        whole = second;
        unmarked = AllByRecursion-front (λ c. is_mark c ≡ false) rest (10 ∷ []) (AllByRecursion-back (λ c. is_mark c ≡ false) head (rest ++ 10 ∷ []) low);
        unfed = none;
      };
      parts = all ∙ ap₂ (λ s t. s ++ t) (sym first) (sym second);
      shorter = omega (arith, ap length all, length-append head (rest ++ 10 ∷ []), length-append rest (10 ∷ []), ap length first);
    }

pub last_at : (lines front head rest before line : List ℕ) → AreLines lines → 0 < length lines → front ≡ take (length lines - 1) lines → HasParted front head rest → before ≡ take (length head) lines → line ≡ drop (length head) lines → LastLine lines before line
last_at lines front head rest before line are some front_is parted before_is line_is =
    let f = fed_front lines some are.ends in
    let long : length lines - 1 ≡ length f.0 = omega (arith, ap length f.1, length-append f.0 (10 ∷ [])) in
    let same : front ≡ f.0 = front_is ∙ ap₂ take long f.1 ∙ take_front f.0 (10 ∷ []) in
    last_by lines front head rest before line are.unmarked (f.1 ∙ ap (λ t. t ++ 10 ∷ []) (sym same)) parted.whole parted.ends parted.none before_is line_is

-- ---- the owner

pub owner_stated : (line owner : List ℕ) (n : ℕ) → n ≡ prefix_len (λ c. not (parts_owner c)) line → (n ≡ 0 → ⊥) → owner ≡ take n line → StatesOwner line owner
owner_stated line owner n len some is = record {
  some = omega (arith, some, len, ap length is, ap (λ m. length (take m line)) len, length-prefix_len inside line);
  is = is ∙ ap (λ m. take m line) len;
}

-- ---- the lines at the front

none_marked : (octets : List ℕ) → HasNoMark (take (prefix_len (λ c. not (is_mark c)) octets) octets)
none_marked [] = tt
none_marked (c ∷ octets) = elim (prefix_step is_mark c octets) [
  | inl e ↦ subst (λ n. HasNoMark (take n (c ∷ octets))) (sym e.1) tt
  | inr e ↦ subst (λ n. HasNoMark (take n (c ∷ octets))) (sym e.1) (e.0, none_marked octets)
]

pub lines_front : (octets unmarked lines rest taken : List ℕ) (n : ℕ) → n ≡ prefix_len (λ c. not (is_mark c)) octets → unmarked ≡ take n octets → HasParted unmarked lines rest → taken ≡ take (length lines) octets → AreLines taken
lines_front octets unmarked lines rest taken n len is parted taken_is =
    let none : HasNoMark unmarked = subst HasNoMark (sym (is ∙ ap (λ m. take m octets) len)) (none_marked octets) in
    let all : octets ≡ lines ++ (rest ++ drop n octets) = sym (take-append-drop n octets) ∙ ap (λ t. t ++ drop n octets) (sym is ∙ parted.whole) ∙ append_assoc lines rest (drop n octets) in
    let same : taken ≡ lines = taken_is ∙ ap (take (length lines)) all ∙ take_front lines (rest ++ drop n octets) in
    record {
      unmarked = subst HasNoMark (sym same) (AllByRecursion-front (λ c. is_mark c ≡ false) lines rest (subst HasNoMark parted.whole none));
      ends = subst EndsAtFeed (sym same) parted.ends;
    }

pub stays_by : (origin : Labels) (octets : List ℕ) (found : Option Labels) (h next : Holds) → StayOwned origin octets found → h.origin ≡ origin → MayStay h → next ≡ owned_by found (past octets h) → Stays h octets next
stays_by origin octets found h next stay under may is = subst (Stays h octets) (sym is) (stay h under may)
