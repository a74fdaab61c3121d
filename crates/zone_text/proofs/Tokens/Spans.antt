-- How far an item or a comment goes, as it is looked for from the left.
use Rattle.std.proofs.Math.Logic.{⊎_elim}
use Rattle.std.specs.Prelude.{slice_index}
use Rattle.zone_text.proofs.Common.{All, AllByRecursion, AllByRecursion-append, Bool, EndsAt, IsBadEscape, IsCutOff, IsLostEscape, IsUnit, List, Token, Written, [], after_backslash, after_digit, after_two_digits, ap, append-nil, append_assoc, arith, bare, before_line_feed, both_ways, comment, drop, drop-append_seam, ends_item, eqb-true, false, flat_map-append, from_line_feed, get_or, inl, inr, is_digit, is_quote, item_of, length, length-append, length-drop, length-take, map, ne_eqb, plain, quoted, refl, sym, subst, take, take-append-drop, take-append_seam, text_of, token_text, true, written_text, ℕ, ◌++◌, ◌+◌, ◌-◌, ◌<◌, ◌==◌, ◌∙◌, ◌∷◌, ◌≡◌, ◌≢◌, ◌≤◌, ◌||◌, at_line_end, one_digit, two_digits, too_great, decimal, escaped, octet_of, cases_eq, cases_lt, cases_Bool, suc, zero, Some}
use Rattle.zone_rdata.specs.Item as raw
use Rattle.zone_text.proofs.Scanning.StopMarks.{first_at}
use Rattle.zone_text.proofs.Scanning.StopMarks.{nothing_left as none_beyond}
use Rattle.zone_text.proofs.Tokens.Cuttings.{EndsComment, begins, comment_dropped, comment_each, comment_ends, comment_whole, some_octet}
use Rattle.zone_text.proofs.Tokens.WrittenItems.{IsWrittenTo, at_mark, each_plain, stops_or}
use Rattle.zone_text.specs.Machine.Spans.{AreUnits, BeginsToken, EndsHere, EndsToken, IsLostBy, IsItemOrComment, IsSeenComment, IsSpan, IsTokenSpan, in_bare, in_bare_lost, in_comment, in_quotes, in_quotes_lost}
use Rattle.zone_text.specs.Tokens.{IsToken}
use Rattle.zone_text.specs.declared.token.Span.{Span}
use Rattle.zone_text.specs.declared.token.Span.TheVariants as spans
use Rattle.zone_name.proofs.Texts.Bare.{plain_text}

-- ---- the octets after a backslash that begins no escape

lost_one : (after more : List ℕ) (c : ℕ) → after ≡ c ∷ more → is_digit c ≡ false → IsBadEscape (92 ∷ after) → IsLostEscape (92 ∷ c ∷ [])
lost_one after more c first other bad =
    ⊎_elim (λ feed. at_line_end c [] refl (inl feed))
    (λ no_feed. ⊎_elim (λ return. at_line_end c [] refl (inr return)) (λ no_return. absurd (bad.2 (escaped c) more (other, no_feed, no_return) (ap (λ t. 92 ∷ t) first))) (cases_eq c 13))
    (cases_eq c 10)

lost_three : (after more rest left : List ℕ) (c d e : ℕ) → after ≡ c ∷ more → more ≡ d ∷ rest → rest ≡ e ∷ left → is_digit c ≡ true → is_digit d ≡ true → IsBadEscape (92 ∷ after) → IsLostEscape (92 ∷ c ∷ d ∷ e ∷ [])
lost_three after more rest left c d e first second third dc dd bad =
    ⊎_elim (λ de. ⊎_elim (λ great. too_great c d e [] refl dc dd de great) (λ few. absurd (bad.2 (decimal c d e) left (dc, dd, de, few) (ap (λ t. 92 ∷ t) (first ∙ ap (λ t. c ∷ t) (second ∙ ap (λ t. d ∷ t) third))))) (cases_lt 255 (octet_of (decimal c d e))))
    (λ ne. two_digits c d e [] refl dc dd ne)
    (cases_Bool (is_digit e))

pub nothing_after : (after : List ℕ) → after ≡ [] → IsCutOff (92 ∷ after)
nothing_after after none = after_backslash (ap (λ t. 92 ∷ t) none)

pub one_after : (after digits : List ℕ) (c : ℕ) → after ≡ c ∷ digits → digits ≡ [] → is_digit c ≡ true → IsCutOff (92 ∷ after)
one_after after digits c first none digit = after_digit c (ap (λ t. 92 ∷ t) (first ∙ ap (λ t. c ∷ t) none)) digit

pub two_after : (after digits rest : List ℕ) (c d : ℕ) → after ≡ c ∷ digits → digits ≡ d ∷ rest → rest ≡ [] → is_digit c ≡ true → is_digit d ≡ true → IsCutOff (92 ∷ after)
two_after after digits rest c d first second none digit next = after_two_digits c d (ap (λ t. 92 ∷ t) (first ∙ ap (λ t. c ∷ t) (second ∙ ap (λ t. d ∷ t) none))) digit next

pub no_digit_after : (after more : List ℕ) (c : ℕ) → after ≡ c ∷ more → is_digit c ≡ false → IsBadEscape (92 ∷ after) → IsLostBy after (Some 1)
no_digit_after after more c first other bad = (subst (λ t. IsLostEscape (92 ∷ take 1 t)) (sym first) (lost_one after more c first other bad), omega (arith, ap length first))

pub one_digit_after : (after more rest : List ℕ) (c d : ℕ) → after ≡ c ∷ more → more ≡ d ∷ rest → is_digit c ≡ true → is_digit d ≡ false → IsLostBy after (Some 2)
one_digit_after after more rest c d first second dc nd =
    let whole : after ≡ c ∷ d ∷ rest = first ∙ ap (λ t. c ∷ t) second in
    (subst (λ t. IsLostEscape (92 ∷ take 2 t)) (sym whole) (one_digit c d [] refl dc nd), omega (arith, ap length whole))

pub two_digits_after : (after more rest : List ℕ) (c d : ℕ) → after ≡ c ∷ more → more ≡ d ∷ rest → (rest ≡ [] → ⊥) → is_digit c ≡ true → is_digit d ≡ true → IsBadEscape (92 ∷ after) → IsLostBy after (Some 3)
two_digits_after after more [] c d first second some dc dd bad = absurd (some refl)
two_digits_after after more (e ∷ left) c d first second some dc dd bad =
    let whole : after ≡ c ∷ d ∷ e ∷ left = first ∙ ap (λ t. c ∷ t) second in
    (subst (λ t. IsLostEscape (92 ∷ take 3 t)) (sym whole) (lost_three after more (e ∷ left) left c d e first second refl dc dd bad), omega (arith, ap length whole))

pub take_past : (xs ys : List ℕ) (n : ℕ) → length xs ≤ n → take n (xs ++ ys) ≡ xs ++ take (n - length xs) ys
take_past [] ys n within = ap (λ k. take k ys) (let e : n ≡ n - 0 = omega arith in e)
take_past (x ∷ xs) ys zero within = absurd (omega (arith, within))
take_past (x ∷ xs) ys (suc n) within = ap (λ t. x ∷ t) (take_past xs ys n (omega (arith, within)) ∙ ap (λ k. xs ++ take k ys) (let e : n - length xs ≡ suc n - length (x ∷ xs) = omega arith in e))

-- ---- units

units_to : (ends : ℕ → Bool) (octets : List ℕ) (len : ℕ) → IsWrittenTo ends octets len → AreUnits ends octets len
units_to ends octets len is = record {
  units = is.units;
  rest = drop len octets;
  each = is.each;
  whole = sym (take-append-drop len octets) ∙ ap (λ t. t ++ drop len octets) is.text;
  len = omega (arith, length-take len octets, is.within, ap length is.text);
}

pub units_within : (ends : ℕ → Bool) (octets : List ℕ) (n : ℕ) → AreUnits ends octets n → n ≤ length octets
units_within ends octets n are = omega (arith, are.len, ap length are.whole, length-append (written_text are.units) are.rest)

-- plain octets after units
pub units_more : (ends : ℕ → Bool) (octets ahead : List ℕ) (known k n : ℕ) → AreUnits ends octets known → ahead ≡ drop known octets → k ≤ length ahead → All (λ c. (ends c || c == 92) ≡ false) (take k ahead) → EndsAt (λ c. ends c || c == 92) (drop k ahead) → n ≡ known + k → IsWrittenTo ends octets n
units_more ends octets ahead known k n are back fits each stops count =
    let before : List ℕ = written_text are.units in
    let front : List ℕ = before ++ take k ahead in
    let ahead_is : ahead ≡ are.rest = back ∙ ap (λ m. drop m octets) are.len ∙ ap (drop (length before)) are.whole ∙ drop-append_seam before are.rest in
    let whole : octets ≡ front ++ drop k ahead = are.whole ∙ ap (λ t. before ++ t) (sym ahead_is ∙ sym (take-append-drop k ahead)) ∙ sym (append_assoc before (take k ahead) (drop k ahead)) in
    let size : n ≡ length front = omega (arith, count, are.len, length-append before (take k ahead), length-take k ahead, fits) in
    let taken : take n octets ≡ front = ap (λ m. take m octets) size ∙ ap (take (length front)) whole ∙ take-append_seam front (drop k ahead) in
    let left : drop n octets ≡ drop k ahead = ap (λ m. drop m octets) size ∙ ap (drop (length front)) whole ∙ drop-append_seam front (drop k ahead) in
    record {
      units = are.units ++ map plain (take k ahead);
      each = AllByRecursion-append (IsUnit ends) are.units (map plain (take k ahead)) are.each (each_plain ends (take k ahead) each);
      text = taken ∙ ap (λ t. before ++ t) (plain_text (take k ahead)) ∙ sym (flat_map-append text_of are.units (map plain (take k ahead)));
      stops = subst (EndsAt (λ c. ends c || c == 92)) (sym left) stops;
      within = omega (arith, size, ap length whole, length-append front (drop k ahead));
    }

-- ---- how far an item goes

pub span_whole : (ends : ℕ → Bool) (octets : List ℕ) (len : ℕ) → IsWrittenTo ends octets len → len < length octets → get_or octets len 0 ≢ 92 → IsSpan ends octets (spans.Whole len)
unfolding units_to
span_whole ends octets len is less other =
    let first : drop len octets ≡ get_or octets len 0 ∷ drop (len + 1) octets = first_at octets len less in
    (units_to ends octets len is, subst (EndsHere ends) (sym first) (stops_or (ends (get_or octets len 0)) (get_or octets len 0 == 92) (subst (EndsAt (λ c. ends c || c == 92)) first is.stops) (ne_eqb (get_or octets len 0) 92 other)))

pub span_open : (ends : ℕ → Bool) (octets escape : List ℕ) (len : ℕ) → IsWrittenTo ends octets len → len < length octets → get_or octets len 0 ≡ 92 → escape ≡ drop (len + 1) octets → IsCutOff (92 ∷ escape) → IsSpan ends octets (spans.Open len)
unfolding units_to
span_open ends octets escape len is less mark back cut = (units_to ends octets len is, inr (subst IsCutOff (sym (at_mark octets escape len less mark back)) cut))

pub span_lost : (ends : ℕ → Bool) (octets escape : List ℕ) (len more n : ℕ) → IsWrittenTo ends octets len → len < length octets → get_or octets len 0 ≡ 92 → escape ≡ drop (len + 1) octets → IsLostBy escape (Some more) → n ≡ len + 1 + more → IsSpan ends octets (spans.Lost n)
unfolding units_to
span_lost ends octets escape len more n is less mark back lost count =
    let are = units_to ends octets len is in
    let before : List ℕ = written_text are.units in
    let whole : octets ≡ before ++ 92 ∷ escape = are.whole ∙ ap (λ t. before ++ t) (at_mark octets escape len less mark back) in
    let left : n - length before ≡ suc more = omega (arith, count, are.len) in (
      len,
      record {
        units = are.units;
        rest = 92 ∷ take more escape;
        each = are.each;
        whole = ap (take n) whole ∙ take_past before (92 ∷ escape) n (omega (arith, count, are.len)) ∙ ap (λ k. before ++ take k (92 ∷ escape)) left;
        len = are.len;
      },
      lost.0,
      omega (arith, count, lost.1, are.len, ap length whole, length-append before (92 ∷ escape)),
    )

pub span_end : (ends : ℕ → Bool) (octets : List ℕ) (len : ℕ) → IsWrittenTo ends octets len → length octets ≤ len → IsSpan ends octets (spans.Open len)
unfolding units_to
span_end ends octets len is over = (units_to ends octets len is, inl (none_beyond octets len over))

-- ---- with quotes

pub quoted_whole : (inside : List ℕ) (n m : ℕ) → IsSpan is_quote inside (spans.Whole n) → m ≡ n + 2 → IsTokenSpan (34 ∷ inside) (spans.Whole m)
quoted_whole inside n m (are, here) count begin = by are.rest here are.whole
  where
    by : (rest : List ℕ) → EndsHere is_quote rest → inside ≡ written_text are.units ++ rest → EndsToken (34 ∷ inside) m
    by [] here whole = absurd here
    by (c ∷ left) here whole =
        let quote : c ∷ left ≡ 34 ∷ left = ap (λ d. d ∷ left) (eqb-true c 34 here) in
        record {
          token = quoted are.units;
          left = left;
          parts = ap (λ t. 34 ∷ t) (whole ∙ ap (λ t. written_text are.units ++ t) quote ∙ sym (append_assoc (written_text are.units) (34 ∷ []) left));
          is = are.each;
          kind = tt;
          settled = tt;
          len = omega (arith, count, are.len, length-append (written_text are.units) (34 ∷ []));
        }

pub quoted_open : (inside : List ℕ) (n m : ℕ) → IsSpan is_quote inside (spans.Open n) → m ≡ n + 1 → IsTokenSpan (34 ∷ inside) (spans.Open m)
quoted_open inside n m (are, ended) count = in_quotes inside n are refl ended count

pub quoted_lost : (inside : List ℕ) (n m : ℕ) → IsSpan is_quote inside (spans.Lost n) → m ≡ n + 1 → IsTokenSpan (34 ∷ inside) (spans.Lost m)
quoted_lost inside n m (k, are, lost, within) count =
    let more : m ≡ suc n = omega (arith, count) in
    (in_quotes_lost (take n inside) k are (ap (λ j. take j (34 ∷ inside)) more) lost, omega (arith, count, within))

-- ---- a comment

-- its octets, some of which were seen
abbrev CommentParts : List ℕ → List ℕ → ℕ → Type 0
CommentParts note ahead k = (note ≡ (take k note ++ before_line_feed ahead) ++ from_line_feed ahead) × AllByRecursion (λ c. c ≢ 10) (take k note ++ before_line_feed ahead) × (length (take k note) ≡ k)

seen_comment : (note ahead : List ℕ) (k : ℕ) → IsSeenComment note k → ahead ≡ drop k note → CommentParts note ahead k
seen_comment note ahead k seen back = (
  sym (take-append-drop k note) ∙ ap (λ t. take k note ++ t) (sym back ∙ comment_whole ahead) ∙ sym (append_assoc (take k note) (before_line_feed ahead) (from_line_feed ahead)),
  AllByRecursion-append (λ c. c ≢ 10) (take k note) (before_line_feed ahead) seen.each (comment_each ahead),
  omega (arith, length-take k note, seen.within),
)

pub comment_is_whole : (note ahead : List ℕ) (k n m : ℕ) → IsSeenComment note k → ahead ≡ drop k note → n ≡ length (before_line_feed ahead) → k + n < length note → m ≡ k + n + 1 → IsTokenSpan (59 ∷ note) (spans.Whole m)
comment_is_whole note ahead k n m seen back len less count begin = by (seen_comment note ahead k seen back) (from_line_feed ahead) (comment_ends ahead) (seen_comment note ahead k seen back).0
  where
    by : CommentParts note ahead k → (left : List ℕ) → EndsComment left → note ≡ (take k note ++ before_line_feed ahead) ++ left → EndsToken (59 ∷ note) m
    by parts [] ends whole = absurd (omega (arith, less, len, parts.2, ap length whole, length-append (take k note ++ before_line_feed ahead) [], length-append (take k note) (before_line_feed ahead)))
    by parts (c ∷ left) ends whole = record {
      token = comment (take k note ++ before_line_feed ahead);
      left = c ∷ left;
      parts = ap (λ t. 59 ∷ t) whole;
      is = parts.1;
      kind = tt;
      settled = ends;
      len = omega (arith, count, len, parts.2, length-append (take k note) (before_line_feed ahead));
    }

pub comment_is_open : (note ahead : List ℕ) (k n m : ℕ) → IsSeenComment note k → ahead ≡ drop k note → n ≡ length (before_line_feed ahead) → length note ≤ k + n → m ≡ k + n + 1 → n ≤ length ahead → IsTokenSpan (59 ∷ note) (spans.Open m)
comment_is_open note ahead k n m seen back len over count within =
    let parts = seen_comment note ahead k seen back in
    let none : drop n ahead ≡ [] = none_beyond ahead n (omega (arith, over, within, ap length back, length-drop k note, seen.within)) in
    let left_none : from_line_feed ahead ≡ [] = sym (comment_dropped ahead) ∙ ap (λ j. drop j ahead) (sym len) ∙ none in
    let all : note ≡ take k note ++ before_line_feed ahead = parts.0 ∙ ap (λ t. (take k note ++ before_line_feed ahead) ++ t) left_none ∙ append-nil (take k note ++ before_line_feed ahead) in
    in_comment note refl (subst (AllByRecursion (λ c. c ≢ 10)) (sym all) parts.1) (omega (arith, count, over, within, ap length back, length-drop k note, seen.within))

-- ---- a bare item

bare_whole : (text : List ℕ) (n : ℕ) (units : List Written) (rest : List ℕ) → AllByRecursion (IsUnit ends_item) units → text ≡ written_text units ++ rest → n ≡ length (written_text units) → EndsHere ends_item rest → (EndsHere ends_item text → ⊥) → EndsToken text n
bare_whole text n [] rest each whole len here goes = absurd (goes (subst (EndsHere ends_item) (sym whole) here))
bare_whole text n (w ∷ units) [] each whole len here goes = absurd here
bare_whole text n (w ∷ units) (c ∷ rest) each whole len here goes = record { token = bare (w ∷ units); left = c ∷ rest; parts = whole; is = (omega arith, each); kind = tt; settled = here; len = len }

goes_on : (text more : List ℕ) (c : ℕ) → text ≡ c ∷ more → c ≢ 59 → c ≢ 34 → BeginsToken text → EndsHere ends_item text → ⊥
goes_on [] more c first no_comment no_quote begin here = here
goes_on (d ∷ text) more c first no_comment no_quote (inl goes) here = both_ways (ends_item d) goes here
goes_on (d ∷ text) more c first no_comment no_quote (inr (inl quote)) here = no_quote (let same : d ≡ c = cc in sym same ∙ quote)
goes_on (d ∷ text) more c first no_comment no_quote (inr (inr mark)) here = no_comment (let same : d ≡ c = cc in sym same ∙ mark)

pub bare_span : (text more : List ℕ) (c : ℕ) (span : Span) → text ≡ c ∷ more → c ≢ 59 → c ≢ 34 → IsSpan ends_item text span → IsTokenSpan text span
bare_span text more c (spans.Whole n) first no_comment no_quote (are, here) = λ begin. bare_whole text n are.units are.rest are.each are.whole are.len here (goes_on text more c first no_comment no_quote begin)
bare_span text more c (spans.Open n) first no_comment no_quote (are, ended) = in_bare are ended (omega (arith, ap length first))
bare_span text more c (spans.Lost n) first no_comment no_quote (k, are, lost, within) = (in_bare_lost k are lost, within)

-- ---- numbers that fit

pub token_within : (octets : List ℕ) (n : ℕ) → EndsToken octets n → (0 < n) × (n ≤ length octets)
token_within octets n ends = (omega (arith, ends.len, some_octet ends.token ends.is), omega (arith, ends.len, ap length ends.parts, length-append (token_text ends.token) ends.left))

-- ---- the item of a token

pub comment_item : (token rest : List ℕ) (c : ℕ) → token ≡ c ∷ rest → c ≡ 59 → (p : Token) → token ≡ token_text p → IsToken p → IsItemOrComment p → [] ≡ item_of p
comment_item token rest c first is (comment octets) text_is token_is kind = refl
comment_item token rest c first is (bare units) text_is token_is kind = absurd (both_ways (ends_item 59) (subst (λ d. ends_item d ≡ false) is (begins c rest (bare units) [] token_is (sym first ∙ text_is ∙ sym (append-nil (written_text units))))) refl)
comment_item token rest c first is (quoted units) text_is token_is kind = absurd (let same : c ≡ 34 = cc in omega (arith, same, is))
comment_item token rest c first is p text_is token_is kind = absurd kind

pub quoted_item : (token rest inside : List ℕ) (c : ℕ) → token ≡ c ∷ rest → c ≡ 34 → inside ≡ take (length rest - 1) rest → (p : Token) → token ≡ token_text p → IsToken p → IsItemOrComment p → raw.quoted inside ∷ [] ≡ item_of p
quoted_item token rest inside c first is front (quoted units) text_is token_is kind =
    let rest_is : rest ≡ written_text units ++ 34 ∷ [] = cc in
    let size : length rest - 1 ≡ length (written_text units) = omega (arith, ap length rest_is, length-append (written_text units) (34 ∷ [])) in
    ap (λ t. raw.quoted t ∷ []) (front ∙ ap (λ n. take n rest) size ∙ ap (take (length (written_text units))) rest_is ∙ take-append_seam (written_text units) (34 ∷ []))
quoted_item token rest inside c first is front (bare units) text_is token_is kind = absurd (both_ways (ends_item 34) (subst (λ d. ends_item d ≡ false) is (begins c rest (bare units) [] token_is (sym first ∙ text_is ∙ sym (append-nil (written_text units))))) refl)
quoted_item token rest inside c first is front (comment octets) text_is token_is kind = absurd (let same : c ≡ 59 = cc in omega (arith, same, is))
quoted_item token rest inside c first is front p text_is token_is kind = absurd kind

-- ---- what shows that a backslash begins no escape, by the octets after it one by one

pub lost_by_one : (after : List ℕ) → 1 ≤ length after → is_digit (slice_index after 0) ≡ false → IsBadEscape (92 ∷ after) → IsLostBy after (Some 1)
lost_by_one [] some other bad = absurd (omega (arith, some))
lost_by_one (c ∷ more) some other bad = no_digit_after (c ∷ more) more c refl other bad

pub lost_by_two : (after : List ℕ) → 2 ≤ length after → is_digit (slice_index after 0) ≡ true → is_digit (slice_index after 1) ≡ false → IsLostBy after (Some 2)
lost_by_two [] some digit other = absurd (omega (arith, some))
lost_by_two (c ∷ []) some digit other = absurd (omega (arith, some))
lost_by_two (c ∷ d ∷ more) some digit other = one_digit_after (c ∷ d ∷ more) (d ∷ more) more c d refl refl digit other

pub lost_by_three : (after : List ℕ) → 3 ≤ length after → is_digit (slice_index after 0) ≡ true → is_digit (slice_index after 1) ≡ true → IsBadEscape (92 ∷ after) → IsLostBy after (Some 3)
lost_by_three [] some digit next bad = absurd (omega (arith, some))
lost_by_three (c ∷ []) some digit next bad = absurd (omega (arith, some))
lost_by_three (c ∷ d ∷ []) some digit next bad = absurd (omega (arith, some))
lost_by_three (c ∷ d ∷ e ∷ more) some digit next bad = two_digits_after (c ∷ d ∷ e ∷ more) (d ∷ e ∷ more) (e ∷ more) c d refl refl (λ none. absurd (omega (arith, ap length none))) digit next bad

pub cut_off_by : (after : List ℕ) → length after < 3 → (1 ≤ length after → is_digit (slice_index after 0) ≡ true) → (2 ≤ length after → is_digit (slice_index after 1) ≡ true) → IsCutOff (92 ∷ after)
cut_off_by [] few digit next = nothing_after [] refl
cut_off_by (c ∷ []) few digit next = one_after (c ∷ []) [] c refl refl (digit (omega arith))
cut_off_by (c ∷ d ∷ []) few digit next = two_after (c ∷ d ∷ []) (d ∷ []) [] c d refl refl refl (digit (omega arith)) (next (omega arith))
cut_off_by (c ∷ d ∷ e ∷ more) few digit next = absurd (omega (arith, few))
