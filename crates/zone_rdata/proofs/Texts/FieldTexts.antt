-- The text of data, field after field, and of strings, one after another.
use Rattle.std.proofs.Math.Seq.{take-append-add, take-append_seam}
use Rattle.zone_rdata.proofs.Common.{length-encode_with, lower_digits, ◌-◌, ◌*◌, [], ◌≡◌, ◌∙◌, ◌≤◌, take-append-drop, ℕ, zero, suc, ◌+◌, ◌<◌, List, ◌∷◌, ◌++◌, length, get_or, take, drop, map, refl, sym, ap, arith, append_assoc, Some, encode_lower, flat_map, join_with_byte, take_at, drop_at, append-nil, Field, field_at, values_of, field_text, AreLaidOut, BeginsWithField, after_field, spaced, generic_head, laid_out_text, generic_text, common_steps, encode_with, labels_of, wire, HoldsName, Name, from_place, eqb-true, with_length, string_at, strings_of, HoldsStrings, string_text}
use Rattle.zone_rdata.proofs.Octets.StringFields.{first_string, no_strings}

-- octets of a layout begin with its first field, and go on with the others
pub first_field : (f : Field) (row : List Field) (octets : List ℕ) → AreLaidOut (f ∷ row) octets → BeginsWithField f octets × AreLaidOut row (after_field f octets)
first_field f row octets laid = grind (arith, drop_at, take_at)

-- what is left to print: the texts one after another, each but the very first with a space before
-- it
abbrev pub still : ℕ → List (List ℕ) → List ℕ
still zero texts = join_with_byte 32 texts
still (suc i) texts = flat_map (λ t. 32 ∷ t) texts

pub joined_more : (text : List ℕ) (texts : List (List ℕ)) → join_with_byte 32 (text ∷ texts) ≡ text ++ flat_map (λ t. 32 ∷ t) texts
joined_more text [] = sym (append-nil text)
joined_more text (next ∷ texts) = ap (λ t. text ++ 32 ∷ t) (joined_more next texts)

still_more : (i : ℕ) (text : List ℕ) (texts : List (List ℕ)) → still i (text ∷ texts) ≡ spaced i text ++ still (suc i) texts
still_more i text texts = grind (arith, joined_more)

-- a space, and the text after it
spaced_text : (i : ℕ) (text : List ℕ) → spaced i [] ++ text ≡ spaced i text
spaced_text i text = grind arith

pub space_taken : {S : Type 0} (takes : S → List ℕ → S → Type 0) (i : ℕ) (a b : S) → 0 < i → takes a (32 ∷ []) b → takes a (spaced i []) b
space_taken takes zero a b some t = absurd (omega arith)
space_taken takes (suc i) a b some t = t

pub no_space : {S : Type 0} (takes : S → List ℕ → S → Type 0) (i : ℕ) (a b : S) → i ≤ 0 → takes a [] b → takes a (spaced i []) b
no_space takes zero a b none t = t
no_space takes (suc i) a b none t = absurd (omega arith)

-- the fields up to a place are printed: the rest is laid out, and its text is what is left of the
-- whole
pub record HavePrinted (row : List Field) (whole : List ℕ) (i : ℕ) (rest text : List ℕ) : Type 0 where
  pub laid : AreLaidOut (drop i row) rest
  pub left : laid_out_text (Some row) whole ≡ text ++ still i (map field_text (values_of (drop i row) rest))

pub printed_more : (row : List Field) (whole rest text after : List ℕ) (i : ℕ) (f d : Field) → i < length row → f ≡ get_or row i d → HavePrinted row whole i rest text → after ≡ after_field f rest → HavePrinted row whole (i + 1) after (text ++ (spaced i [] ++ field_text (field_at f rest)))
printed_more row whole rest text after i f d lt at so_far is = grind (arith, common_steps, from_place, first_field, still_more, append_assoc, spaced_text)

-- after the last field there are no octets
pub nothing_follows : (row : List Field) (whole rest text : List ℕ) (i : ℕ) (f d : Field) → i < length row → f ≡ get_or row i d → HavePrinted row whole i rest text → i + 1 ≡ length row → after_field f rest ≡ []
nothing_follows row whole rest text i f d lt at so_far last = grind (arith, common_steps, from_place, first_field)

-- a name with no octets after it is held by all of them
pub last_name : (octets : List ℕ) → BeginsWithField Name octets → after_field Name octets ≡ [] → HoldsName octets
last_name octets begins last = record {
  whole = sym begins.front ∙ sym (append-nil _) ∙ ap (λ t. take (length (wire (labels_of octets))) octets ++ t) (sym last) ∙ take-append-drop (length (wire (labels_of octets))) octets;
  name = begins.held;
}

pub generic_whole : (octets : List ℕ) → generic_head octets ++ encode_lower octets ≡ generic_text octets
unfolding encode_with
generic_whole octets = grind (arith, append_assoc)

pub encode_append : (front rest : List ℕ) → encode_lower (front ++ rest) ≡ encode_lower front ++ encode_lower rest
unfolding encode_with
encode_append [] rest = refl
encode_append (c ∷ front) rest = cc (encode_append front rest)

-- octets up to a place are written in digits
pub record HaveDigits (whole rest text : List ℕ) : Type 0 where
  pub left : encode_lower whole ≡ text ++ encode_lower rest

pub digits_more : (whole rest text part after : List ℕ) (n : ℕ) → part ≡ take n rest → after ≡ drop n rest
    → HaveDigits whole rest text → HaveDigits whole after (text ++ encode_lower part)
digits_more whole rest text part after n front back so_far =
    let parts : encode_lower rest ≡ encode_lower part ++ encode_lower after =
    rw (front, back) (ap encode_lower (sym (take-append-drop n rest)) ∙ encode_append (take n rest) (drop n rest)) in
    record { left = cc (so_far.left, parts, append_assoc text (encode_lower part) (encode_lower after)) }

pub digits_all : (whole rest text : List ℕ) → length rest ≤ 0 → HaveDigits whole rest text
    → text ≡ encode_lower whole
unfolding encode_with
digits_all whole [] text none so_far = sym (so_far.left ∙ append-nil text)
digits_all whole (c ∷ rest) text none so_far = absurd (omega (arith, none))

-- the digits of the first n octets begin with those of fewer
pub digits_before : (n : ℕ) (octets front after : List ℕ) → front ≡ octets → length octets ≤ n → take (2 * length octets) (encode_lower (take n (front ++ after))) ≡ encode_lower octets
digits_before n octets front after same few =
    let more : length octets + (n - length octets) ≡ n = omega arith in
    let parts : take n (front ++ after) ≡ octets ++ take (n - length octets) after =
    ap (λ l. take n (l ++ after)) same ∙ ap (λ k. take k (octets ++ after)) (sym more) ∙ take-append-add octets after (n - length octets) in
    let text : encode_lower (take n (front ++ after)) ≡ encode_lower octets ++ encode_lower (take (n - length octets) after) =
    ap encode_lower parts ∙ encode_append octets (take (n - length octets) after) in
    ap (take (2 * length octets)) text
    ∙ ap (λ k. take k (encode_lower octets ++ encode_lower (take (n - length octets) after))) (sym (length-encode_with lower_digits octets))
    ∙ take-append_seam (encode_lower octets) (encode_lower (take (n - length octets) after))

pub ruleset printed_last = (eqb-true, nothing_follows)

-- ---- strings

-- the octets after the first string
abbrev pub following : List ℕ → List ℕ
following octets = drop (length (with_length (string_at octets))) octets

abbrev pub strings_text : List ℕ → List ℕ
strings_text octets = join_with_byte 32 (map string_text (strings_of octets))

-- a space and a text in quotes for each string
abbrev pub more_text : List ℕ → List ℕ
more_text octets = flat_map (λ t. 32 ∷ t) (map string_text (strings_of octets))

-- strings up to a place are printed, at least one
pub record HaveQuoted (whole rest text : List ℕ) : Type 0 where
  pub held : HoldsStrings rest
  pub left : strings_text whole ≡ text ++ more_text rest

pub quoted_first : (whole string rest : List ℕ) → 0 < length whole → HoldsStrings whole → string ≡ string_at whole → rest ≡ following whole → HaveQuoted whole rest (string_text string)
quoted_first whole string rest some held at is = grind (arith, first_string, joined_more)

pub quoted_more : (whole rest text string after : List ℕ) → 0 < length rest → HaveQuoted whole rest text → string ≡ string_at rest → after ≡ following rest → HaveQuoted whole after (text ++ 32 ∷ string_text string)
quoted_more whole rest text string after some so_far at is = grind (arith, first_string, append_assoc)

pub quoted_all : (whole rest text : List ℕ) → length rest ≤ 0 → HaveQuoted whole rest text → text ≡ strings_text whole
quoted_all whole rest text none so_far = grind (arith, common_steps, no_strings, append-nil)

pub ruleset quoted_strings = (first_string, quoted_first, quoted_all)
