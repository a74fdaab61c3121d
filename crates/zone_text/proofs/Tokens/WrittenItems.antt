-- The written octets of an item, from the left.
use Rattle.zone_text.proofs.Common.{All, AllByRecursion, AllByRecursion-append, Bool, EndsAt, IsUnit, List, Written, [], ap, append_assoc, arith, drop, drop-append_seam, ends_item, eqb-false, false, flat_map-append, get_or, length, length-append, length-drop, length-take, map, ne_eqb, or_parts, plain, recursion_from_All, rules, stops_bare, subst, sym, take, take-append-drop, take-append_seam, text_of, true, unit_of_escape, written_text, ℕ, ◌++◌, ◌+◌, ◌-◌, ◌<◌, ◌==◌, ◌||◌, ◌∙◌, ◌∷◌, ◌≡◌, ◌≢◌, ◌≤◌}
use Rattle.zone_name.specs.Spelling.{BeginsWithEscape}
use Rattle.zone_text.proofs.Scanning.StopMarks.{first_at}
use Rattle.zone_name.proofs.Texts.Bare.{plain_text}

-- the first octets are written octets of an item, and what follows ends it or is a backslash
pub record IsWrittenTo (ends : ℕ → Bool) (octets : List ℕ) (len : ℕ) : Type 0 where
  pub units : List Written
  pub each : AllByRecursion (IsUnit ends) units
  pub text : take len octets ≡ written_text units
  pub stops : EndsAt (λ c. ends c || c == 92) (drop len octets)
  pub within : len ≤ length octets

plain_units : (ends : ℕ → Bool) (octets : List ℕ) → AllByRecursion (λ c. (ends c || c == 92) ≡ false) octets → AllByRecursion (IsUnit ends) (map plain octets)
plain_units ends [] each = tt
plain_units ends (c ∷ octets) each = let p = or_parts (ends c) (c == 92) each.0 in ((p.0, eqb-false c 92 p.1), plain_units ends octets each.1)

pub each_plain : (ends : ℕ → Bool) (octets : List ℕ) → All (λ c. (ends c || c == 92) ≡ false) octets → AllByRecursion (IsUnit ends) (map plain octets)
each_plain ends octets each = plain_units ends octets (recursion_from_All (λ c. (ends c || c == 92) ≡ false) octets each)

pub at_mark : (octets escape : List ℕ) (len : ℕ) → len < length octets → get_or octets len 0 ≡ 92 → escape ≡ drop (len + 1) octets → drop len octets ≡ 92 ∷ escape
at_mark octets escape len less is back = first_at octets len less ∙ ap (λ m. m ∷ drop (len + 1) octets) is ∙ ap (λ t. 92 ∷ t) (sym back)

pub escape_more : (ends : ℕ → Bool) (octets escape rest : List ℕ) (octet len k n : ℕ) → IsWrittenTo ends octets len → len < length octets → get_or octets len 0 ≡ 92 → escape ≡ drop (len + 1) octets → BeginsWithEscape (92 ∷ escape) octet rest → k ≤ length rest → All (λ c. (ends c || c == 92) ≡ false) (take k rest) → EndsAt (λ c. ends c || c == 92) (drop k rest) → n ≡ length octets - length rest + k → IsWrittenTo ends octets n
escape_more ends octets escape rest octet len k n so_far less is back found fits each stops count =
    let more_text : List ℕ = text_of found.escape ++ take k rest in
    let front : List ℕ = take len octets ++ more_text in
    let new : List Written = found.escape ∷ map plain (take k rest) in
    let behind : drop len octets ≡ more_text ++ drop k rest = at_mark octets escape len less is back ∙ found.parts ∙ ap (λ t. text_of found.escape ++ t) (sym (take-append-drop k rest)) ∙ sym (append_assoc (text_of found.escape) (take k rest) (drop k rest)) in
    let whole : octets ≡ front ++ drop k rest = sym (take-append-drop len octets) ∙ ap (λ t. take len octets ++ t) behind ∙ sym (append_assoc (take len octets) more_text (drop k rest)) in
    let all : length octets ≡ length front + length (drop k rest) = ap length whole ∙ length-append front (drop k rest) in
    let size : n ≡ length front = omega (arith, count, all, length-append (take len octets) more_text, length-append (text_of found.escape) (take k rest), length-take k rest, length-drop k rest, fits) in
    let taken : take n octets ≡ front = ap (λ m. take m octets) size ∙ ap (take (length front)) whole ∙ take-append_seam front (drop k rest) in
    let left : drop n octets ≡ drop k rest = ap (λ m. drop m octets) size ∙ ap (drop (length front)) whole ∙ drop-append_seam front (drop k rest) in
    record {
      units = so_far.units ++ new;
      each = AllByRecursion-append (IsUnit ends) so_far.units new so_far.each (unit_of_escape ends found.escape found.is_escape, each_plain ends (take k rest) each);
      text = taken ∙ ap (λ t. t ++ more_text) so_far.text ∙ ap (λ t. written_text so_far.units ++ (text_of found.escape ++ t)) (plain_text (take k rest)) ∙ sym (flat_map-append text_of so_far.units new);
      stops = subst (EndsAt (λ c. ends c || c == 92)) (sym left) stops;
      within = omega (arith, size, all);
    }

pub stops_or : (a b : Bool) → (a || b) ≡ true → b ≡ false → a ≡ true
stops_or a b e none = search rules

-- what stops a bare item ends it, but for a backslash
pub ends_but_mark : (c : ℕ) → stops_bare c ≡ true → c ≢ 92 → ends_item c ≡ true
ends_but_mark c stops other = stops_or (ends_item c) (c == 92) stops (ne_eqb c 92 other)
