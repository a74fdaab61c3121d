-- The laws of the order and of what is printed.
use Rattle.zone_name.proofs.Common.{length-append, append_assoc, append-nil, common_steps, AllByRecursion, Bool, Equal, IsFoldedOctet, IsLabel, IsName, IsUnit, IsWrittenLabel, List, Option, Spells, Writes, Written, [], absolute, arith, bytes_decides, decimal, decimal_escape, dotted, escaped, false, flat_map, folded_label, if◌then◌else◌, is_digit, is_dot, is_printed, is_special, label_text, length-map, lists_ties, lists_total, map, name_cmp, name_text, named, nat_cmp, nat_cmp_total, nat_eq, nat_tests, octet_of, octet_text, plain, pointwise, pointwise_decides, refl, reverse, reverse-reverse, root, rules, slice_cmp, sym, text_of, texts_ties, true, written_octets, written_text, ℕ, ◌%◌, ◌+◌, ◌/◌, ◌<◌, ◌∷◌, ◌≡◌}
use Rattle.std.specs.Cmp.{IsTotalOrder, on_total}

-- names that tie are equal
pub name_cmp-exact : (a b : List (List ℕ)) → name_cmp a b ≡ Equal → a ≡ b
name_cmp-exact a b e =
    let ties = lists_ties (slice_cmp nat_cmp) texts_ties (reverse a) (reverse b) in
    let same : pointwise (pointwise nat_eq) (reverse a) (reverse b) ≡ true = cc in
    cc (reverse-reverse a, (pointwise_decides bytes_decides (reverse a) (reverse b)).0 same, reverse-reverse b)

pub name_cmp-total : IsTotalOrder name_cmp
name_cmp-total = on_total reverse (lists_total (lists_total nat_cmp_total))

-- ---- what is printed spells the name
-- an octet as it is printed: after a backslash, by itself or by its value
unfoldable pub written_by : (special printed : Bool) → ℕ → Written
written_by true printed c = escaped c
written_by false true c = plain c
written_by false false c = decimal (48 + c / 100) (48 + c / 10 % 10) (48 + c % 10)

abbrev pub printed_octet : ℕ → Written
printed_octet c = written_by (is_special c) (is_printed c) c

pub printed_text : (special printed : Bool) (c : ℕ) → text_of (written_by special printed c) ≡ (if special then 92 ∷ c ∷ [] else (if printed then c ∷ [] else decimal_escape c))
unfolding written_by
printed_text special printed c = grind arith

pub value_by : (special printed : Bool) (c : ℕ) → octet_of (written_by special printed c) ≡ c
unfolding written_by
value_by special printed c = grind arith

pub digit_test : (d : ℕ) → d < 10 → is_digit (48 + d) ≡ true
digit_test d h = grind (arith, nat_tests)

pub written_is : (special printed : Bool) (c : ℕ) → c < 256 → is_special c ≡ special → IsUnit is_dot (written_by special printed c)
unfolding written_by
written_is special printed c h e = search rules

label_printed : (label : List ℕ) → AllByRecursion IsFoldedOctet label → AllByRecursion (IsUnit is_dot) (map printed_octet label) × (written_text (map printed_octet label) ≡ flat_map octet_text label) × (folded_label (written_octets (map printed_octet label)) ≡ label)
label_printed [] each = (tt, refl, refl)
label_printed (c ∷ label) each =
    grind (arith, common_steps, label_printed label, written_is, printed_text, value_by, length-append, append_assoc, append-nil, length-map)

name_printed : (labels : List (List ℕ)) → AllByRecursion IsLabel labels → AllByRecursion IsWrittenLabel (map (map printed_octet) labels) × (dotted (map (map printed_octet) labels) ≡ flat_map label_text labels) × (named (map (map printed_octet) labels) ≡ labels)
name_printed [] each = (tt, refl, refl)
name_printed (label ∷ labels) each =
    grind (arith, common_steps, label_printed, name_printed labels, length-map, length-append, append_assoc, append-nil)

printed_by : (origin : Option (List (List ℕ))) (labels : List (List ℕ)) → IsName labels → Writes origin (name_text labels) labels
printed_by origin [] name = root refl refl
printed_by origin (label ∷ labels) name =
    let printed = name_printed (label ∷ labels) name.each in
    absolute (map (map printed_octet) (label ∷ labels)) (record { some = omega arith; each = printed.0 }) (sym printed.1) (sym printed.2)

pub name_text-spelled : (origin : Option (List (List ℕ))) (labels : List (List ℕ)) → IsName labels → Spells origin (name_text labels) labels
name_text-spelled origin labels name = record { written = printed_by origin labels name; name = name }

pub ruleset orders = (name_cmp-exact, name_cmp-total)
