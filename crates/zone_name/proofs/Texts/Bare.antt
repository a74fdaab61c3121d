-- What is printed outside quotes is written octets, of which few stand by themselves.
use Rattle.zone_name.proofs.Common.{AllByRecursion, Bool, IsFoldedOctet, IsLabel, IsName, IsUnit, List, Written, [], ap, append-nil, append_assoc, arith, both_ways, common_steps, flat_map, is_printed, is_special, label_text, length, length-map, name_text, not, octet_text, plain, refl, rules, sym, text_of, true, written_text, ℕ, ◌++◌, ◌<◌, ◌∷◌, ◌≡◌}
use Rattle.std.proofs.Common.{map}
use Rattle.zone_name.proofs.Texts.Lawful.{written_by, printed_text}
pub use Rattle.zone_name.specs.Machine.Shown.{is_bare}

-- an octet that doesn't stand by itself outside quotes
abbrev pub not_bare : ℕ → Bool
not_bare c = not (is_bare c)

-- a text that stands outside quotes: one written octet or more, where none but those stands by
-- itself
pub record StandsBare (text : List ℕ) : Type 0 where
  pub units : List Written
  pub some : 0 < length units
  pub each : AllByRecursion (IsUnit not_bare) units
  pub parts : text ≡ written_text units

-- ---- texts

pub bare_append : (xs ys : List ℕ) → StandsBare xs → StandsBare ys → StandsBare (xs ++ ys)
bare_append xs ys x y = grind (arith, common_steps)

pub bare_unit : (w : Written) → IsUnit not_bare w → StandsBare (text_of w)
bare_unit w is = record { units = w ∷ []; some = omega arith; each = (is, tt); parts = sym (append-nil (text_of w)) }

plain_units : (text : List ℕ) → AllByRecursion (λ c. is_bare c ≡ true) text → AllByRecursion (IsUnit not_bare) (map plain text)
plain_units [] each = tt
plain_units (c ∷ text) each = (((ap not each.0, λ e. both_ways (is_bare c) (ap is_bare e) each.0)), plain_units text each.1)

pub plain_text : (text : List ℕ) → text ≡ written_text (map plain text)
plain_text [] = refl
plain_text (c ∷ text) = ap (λ t. c ∷ t) (plain_text text)

-- octets that stand by themselves
pub bare_octets : (text : List ℕ) → 0 < length text → AllByRecursion (λ c. is_bare c ≡ true) text → StandsBare text
bare_octets text some each = grind (arith, length-map, plain_units, plain_text)

-- ---- names

printed_unit : (special printed : Bool) (c : ℕ) → c < 256 → is_special c ≡ special → is_printed c ≡ printed → IsUnit not_bare (written_by special printed c)
unfolding written_by
printed_unit special printed c low s p = search rules

pub bare_octet : (c : ℕ) → c < 256 → StandsBare (octet_text c)
bare_octet c low = grind (arith, printed_text (is_special c) (is_printed c) c, bare_unit (written_by (is_special c) (is_printed c) c) (printed_unit (is_special c) (is_printed c) c low refl refl))

bare_label : (label : List ℕ) → AllByRecursion IsFoldedOctet label → StandsBare (label_text label)
bare_label [] each = bare_octets (46 ∷ []) (omega arith) (refl, tt)
bare_label (c ∷ label) each = grind (arith, bare_label label each.1, append_assoc (octet_text c) (flat_map octet_text label) (46 ∷ []), bare_append (octet_text c) (label_text label) (bare_octet c each.0.octet) (bare_label label each.1))

bare_labels : (label : List ℕ) (labels : List (List ℕ)) → IsLabel label → AllByRecursion IsLabel labels → StandsBare (label_text label ++ flat_map label_text labels)
bare_labels label [] is each = grind (arith, append-nil, bare_label)
bare_labels label (next ∷ labels) is each = bare_append (label_text label) (flat_map label_text (next ∷ labels)) (bare_label label is.each) (bare_labels next labels each.0 each.1)

-- what is printed for a name stands outside quotes
pub bare_name : (labels : List (List ℕ)) → IsName labels → StandsBare (name_text labels)
bare_name labels is = grind (arith, bare_octets, bare_labels)
