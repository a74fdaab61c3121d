-- The key of labels: digits whose plain order is never against that of the labels (RFC 4034 6.1),
-- one for each octet.
use Rattle.std.specs.Prelude.{ℕ, ◌+◌, ◌*◌, ◌-◌, ◌==◌, min, if◌then◌else◌, List, [], ◌∷◌, reverse}

-- How many octets less than this one have digits of their own. They are those from ! to @, among
-- them the digits and the hyphen, and those from _ to z, among them the letters.
abbrev pub own_below : ℕ → ℕ
own_below c = min (c - 33) 32 + min (c - 95) 28

-- the digit of the last octet of a label
abbrev pub last_digit : ℕ → ℕ
last_digit c = 2 * own_below c + 1

-- and of one that others follow: one more, but for those octets that share a digit
abbrev pub inner_digit : ℕ → ℕ
inner_digit c = own_below c + own_below (c + 1) + 1

abbrev pub octet_digit : ℕ → List ℕ → ℕ
octet_digit c [] = last_digit c
octet_digit c (d ∷ octets) = inner_digit c

-- a label before the digits of those to its left; after a digit that octets share none counts
abbrev pub octets_key : List ℕ → List ℕ → List ℕ
octets_key [] after = after
octets_key (c ∷ octets) after = octet_digit c octets ∷ (if own_below c == own_below (c + 1) then [] else octets_key octets after)

abbrev pub labels_key : List (List ℕ) → List ℕ → List ℕ
labels_key [] after = after
labels_key (label ∷ labels) after = octets_key label (labels_key labels after)

-- the labels of an owner from the right
abbrev pub owner_key : List (List ℕ) → List ℕ
owner_key owner = labels_key (reverse owner) []
