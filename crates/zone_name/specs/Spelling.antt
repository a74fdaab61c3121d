-- The texts that spell a name, and the first fault of a text that spells none (RFC 1035 5.1).
use Rattle.std.specs.Prelude.{◌≡◌, ◌≢◌, ℕ, ◌+◌, ◌-◌, ◌*◌, ◌<◌, ◌≤◌, List, [], ◌∷◌, ◌++◌, length, map, codes, Option, Some, None, nat_le, ◌==◌, ◌&&◌, Bool, true, false, ◌⊎◌}
use Rattle.std.specs.List.{flat_map, AllByRecursion, join_with_byte}
use Rattle.zone_name.specs.Common.{Labels}
use Rattle.zone_name.specs.Name.{folded, wire, IsCasedName, IsName}
use Rattle.zone_name.specs.declared.fault.NameFault.{NameFault}
use Rattle.zone_name.specs.declared.fault.NameFault.TheVariants.{EmptyLabel, LabelTooLong, NameTooLong, BadEscape, RelativeName}

-- the faults of a label that is added after others
abbrev pub IsLabelFault : NameFault → Type 0
IsLabelFault EmptyLabel = Unit {0}
IsLabelFault LabelTooLong = Unit {0}
IsLabelFault NameTooLong = Unit {0}
IsLabelFault BadEscape = ⊥
IsLabelFault RelativeName = ⊥

abbrev pub is_digit : ℕ → Bool
is_digit c = nat_le 48 c && nat_le c 57

-- one octet of a label as it is written: by itself, after a backslash, or by a backslash and three
-- digits
pub data Written : Type 0 where
  plain : ℕ → Written
  escaped : ℕ → Written
  decimal : ℕ → ℕ → ℕ → Written

abbrev pub text_of : Written → List ℕ
text_of (plain c) = c ∷ []
text_of (escaped c) = 92 ∷ c ∷ []
text_of (decimal x y z) = 92 ∷ x ∷ y ∷ z ∷ []

abbrev pub octet_of : Written → ℕ
octet_of (plain c) = c
octet_of (escaped c) = c
octet_of (decimal x y z) = 100 * (x - 48) + 10 * (y - 48) + (z - 48)

-- a backslash before any octet but a digit, a line feed and a carriage return, or before three
-- digits of at most 255
abbrev pub IsEscape : Written → Type 0
IsEscape (plain c) = ⊥
IsEscape (escaped c) = (is_digit c ≡ false) × (c ≢ 10) × (c ≢ 13)
IsEscape (decimal x y z) =
    (is_digit x ≡ true) × (is_digit y ≡ true) × (is_digit z ≡ true)
    × (octet_of (decimal x y z) ≤ 255)

-- a written octet where some octets mean something else: an octet by itself that is none of them
-- and no backslash, or an escape
abbrev pub IsUnit : (ℕ → Bool) → Written → Type 0
IsUnit left_out (plain c) = (left_out c ≡ false) × (c ≢ 92)
IsUnit left_out (escaped c) = IsEscape (escaped c)
IsUnit left_out (decimal x y z) = IsEscape (decimal x y z)

-- in a name a dot parts labels
abbrev pub is_dot : ℕ → Bool
is_dot c = c == 46

-- where no octet but a backslash means something else
abbrev pub no_octet : ℕ → Bool
no_octet c = false

-- a label as it is written: one written octet or more
pub record IsWrittenLabel (label : List Written) : Type 0 where
  pub some : 0 < length label
  pub each : AllByRecursion (IsUnit is_dot) label

abbrev pub written_text : List Written → List ℕ
written_text label = flat_map text_of label

abbrev pub written_octets : List Written → List ℕ
written_octets label = map octet_of label

-- each label with a dot after it, as an absolute name is written
abbrev pub dotted : List (List Written) → List ℕ
dotted labels = flat_map (λ label. written_text label ++ 46 ∷ []) labels

-- the labels parted by dots with none at the end, as a relative name is written
abbrev pub parted : List (List Written) → List ℕ
parted labels = join_with_byte 46 (map written_text labels)

-- the labels that are written, with their letters
abbrev pub kept : List (List Written) → Labels
kept labels = map written_octets labels

-- the labels that are written, in lower case
abbrev pub named : List (List Written) → Labels
named labels = folded (kept labels)

-- one label or more
pub record AreWrittenLabels (labels : List (List Written)) : Type 0 where
  pub some : 0 < length labels
  pub each : AllByRecursion IsWrittenLabel labels

-- how a text spells labels under an origin, whatever their length, where `taken` says what labels
-- those that are written are
pub data WritesBy (taken : List (List Written) → Labels) (origin : Option Labels) (text : List ℕ)
    (labels : Labels) : Type 0 where
  root : text ≡ codes "." → labels ≡ [] → WritesBy taken origin text labels
  at_origin : text ≡ codes "@" → origin ≡ Some labels → WritesBy taken origin text labels
  absolute : (written : List (List Written)) → AreWrittenLabels written → text ≡ dotted written
      → labels ≡ taken written → WritesBy taken origin text labels
  relative : (written : List (List Written)) (above : Labels) → AreWrittenLabels written
      → text ≢ codes "@" → text ≡ parted written → origin ≡ Some above
      → labels ≡ taken written ++ above → WritesBy taken origin text labels

-- the same, where what is written is put in lower case
abbrev pub Writes : Option Labels → List ℕ → Labels → Type 0
Writes = WritesBy named

-- the same, where what is written keeps its letters
abbrev pub WritesCased : Option Labels → List ℕ → Labels → Type 0
WritesCased = WritesBy kept

-- the text spells the name under the origin
pub record Spells (origin : Option Labels) (text : List ℕ) (labels : Labels) : Type 0 where
  pub written : Writes origin text labels
  pub name : IsName labels

-- after the octets that were there stand those of the name that the text spells under the origin
abbrev pub AppendsSpelled : Option Labels → List ℕ → List ℕ → List ℕ → Type 0
AppendsSpelled origin text old new =
    (labels : Labels) × Spells origin text labels × (new ≡ old ++ wire labels)

-- the text spells the name under the origin, and all letters stay as they are written
pub record SpellsCased (origin : Option Labels) (text : List ℕ) (labels : Labels) : Type 0 where
  pub written : WritesCased origin text labels
  pub name : IsCasedName labels

-- what stands at the place of a label's next octet and is none: nothing, or a dot
abbrev pub EndsLabel : List ℕ → Type 0
EndsLabel rest = (rest ≡ []) ⊎ ((more : List ℕ) × (rest ≡ 46 ∷ more))

-- a backslash that begins no escape
abbrev pub IsBadEscape : List ℕ → Type 0
IsBadEscape rest =
    (more : List ℕ) × (rest ≡ 92 ∷ more)
    × ((w : Written) (after : List ℕ) → IsEscape w → rest ≢ text_of w ++ after)

-- a text from a backslash on: an escape, which stands for the octet, and the rest
pub record BeginsWithEscape (text : List ℕ) (octet : ℕ) (rest : List ℕ) : Type 0 where
  pub escape : Written
  pub is_escape : IsEscape escape
  pub value : octet_of escape ≡ octet
  pub parts : text ≡ text_of escape ++ rest

-- a text from a written octet on, which stands for the octet, and the rest
pub record BeginsWithUnit (left_out : ℕ → Bool) (text : List ℕ) (octet : ℕ)
    (rest : List ℕ) : Type 0 where
  pub unit : Written
  pub is_unit : IsUnit left_out unit
  pub value : octet_of unit ≡ octet
  pub parts : text ≡ text_of unit ++ rest

-- A text up to a place: labels of at most 63 octets with their dots, and the octets of the label
-- that is open
pub record Reaches (text : List ℕ) (before : List (List Written)) (open_label : List Written)
    (rest : List ℕ) : Type 0 where
  pub labels : AllByRecursion IsWrittenLabel before
  pub short : AllByRecursion (λ label. length label ≤ 63) before
  pub octets : AllByRecursion (IsUnit is_dot) open_label
  pub room : length open_label ≤ 63
  pub parts : text ≡ dotted before ++ written_text open_label ++ rest

-- The leftmost fault of a text itself: at the dot or end that closes an empty label, at the 64th
-- octet of a label, or at a backslash that begins no escape
pub data FaultAt (text : List ℕ) : NameFault → Type 0 where
  empty_label : (before : List (List Written)) (rest : List ℕ) → Reaches text before [] rest
      → EndsLabel rest → (rest ≡ [] → before ≡ []) → text ≢ codes "." → FaultAt text EmptyLabel
  long_label : (before : List (List Written)) (open_label : List Written) (w : Written)
      (rest : List ℕ) → Reaches text before open_label (text_of w ++ rest) → length open_label ≡ 63
      → IsUnit is_dot w → FaultAt text LabelTooLong
  bad_escape : (before : List (List Written)) (open_label : List Written) (rest : List ℕ)
      → Reaches text before open_label rest → IsBadEscape rest → FaultAt text BadEscape

-- a relative text of labels of at most 63 octets, `@` among them
abbrev pub IsRelative : List ℕ → Type 0
IsRelative text =
    (written : List (List Written)) × AreWrittenLabels written
    × AllByRecursion (λ label. length label ≤ 63) written × (text ≡ parted written)

-- The first fault: one of the text itself, then a relative text without an origin, then a name that
-- is too long
pub data SpellingFault (origin : Option Labels) (text : List ℕ) : NameFault → Type 0 where
  within : (fault : NameFault) → FaultAt text fault → SpellingFault origin text fault
  unfounded : origin ≡ None → IsRelative text → SpellingFault origin text RelativeName
  long_name : (labels : Labels) → Writes origin text labels
      → AllByRecursion (λ label. length label ≤ 63) labels → 255 < length (wire labels)
      → SpellingFault origin text NameTooLong
