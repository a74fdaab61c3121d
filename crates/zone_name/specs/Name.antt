-- Domain names as lists of labels, and their octets in messages (RFC 1035 2.3.4, 3.1; RFC 4343 3).
use Rattle.std.specs.Prelude.{◌≡◌, ℕ, zero, suc, ◌+◌, ◌<◌, ◌≤◌, List, [], ◌∷◌, ◌++◌, length, map, take, drop, nat_le, ◌&&◌, if◌then◌else◌}
use Rattle.std.specs.List.{flat_map, AllByRecursion}
use Rattle.zone_name.specs.Common.{AreOctets, Labels}

-- a letter in lower case: octets 65 to 90 go to 97 to 122, and every other octet stays (RFC 4343 3)
abbrev pub folded_octet : ℕ → ℕ
folded_octet c = if nat_le 65 c && nat_le c 90 then c + 32 else c

abbrev pub folded_label : List ℕ → List ℕ
folded_label label = map folded_octet label

abbrev pub folded : Labels → Labels
folded labels = map folded_label labels

-- an octet of a label that is kept: one octet, in lower case
pub record IsFoldedOctet (c : ℕ) : Type 0 where
  pub octet : c < 256
  pub lower : folded_octet c ≡ c

-- a label has 1 to 63 octets (RFC 1035 2.3.4)
pub record IsLabel (label : List ℕ) : Type 0 where
  pub some : 0 < length label
  pub short : length label ≤ 63
  pub each : AllByRecursion IsFoldedOctet label

-- a label as it stands in a message: its length, then its octets (RFC 1035 3.1)
abbrev pub with_length : List ℕ → List ℕ
with_length label = length label ∷ label

-- the uncompressed octets of a name: each label, then the root's empty label (RFC 1035 3.1)
abbrev pub wire : Labels → List ℕ
wire labels = flat_map with_length labels ++ 0 ∷ []

-- a name: labels in lower case that take at most 255 octets in all (RFC 1035 2.3.4)
pub record IsName (labels : Labels) : Type 0 where
  pub each : AllByRecursion IsLabel labels
  pub short : length (wire labels) ≤ 255

-- a label with its letters as they are written
pub record IsCasedLabel (label : List ℕ) : Type 0 where
  pub some : 0 < length label
  pub short : length label ≤ 63
  pub each : AreOctets label

-- a name with its letters as they are written: labels that take at most 255 octets in all
pub record IsCasedName (labels : Labels) : Type 0 where
  pub each : AllByRecursion IsCasedLabel labels
  pub short : length (wire labels) ≤ 255

-- the labels at the beginning of octets, one after another up to the root, at most n of them
abbrev pub labels_by : ℕ → List ℕ → Labels
labels_by zero octets = []
labels_by (suc n) [] = []
labels_by (suc n) (zero ∷ octets) = []
labels_by (suc n) (suc c ∷ octets) = take (suc c) octets ∷ labels_by n (drop (suc c) octets)

-- the labels that uncompressed octets hold: the inverse of `wire`
unfoldable pub labels_of : List ℕ → Labels
labels_of octets = labels_by (length octets) octets

-- the uncompressed octets of a name, and nothing more
pub record HoldsName (octets : List ℕ) : Type 0 where
  pub whole : wire (labels_of octets) ≡ octets
  pub name : IsName (labels_of octets)

-- the uncompressed octets of a name with its letters as they are written, and nothing more
pub record HoldsCasedName (octets : List ℕ) : Type 0 where
  pub whole : wire (labels_of octets) ≡ octets
  pub name : IsCasedName (labels_of octets)

-- the octets of labels, each after its length, which the root's octet makes a name
pub record HoldsLabels (octets : List ℕ) : Type 0 where
  pub whole : flat_map with_length (labels_of octets) ≡ octets
  pub name : IsName (labels_of octets)

-- octets that begin with the uncompressed octets of a name
pub record BeginsWithName (octets : List ℕ) : Type 0 where
  pub name : IsName (labels_of octets)
  pub front : take (length (wire (labels_of octets))) octets ≡ wire (labels_of octets)

-- a name that lies at or below another: the apex's labels end its labels
abbrev pub IsWithin : Labels → Labels → Type 0
IsWithin labels apex = (below : Labels) × (labels ≡ below ++ apex)
