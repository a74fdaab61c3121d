-- The canonical octets of record data: the names that it has in lower case (RFC 4034 6.2 (3), as RFC
-- 6840 5.1 amends it), of types whose data a zone keeps as opaque octets. And the same of the names of
-- all types, which servers compare without regard to case (RFC 4343).
use Rattle.std.specs.Prelude.{◌≡◌, ℕ, ◌+◌, ◌-◌, ◌*◌, ◌/◌, ◌%◌, List, [], ◌∷◌, ◌++◌, length, map, nat_le, if◌then◌else◌, ◌==◌, Bool, true, false, Option, Some, None}
use Rattle.std.specs.List.{flat_map, AllByRecursion}
use Rattle.data_names.specs.declared.table.Extent.{Extent}
use Rattle.data_names.specs.declared.table.Extent.TheVariants as extents
use Rattle.data_names.specs.declared.table.FoldedTypes.{FoldedTypes}
use Rattle.data_names.specs.declared.table.FoldedTypes.TheVariants.{Canonical, Every}
use Rattle.data_names.specs.declared.table.NamesAt.{NamesAt}
use Rattle.data_names.specs.declared.table.NamePlace.{NamePlace}
use Rattle.data_names.specs.declared.table.NamePlace.TheVariants as places
use Rattle.data_names.specs.declared.table.TableRow.{TableRow}
use Rattle.zone_name.specs.Common.{Labels}
use Rattle.zone_name.specs.Name.{IsCasedName, folded, wire}
use Rattle.zone_rdata.specs.Record.{Record}

-- after so many octets, names
abbrev pub names_at : ℕ → Extent → NamesAt
names_at before extent = record { before = before; extent = extent }

-- a type, whether its names are in lower case in the canonical form of DNSSEC, and where they are
pub record TypeRow : Type 0 where
  pub kind : ℕ
  pub row : TableRow

abbrev pub type_row : ℕ → Bool → NamePlace → TypeRow
type_row kind canonical place =
    record { kind = kind; row = record { canonical = canonical; place = place } }

-- the types, a row each, their numbers ascending
abbrev pub rows : List TypeRow
rows =
    type_row 3 true (places.Whole 0 1)  -- MD (RFC 1035 3.3.4)
    ∷ type_row 4 true (places.Whole 0 1)  -- MF (RFC 1035 3.3.5)
    ∷ type_row 7 true (places.Whole 0 1)  -- MB (RFC 1035 3.3.3)
    ∷ type_row 8 true (places.Whole 0 1)  -- MG (RFC 1035 3.3.6)
    ∷ type_row 9 true (places.Whole 0 1)  -- MR (RFC 1035 3.3.8)
    ∷ type_row 14 true (places.Whole 0 2)  -- MINFO (RFC 1035 3.3.7)
    ∷ type_row 17 true (places.Whole 0 2)  -- RP (RFC 1183 2.2)
    ∷ type_row 18 true (places.Whole 2 1)  -- AFSDB (RFC 1183 1)
    ∷ type_row 21 true (places.Whole 2 1)  -- RT (RFC 1183 3.3)
    ∷ type_row 23 false (places.Whole 0 1)  -- NSAP-PTR (RFC 1348)
    ∷ type_row 24 true (places.Front 18 1)  -- SIG (RFC 2535 4.1)
    ∷ type_row 26 true (places.Whole 2 2)  -- PX (RFC 2163 4)
    ∷ type_row 30 true (places.Front 0 1)  -- NXT (RFC 2535 5.2)
    ∷ type_row 36 true (places.Whole 2 1)  -- KX (RFC 2230 3.1)
    ∷ type_row 38 true places.A6  -- A6 (RFC 2874 3.1)
    ∷ type_row 39 true (places.Whole 0 1)  -- DNAME (RFC 6672 2.1)
    ∷ type_row 45 false places.Ipseckey  -- IPSECKEY (RFC 4025 2.1)
    ∷ type_row 46 true (places.Front 18 1)  -- RRSIG (RFC 4034 3.1)
    ∷ type_row 47 false (places.Front 0 1)  -- NSEC (RFC 4034 4.1)
    ∷ type_row 55 false places.Hip  -- HIP (RFC 8005 5)
    ∷ type_row 58 false (places.Whole 0 2)  -- TALINK
    ∷ type_row 64 false (places.Front 2 1)  -- SVCB (RFC 9460 2.2)
    ∷ type_row 65 false (places.Front 2 1)  -- HTTPS (RFC 9460 2.2)
    ∷ type_row 66 false (places.Whole 5 1)  -- DSYNC (RFC 9859 2)
    ∷ type_row 107 false (places.Whole 2 1)  -- LP (RFC 6742 2.4)
    ∷ type_row 260 false places.Amtrelay  -- AMTRELAY (RFC 8777 4.2)
    ∷ []

abbrev pub row_in : ℕ → List TypeRow → Option TableRow
row_in kind [] = None
row_in kind (r ∷ others) = if kind == r.kind then Some r.row else row_in kind others

abbrev pub row_of : ℕ → Option TableRow
row_of kind = row_in kind rows

-- a length, the octets of the other 128 - length bits, and a name where the length isn't 0 (RFC 2874
-- 3.1)
abbrev pub names_in_a6 : List ℕ → Option NamesAt
names_in_a6 [] = None
names_in_a6 (len ∷ octets) =
    if nat_le len 128
    then Some (names_at (1 + (135 - len) / 8) (extents.Whole (if len == 0 then 0 else 1)))
    else None

-- a precedence, a type of gateway, an algorithm, the gateway, a name where its type is 3, and a key
-- (RFC 4025 2.1, 2.3)
abbrev pub names_in_ipseckey : List ℕ → Option NamesAt
names_in_ipseckey [] = None
names_in_ipseckey (precedence ∷ []) = None
names_in_ipseckey (precedence ∷ gateway ∷ octets) =
    if gateway == 3 then Some (names_at 3 (extents.Front 1)) else None

-- a precedence, a bit and a type of relay of seven bits, and the relay, a name where its type is 3
-- (RFC 8777 4.2)
abbrev pub names_in_amtrelay : List ℕ → Option NamesAt
names_in_amtrelay [] = None
names_in_amtrelay (precedence ∷ []) = None
names_in_amtrelay (precedence ∷ relay ∷ octets) =
    if relay % 128 == 3 then Some (names_at 2 (extents.Whole 1)) else None

-- the length of a tag, an algorithm, the length of a key in two octets, the tag, the key, and names of
-- servers (RFC 8005 5)
abbrev pub names_in_hip : List ℕ → Option NamesAt
names_in_hip (tag ∷ algorithm ∷ high ∷ low ∷ octets) =
    Some (names_at (4 + tag + high * 256 + low) extents.ToEnd)
names_in_hip octets = None

-- where the names of data are
abbrev pub place_names : NamePlace → List ℕ → Option NamesAt
place_names (places.Whole before count) octets = Some (names_at before (extents.Whole count))
place_names (places.Front before count) octets = Some (names_at before (extents.Front count))
place_names places.A6 octets = names_in_a6 octets
place_names places.Ipseckey octets = names_in_ipseckey octets
place_names places.Amtrelay octets = names_in_amtrelay octets
place_names places.Hip octets = names_in_hip octets

-- whether the names of a row are put in lower case
abbrev pub folds : FoldedTypes → TableRow → Bool
folds Canonical row = row.canonical
folds Every row = true

abbrev pub row_names : FoldedTypes → Option TableRow → List ℕ → Option NamesAt
row_names types None octets = None
row_names types (Some row) octets = if folds types row then place_names row.place octets else None

-- where the names of a type's data are that are put in lower case, if any can be
abbrev pub names_in : FoldedTypes → ℕ → List ℕ → Option NamesAt
names_in types kind octets = row_names types (row_of kind) octets

-- those of the canonical form (RFC 4034 6.2 (3), RFC 6840 5.1)
abbrev pub names_of : ℕ → List ℕ → Option NamesAt
names_of kind octets = names_in Canonical kind octets

-- names of an extent, and the octets after them
abbrev pub HasExtent : Extent → List Labels → List ℕ → Type 0
HasExtent (extents.Whole count) names rest = (length names ≡ count) × (rest ≡ [])
HasExtent (extents.Front count) names rest = length names ≡ count
HasExtent extents.ToEnd names rest = rest ≡ []

-- data with names in it: octets before them, the names, and the rest, which only some types have
pub record HasNames (at : NamesAt) (octets front : List ℕ) (names : List Labels)
    (rest : List ℕ) : Type 0 where
  pub parts : octets ≡ front ++ (flat_map wire names ++ rest)
  pub before : length front ≡ at.before
  pub each : AllByRecursion IsCasedName names
  pub extent : HasExtent at.extent names rest

-- the data with its names in lower case; data that has no names at their place stays as it is
pub data IsLowered (at : Option NamesAt) (octets lowered : List ℕ) : Type 0 where
  with_names : (place : NamesAt) (front : List ℕ) (names : List Labels) (rest : List ℕ)
      → at ≡ Some place → HasNames place octets front names rest
      → lowered ≡ front ++ (flat_map wire (map folded names) ++ rest)
      → IsLowered at octets lowered
  with_none : ((place : NamesAt) (front : List ℕ) (names : List Labels) (rest : List ℕ)
      → at ≡ Some place → HasNames place octets front names rest → ⊥)
      → lowered ≡ octets → IsLowered at octets lowered

-- a record, and the same with the names in its data in lower case: with those of the canonical form its
-- canonical form (RFC 4034 6.2)
pub record IsLoweredRecord (types : FoldedTypes) (r lower : Record) : Type 0 where
  pub owner : lower.owner ≡ r.owner
  pub class : lower.class ≡ r.class
  pub kind : lower.kind ≡ r.kind
  pub ttl : lower.ttl ≡ r.ttl
  pub octets : IsLowered (names_in types r.kind r.octets) r.octets lower.octets
