-- How the code takes the items of a location apart.
use Rattle.std.specs.Prelude.{◌≡◌, ℕ, ◌+◌, ◌-◌, ◌*◌, ◌^◌, ◌≤◌, List, [], ◌∷◌, ◌++◌, length, Bool, true, false}
use Rattle.std.specs.List.{AllByRecursion}
use Rattle.zone_name.specs.Common.{NothingIs}
use Rattle.zone_rdata.specs.Item.{RawItem}
use Rattle.zone_rdata.specs.Number.{IsDecimal}
use Rattle.type_data.specs.Kinds.Location.{IsHalfOf, location_octets}
use Rattle.type_data.specs.declared.kinds.location.Location.{Location}
use Rattle.type_data.specs.declared.kinds.location.place.Axis.{Axis}
use Rattle.type_data.specs.declared.kinds.location.place.Half.{Half}

-- the item is no letter of the axis
abbrev pub IsNoHalf : Axis → RawItem → Type 0
IsNoHalf axis item = NothingIs (IsHalfOf axis item)

-- the items are cut at the first letter of the axis
pub record IsCutAtHalf (axis : Axis) (items front : List RawItem) (half : Half)
    (rest : List RawItem) : Type 0 where
  pub item : RawItem
  pub parts : items ≡ front ++ item ∷ rest
  pub is_half : IsHalfOf axis item half
  pub none_before : AllByRecursion (IsNoHalf axis) front

-- what is said of a number that is no greater
abbrev pub UpTo : ℕ → (ℕ → Type 0) → ℕ → Type 0
UpTo most Is n = Is n × (n ≤ most)

-- a number without a point
abbrev pub IsWholeIn : ℕ → List ℕ → ℕ → Type 0
IsWholeIn places text n = (w : ℕ) × (IsDecimal text w × (n ≡ w * 10 ^ places))

-- a number with digits before its point and after it
abbrev pub ArePartsIn : ℕ → List ℕ → List ℕ → ℕ → Type 0
ArePartsIn places front back n =
    (w part : ℕ) × (IsDecimal front w × (IsDecimal back part × ((length back ≤ places)
    × (n ≡ w * 10 ^ places + part * 10 ^ (places - length back)))))

abbrev pub minus : Bool → List ℕ
minus true = 45 ∷ []
minus false = []

abbrev pub BeginsWithMinus : List ℕ → Type 0
BeginsWithMinus [] = ⊥
BeginsWithMinus (c ∷ text) = c ≡ 45

-- the sign, or none where the text begins with none
pub record IsAfterMinus (text : List ℕ) (below : Bool) (rest : List ℕ) : Type 0 where
  pub parts : text ≡ minus below ++ rest
  pub first : below ≡ false → BeginsWithMinus text → ⊥

-- the octets are those of no location
abbrev pub HasNoLocation : List ℕ → Type 0
HasNoLocation octets = (l : Location) → octets ≡ location_octets l → ⊥
