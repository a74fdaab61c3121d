-- Locations on Earth (RFC 1876 2, 3).
use Rattle.std.specs.Prelude.{◌≡◌, ℕ, ◌+◌, ◌-◌, ◌*◌, ◌/◌, ◌%◌, ◌^◌, ◌<◌, ◌≤◌, ◌⊎◌, List, [], ◌∷◌, ◌++◌, length, ◌==◌, ◌||◌, nat_lt, if◌then◌else◌, codes, decimal}
use Rattle.std.specs.Int.{w32, to_be_bytes}
use Rattle.zone_name.specs.Name.{folded_label}
use Rattle.zone_rdata.specs.Item.{RawItem, bare, quoted}
use Rattle.zone_rdata.specs.Number.{IsDecimal}
use Rattle.type_data.specs.Kinds.Joined.{FailsAs}
use Rattle.type_data.specs.declared.fault.WordsFault.{WordsFault}
use Rattle.type_data.specs.declared.fault.WordsFault.TheVariants.{NotALocation}
use Rattle.type_data.specs.declared.kinds.location.Location.{Location}
use Rattle.type_data.specs.declared.kinds.location.place.Axis.{Axis}
use Rattle.type_data.specs.declared.kinds.location.place.Axis.TheVariants.{Latitude, Longitude}
use Rattle.type_data.specs.declared.kinds.location.place.Half.{Half}
use Rattle.type_data.specs.declared.kinds.location.place.Half.TheVariants.{Upper, Lower}
pub mod Machine

-- what is said of a text is said of a bare item
abbrev pub OfBareItem : (List ℕ → ℕ → Type 0) → RawItem → ℕ → Type 0
OfBareItem Is (bare text) n = Is text n
OfBareItem Is (quoted text) n = ⊥

-- ---- numbers with decimals

-- a number in units of which 10 ^ places make a whole: digits, and perhaps a point and one digit or
-- more, as many as there are places
pub data IsScaled (places : ℕ) (text : List ℕ) (n : ℕ) : Type 0 where
  whole : (w : ℕ) → IsDecimal text w → n ≡ w * 10 ^ places → IsScaled places text n
  with_point : (front back : List ℕ) (w part : ℕ) → text ≡ front ++ 46 ∷ back → IsDecimal front w
      → IsDecimal back part → length back ≤ places
      → n ≡ w * 10 ^ places + part * 10 ^ (places - length back) → IsScaled places text n

-- a text without the `m` that may end it, in either case
abbrev pub without_m : List ℕ → List ℕ
without_m [] = []
without_m (c ∷ []) = if c == 109 || c == 77 then [] else c ∷ []
without_m (c ∷ d ∷ text) = c ∷ without_m (d ∷ text)

-- centimetres, written in metres
abbrev pub AreCentimetres : List ℕ → ℕ → Type 0
AreCentimetres text n = IsScaled 2 (without_m text) n

-- ---- latitude and longitude

-- thousandths of a second of arc beside whole degrees: perhaps minutes, and perhaps seconds
abbrev pub ArePartsOfDegree : List RawItem → ℕ → Type 0
ArePartsOfDegree [] n = n ≡ 0
ArePartsOfDegree (minutes ∷ []) n =
    (m : ℕ) × (OfBareItem IsDecimal minutes m × ((m ≤ 59) × (n ≡ m * 60000)))
ArePartsOfDegree (minutes ∷ seconds ∷ []) n =
    (m s : ℕ) × (OfBareItem IsDecimal minutes m × (OfBareItem (IsScaled 3) seconds s
    × ((m ≤ 59) × ((s ≤ 59999) × (n ≡ m * 60000 + s)))))
ArePartsOfDegree items n = ⊥

-- thousandths of a second of arc: degrees, and perhaps minutes, and perhaps seconds
abbrev pub IsAngle : List RawItem → ℕ → Type 0
IsAngle [] n = ⊥
IsAngle (degrees ∷ items) n =
    (d part : ℕ) × (OfBareItem IsDecimal degrees d × (ArePartsOfDegree items part
    × (n ≡ d * 3600000 + part)))

abbrev pub most_degrees : Axis → ℕ
most_degrees Latitude = 90
most_degrees Longitude = 180

-- the letters of north and south, east and west
abbrev pub letter : Axis → Half → List ℕ
letter Latitude Upper = codes "n"
letter Latitude Lower = codes "s"
letter Longitude Upper = codes "e"
letter Longitude Lower = codes "w"

-- the item is the letter of a half, in either case
abbrev pub IsHalfOf : Axis → RawItem → Half → Type 0
IsHalfOf axis (bare text) half = folded_label text ≡ letter axis half
IsHalfOf axis (quoted text) half = ⊥

-- the equator and the meridian are 2 ^ 31
abbrev pub from_middle : Half → ℕ → ℕ
from_middle Upper angle = 2147483648 + angle
from_middle Lower angle = 2147483648 - angle

-- items from a latitude or longitude on, and those after it
pub record BeginsWithPlace (axis : Axis) (items : List RawItem) (n : ℕ)
    (rest : List RawItem) : Type 0 where
  pub angle_items : List RawItem
  pub half_item : RawItem
  pub parts : items ≡ angle_items ++ half_item ∷ rest
  pub angle : ℕ
  pub states : IsAngle angle_items angle
  pub few : angle ≤ most_degrees axis * 3600000
  pub half : Half
  pub is_half : IsHalfOf axis half_item half
  pub value : n ≡ from_middle half angle

-- ---- altitude and sizes

-- centimetres from 100,000 metres below the spheroid on, up to 42,849,672.95 metres above it
pub data IsAltitude (text : List ℕ) (n : ℕ) : Type 0 where
  above : (c : ℕ) → AreCentimetres text c → c ≤ 4284967295 → n ≡ 10000000 + c
      → IsAltitude text n
  below : (rest : List ℕ) (c : ℕ) → text ≡ 45 ∷ rest → AreCentimetres rest c → c ≤ 10000000
      → n ≡ 10000000 - c → IsAltitude text n

abbrev pub BeginsWithAltitude : List RawItem → ℕ → List RawItem → Type 0
BeginsWithAltitude [] n rest = ⊥
BeginsWithAltitude (item ∷ items) n rest = OfBareItem IsAltitude item n × (rest ≡ items)

-- the first digit of so many centimetres and the count of the digits after it, in four bits each
pub record IsFirstDigit (centimetres n : ℕ) : Type 0 where
  pub power : ℕ
  pub few : power ≤ 9
  pub first : (power ≡ 0) ⊎ (10 ^ power ≤ centimetres)
  pub below : centimetres < 10 ^ (power + 1)
  pub value : n ≡ centimetres / 10 ^ power * 16 + power

-- a size or a precision of at most 90,000,000 metres
abbrev pub IsSize : List ℕ → ℕ → Type 0
IsSize text n =
    (c : ℕ) × (AreCentimetres text c × ((c ≤ 9000000000) × IsFirstDigit c n))

-- a size, or what stands for it where no item is left
abbrev pub BeginsWithSize : ℕ → List RawItem → ℕ → List RawItem → Type 0
BeginsWithSize usual [] n rest = (n ≡ usual) × (rest ≡ [])
BeginsWithSize usual (item ∷ items) n rest = OfBareItem IsSize item n × (rest ≡ items)

-- ---- the location

-- latitude, longitude and altitude, and sizes: 1 metre of size, 10,000 of horizontal and 10 of
-- vertical precision where they are left out
pub record IsLocation (items : List RawItem) (l : Location) : Type 0 where
  pub after_latitude : List RawItem
  pub latitude : BeginsWithPlace Latitude items l.latitude after_latitude
  pub after_longitude : List RawItem
  pub longitude : BeginsWithPlace Longitude after_latitude l.longitude after_longitude
  pub after_altitude : List RawItem
  pub altitude : BeginsWithAltitude after_longitude l.altitude after_altitude
  pub after_size : List RawItem
  pub size : BeginsWithSize 18 after_altitude l.size after_size
  pub after_horizontal : List RawItem
  pub horizontal : BeginsWithSize 22 after_size l.horizontal after_horizontal
  pub vertical : BeginsWithSize 19 after_horizontal l.vertical []

-- version 0, the sizes, latitude, longitude and altitude
abbrev pub location_octets : Location → List ℕ
location_octets l =
    (0 ∷ l.size ∷ l.horizontal ∷ l.vertical ∷ []) ++ (to_be_bytes w32 l.latitude
    ++ (to_be_bytes w32 l.longitude ++ to_be_bytes w32 l.altitude))

abbrev pub StatesLocation : List RawItem → List ℕ → Type 0
StatesLocation items octets =
    (l : Location) × (IsLocation items l × (octets ≡ location_octets l))

abbrev pub FailsLocation : List RawItem → WordsFault → Type 0
FailsLocation items fault = FailsAs NotALocation StatesLocation items fault

-- ---- how a location is printed

abbrev pub last_digit : ℕ → ℕ
last_digit n = 48 + n % 10

-- centimetres in metres, with two decimals where they aren't zero
abbrev pub hundredths : ℕ → List ℕ
hundredths c =
    if c % 100 == 0 then [] else 46 ∷ last_digit (c / 10) ∷ last_digit c ∷ []

abbrev pub metres : ℕ → List ℕ
metres c = decimal (c / 100) ++ (hundredths c ++ codes "m")

-- thousandths of a second in seconds, with three decimals
abbrev pub seconds : ℕ → List ℕ
seconds n =
    decimal (n / 1000) ++ 46 ∷ last_digit (n / 100) ∷ last_digit (n / 10) ∷ last_digit n ∷ []

-- thousandths of a second of arc in degrees, minutes and seconds
abbrev pub angle_items : ℕ → List RawItem
angle_items n =
    bare (decimal (n / 3600000)) ∷ bare (decimal (n / 60000 % 60)) ∷ bare (seconds (n % 60000)) ∷ []

-- on which side of the equator or the meridian a place lies, and how far from it
abbrev pub half_at : ℕ → Half
half_at n = if nat_lt n 2147483648 then Lower else Upper

abbrev pub angle_at : ℕ → ℕ
angle_at n = if nat_lt n 2147483648 then 2147483648 - n else n - 2147483648

abbrev pub capital_letter : Axis → Half → List ℕ
capital_letter Latitude Upper = codes "N"
capital_letter Latitude Lower = codes "S"
capital_letter Longitude Upper = codes "E"
capital_letter Longitude Lower = codes "W"

abbrev pub place_items : Axis → ℕ → List RawItem
place_items axis n = angle_items (angle_at n) ++ bare (capital_letter axis (half_at n)) ∷ []

-- centimetres from 100,000 metres below the spheroid on, with `-` where they are below it
abbrev pub altitude_text : ℕ → List ℕ
altitude_text n =
    if nat_lt n 10000000 then 45 ∷ metres (10000000 - n) else metres (n - 10000000)

-- a digit and a power of ten
abbrev pub size_text : ℕ → List ℕ
size_text n = metres (n / 16 * 10 ^ (n % 16))

abbrev pub location_items : Location → List RawItem
location_items l =
    place_items Latitude l.latitude ++ (place_items Longitude l.longitude
    ++ (bare (altitude_text l.altitude) ∷ bare (size_text l.size) ∷ bare (size_text l.horizontal)
    ∷ bare (size_text l.vertical) ∷ []))

-- the place lies no further from the middle than the axis goes
abbrev pub IsPlace : Axis → ℕ → Type 0
IsPlace axis n = angle_at n ≤ most_degrees axis * 3600000

-- a digit and a power of ten up to 9, where digit 0 has power 0
abbrev pub IsDigitAndPower : ℕ → Type 0
IsDigitAndPower n = (n / 16 ≤ 9) × ((n % 16 ≤ 9) × (n / 16 ≡ 0 → n % 16 ≡ 0))

-- what has words
pub record IsOnEarth (l : Location) : Type 0 where
  pub latitude : IsPlace Latitude l.latitude
  pub longitude : IsPlace Longitude l.longitude
  pub altitude : l.altitude < 2 ^ 32
  pub size : IsDigitAndPower l.size
  pub horizontal : IsDigitAndPower l.horizontal
  pub vertical : IsDigitAndPower l.vertical

-- degrees, minutes and seconds with three decimals, and each half's letter; altitude, size and
-- precisions in metres
abbrev pub PrintsLocation : List RawItem → List ℕ → Type 0
PrintsLocation items octets =
    (l : Location) × (IsOnEarth l × ((items ≡ location_items l) × (octets ≡ location_octets l)))
