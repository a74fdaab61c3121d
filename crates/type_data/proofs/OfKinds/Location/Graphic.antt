-- Locations that are printed stand on a line as they are, of octets that a
-- terminal shows.
use Rattle.zone_rdata.specs.Item.{bare}
use Rattle.type_data.proofs.Common.{Bool, List, RawItem, [], arith, false, if◌then◌else◌, nat_lt, nat_tests, refl, subst, sym, true, ℕ, ◌%◌, ◌*◌, ◌++◌, ◌-◌, ◌/◌, ◌<◌, ◌==◌, ◌^◌, ◌∷◌, ◌≡◌}
use Rattle.zone_name.proofs.Texts.Bare.{is_bare}
use Rattle.std.specs.Prelude.{decimal}
use Rattle.type_data.proofs.Printed.Graphic.{IsGraphicText, graphic_append, graphic_decimal, graphic_octets, graphic_tested}
use Rattle.type_data.proofs.OfKinds.Location.Printed.{few_thousandths, size_few}
use Rattle.type_data.specs.Kinds.Location.{IsDigitAndPower, IsPlace, PrintsLocation, altitude_text, angle_at, capital_letter, half_at, hundredths, last_digit, metres, place_items, seconds, size_text}
use Rattle.type_data.specs.declared.kinds.location.place.Axis.{Axis}
use Rattle.type_data.specs.declared.kinds.location.place.Axis.TheVariants.{Latitude, Longitude}
use Rattle.type_data.specs.declared.kinds.location.place.Half.{Half}
use Rattle.type_data.specs.declared.kinds.location.place.Half.TheVariants.{Upper, Lower}
use Rattle.type_data.proofs.Printed.GraphicItems.{AreGraphicItems}

digit_bare : (n : ℕ) → is_bare (last_digit n) ≡ true
digit_bare n = grind (arith, nat_tests)

seconds_graphic : (n : ℕ) → n < 60000 → IsGraphicText (seconds n)
seconds_graphic n few = graphic_append (decimal (n / 1000)) (46 ∷ last_digit (n / 100) ∷ last_digit (n / 10) ∷ last_digit n ∷ []) (graphic_decimal (n / 1000) (omega arith)) (graphic_octets (46 ∷ last_digit (n / 100) ∷ last_digit (n / 10) ∷ last_digit n ∷ []) (omega arith) (refl, (digit_bare (n / 100), (digit_bare (n / 10), (digit_bare n, tt)))))

hundredths_graphic : (none : Bool) (c : ℕ) → IsGraphicText ((if none then [] else 46 ∷ last_digit (c / 10) ∷ last_digit c ∷ []) ++ 109 ∷ [])
hundredths_graphic true c = graphic_tested (109 ∷ []) refl
hundredths_graphic false c = graphic_octets (46 ∷ last_digit (c / 10) ∷ last_digit c ∷ 109 ∷ []) (omega arith) (refl, (digit_bare (c / 10), (digit_bare c, (refl, tt))))

metres_graphic : (c : ℕ) → c < 2 ^ 64 → IsGraphicText (metres c)
metres_graphic c few = graphic_append (decimal (c / 100)) (hundredths c ++ 109 ∷ []) (graphic_decimal (c / 100) (omega arith)) (hundredths_graphic (c % 100 == 0) c)

capital_graphic : (axis : Axis) (half : Half) → IsGraphicText (capital_letter axis half)
capital_graphic Latitude Upper = graphic_tested (78 ∷ []) refl
capital_graphic Latitude Lower = graphic_tested (83 ∷ []) refl
capital_graphic Longitude Upper = graphic_tested (69 ∷ []) refl
capital_graphic Longitude Lower = graphic_tested (87 ∷ []) refl

place_graphic : (axis : Axis) (n : ℕ) (rest : List RawItem) → IsPlace axis n → AreGraphicItems rest → AreGraphicItems (place_items axis n ++ rest)
place_graphic axis n rest is more =
    let few = few_thousandths axis n is in
    (graphic_decimal (angle_at n / 3600000) (omega arith), (graphic_decimal (angle_at n / 60000 % 60) (omega arith), (seconds_graphic (angle_at n % 60000) (omega arith), (capital_graphic axis (half_at n), more))))

altitude_graphic : (low : Bool) (n : ℕ) → n < 2 ^ 32 → IsGraphicText (if low then 45 ∷ metres (10000000 - n) else metres (n - 10000000))
altitude_graphic true n few = graphic_append (45 ∷ []) (metres (10000000 - n)) (graphic_tested (45 ∷ []) refl) (metres_graphic (10000000 - n) (omega arith))
altitude_graphic false n few = metres_graphic (n - 10000000) (omega arith)

size_graphic : (n : ℕ) → IsDigitAndPower n → IsGraphicText (size_text n)
size_graphic n is = let few = size_few n is in metres_graphic (n / 16 * 10 ^ (n % 16)) (omega arith)

pub location_graphic : (items : List RawItem) (octets : List ℕ) → PrintsLocation items octets → AreGraphicItems items
location_graphic items octets (l, (is, (are, value))) =
    let last : List RawItem = bare (altitude_text l.altitude) ∷ bare (size_text l.size) ∷ bare (size_text l.horizontal) ∷ bare (size_text l.vertical) ∷ [] in
    subst AreGraphicItems (sym are) (place_graphic Latitude l.latitude (place_items Longitude l.longitude ++ last) is.latitude (place_graphic Longitude l.longitude last is.longitude (altitude_graphic (nat_lt l.altitude 10000000) l.altitude is.altitude, (size_graphic l.size is.size, (size_graphic l.horizontal is.horizontal, (size_graphic l.vertical is.vertical, tt))))))
