-- Locations as they are printed.
use Rattle.std.proofs.Common.{decimal}
use Rattle.std.proofs.lemmas.Nat.{from_be_bytes-to_be_bytes_4, le-div}
use Rattle.std.proofs.Math.Nat.{div-lt_iff_lt-mul, mul-div_left, mul-le-mul_right}
use Rattle.std.specs.Int.{from_be_bytes}
use Rattle.zone_rdata.specs.Item.{bare, quoted}
use Rattle.zone_rdata.proofs.Items.GenericLaws.{decimal-is}
use Rattle.zone_rdata.specs.Text.{written_item}
use Rattle.zone_name.specs.Spelling.{is_digit}
use Rattle.type_data.proofs.OfKinds.Location.Scaled.{m_cut}
use Rattle.type_data.proofs.Common.{AreCentimetres, Bool, IsAltitude, IsAngle, IsScaled, above, below, false, folded_label, if◌then◌else◌, nat_lt, true, with_point, without_m, ◌==◌, BeginsWithPlace, BeginsWithSize, IsFirstDigit, IsLocation, List, RawItem, StatesLocation, [], ap, append-nil, append_assoc, arith, cases_lt, drop, flat_map-append, from_middle, inl, inr, location_octets, nat_tests, pow-le-pow_right, pow-suc, refl, subst, sym, take, w32, ℕ, ◌*◌, ◌++◌, ◌+◌, ◌-◌, ◌/◌, ◌%◌, ◌<◌, ◌^◌, ◌∙◌, ◌∷◌, ◌≡◌, ◌≤◌}
use Rattle.type_data.specs.Kinds.Location.{IsDigitAndPower, IsOnEarth, IsPlace, IsSize, PrintsLocation, altitude_text, angle_at, angle_items, capital_letter, half_at, hundredths, last_digit, letter, location_items, metres, place_items, seconds, size_text, whole}
use Rattle.type_data.specs.Printed.{after_blanks}
use Rattle.type_data.specs.declared.kinds.location.Location.{Location}
use Rattle.type_data.specs.declared.kinds.location.place.Axis.{Axis}
use Rattle.type_data.specs.declared.kinds.location.place.Axis.TheVariants.{Latitude, Longitude}
use Rattle.type_data.specs.declared.kinds.location.place.Half.{Half}
use Rattle.type_data.specs.declared.kinds.location.place.Half.TheVariants.{Upper, Lower}

-- ---- items after blanks

after_both : (a b : List RawItem) → after_blanks (a ++ b) ≡ after_blanks a ++ after_blanks b
after_both a b = flat_map-append (λ (item : RawItem). 32 ∷ written_item item) a b

parts_appended : (old one two p q r s a b c d e f : List ℕ) → a ≡ old ++ one → b ≡ a ++ two → c ≡ b ++ 32 ∷ p → d ≡ c ++ 32 ∷ q → e ≡ d ++ 32 ∷ r → f ≡ e ++ 32 ∷ s → f ≡ old ++ (one ++ (two ++ 32 ∷ (p ++ 32 ∷ (q ++ 32 ∷ (r ++ 32 ∷ (s ++ []))))))
parts_appended old one two p q r s a b c d e f first second third fourth fifth sixth = rw (sixth, fifth, fourth, third, second, first) (simp (append_assoc, append-nil))

pub items_appended : (l : Location) (old a b c d e f : List ℕ) → a ≡ old ++ after_blanks (place_items Latitude l.latitude) → b ≡ a ++ after_blanks (place_items Longitude l.longitude) → c ≡ b ++ 32 ∷ altitude_text l.altitude → d ≡ c ++ 32 ∷ size_text l.size → e ≡ d ++ 32 ∷ size_text l.horizontal → f ≡ e ++ 32 ∷ size_text l.vertical → f ≡ old ++ after_blanks (location_items l)
items_appended l old a b c d e f first second third fourth fifth sixth =
    let last : List RawItem = bare (altitude_text l.altitude) ∷ bare (size_text l.size) ∷ bare (size_text l.horizontal) ∷ bare (size_text l.vertical) ∷ [] in
    let whole : after_blanks (location_items l) ≡ after_blanks (place_items Latitude l.latitude) ++ (after_blanks (place_items Longitude l.longitude) ++ after_blanks last) = after_both (place_items Latitude l.latitude) (place_items Longitude l.longitude ++ last) ∙ ap (λ (text : List ℕ). after_blanks (place_items Latitude l.latitude) ++ text) (after_both (place_items Longitude l.longitude) last) in
    parts_appended old (after_blanks (place_items Latitude l.latitude)) (after_blanks (place_items Longitude l.longitude)) (altitude_text l.altitude) (size_text l.size) (size_text l.horizontal) (size_text l.vertical) a b c d e f first second third fourth fifth sixth ∙ ap (λ (text : List ℕ). old ++ text) (sym whole)

-- ---- what items state is on Earth

place_at : (half : Half) (most angle n : ℕ) → most ≤ 648000000 → angle ≤ most → n ≡ from_middle half angle → (angle_at n ≤ most) × (n < 2 ^ 32)
place_at Upper most angle n few small value = (grind (arith, nat_tests), omega arith)
place_at Lower most angle n few small value = (grind (arith, nat_tests), omega arith)

place_of : (axis : Axis) (items rest : List RawItem) (n : ℕ) → BeginsWithPlace axis items n rest → IsPlace axis n × (n < 2 ^ 32)
place_of Latitude items rest n is = place_at is.half 324000000 is.angle n (omega arith) is.few is.value
place_of Longitude items rest n is = place_at is.half 648000000 is.angle n (omega arith) is.few is.value

digit_and_power : (digit power n : ℕ) → digit ≤ 9 → power ≤ 9 → (digit ≡ 0 → power ≡ 0) → n ≡ digit * 16 + power → IsDigitAndPower n
digit_and_power digit power n few more zero value =
    let tens : n / 16 ≡ digit = omega arith in
    let ones : n % 16 ≡ power = omega arith in
    (omega arith, (omega arith, λ none. ones ∙ zero (sym tens ∙ none)))

first_digit_of : (c n : ℕ) → IsFirstDigit c n → IsDigitAndPower n
first_digit_of c n is =
    let q : ℕ = 10 ^ is.power in
    let some : 0 < q = pow-le-pow_right {n = 10} (omega arith) {i = 0} {j = is.power} (omega arith) in
    let under : c < 10 * q = let e : 10 ^ (is.power + 1) ≡ q * 10 = ap (λ (k : ℕ). 10 ^ k) (omega arith) ∙ pow-suc 10 is.power in let b = is.below in omega arith in
    let digit : c / q < 10 = (div-lt_iff_lt-mul {k = q} {x = c} {y = 10} some).1 under in
    digit_and_power (c / q) is.power n (omega arith) is.few (λ none. elim is.first [
      | inl zero ↦ zero
      | inr least ↦ absurd (let one : 1 ≤ c / q = le-div 1 c q some (let t : 1 * q ≤ c = omega (arith, least) in t) in omega arith)
    ]) is.value

size_of : (usual : ℕ) (items rest : List RawItem) (n : ℕ) → IsDigitAndPower usual → BeginsWithSize usual items n rest → IsDigitAndPower n
size_of usual [] rest n own is = subst IsDigitAndPower (sym is.0) own
size_of usual (bare text ∷ items) rest n own is = first_digit_of is.0.0 n is.0.1.1.1
size_of usual (quoted text ∷ items) rest n own is = absurd is.0

usual_size : (digit power : ℕ) → 0 < digit → digit ≤ 9 → power ≤ 9 → IsDigitAndPower (digit * 16 + power)
usual_size digit power some few more = digit_and_power digit power (digit * 16 + power) few more (λ none. absurd (omega arith)) refl

-- a location's number in its octets
abbrev latitude_in : List ℕ → ℕ
latitude_in octets = from_be_bytes w32 (take 4 (drop 4 octets))

abbrev longitude_in : List ℕ → ℕ
longitude_in octets = from_be_bytes w32 (take 4 (drop 8 octets))

pub states_on_earth : (items : List RawItem) (octets : List ℕ) (l : Location) → l.latitude < 2 ^ 32 → l.longitude < 2 ^ 32 → l.altitude < 2 ^ 32 → octets ≡ location_octets l → StatesLocation items octets → IsOnEarth l
states_on_earth items octets l fits too high value (m, (is, stated)) =
    let same : location_octets m ≡ location_octets l = sym stated ∙ value in
    let north = place_of Latitude items is.after_latitude m.latitude is.latitude in
    let east = place_of Longitude is.after_latitude is.after_longitude m.longitude is.longitude in
    record {
      latitude = subst (IsPlace Latitude) (sym (from_be_bytes-to_be_bytes_4 m.latitude north.1) ∙ ap latitude_in same ∙ from_be_bytes-to_be_bytes_4 l.latitude fits) north.0;
      longitude = subst (IsPlace Longitude) (sym (from_be_bytes-to_be_bytes_4 m.longitude east.1) ∙ ap longitude_in same ∙ from_be_bytes-to_be_bytes_4 l.longitude too) east.0;
      altitude = high;
      size = subst IsDigitAndPower (cc same) (size_of 18 is.after_altitude is.after_size m.size (usual_size 1 2 (omega arith) (omega arith) (omega arith)) is.size);
      horizontal = subst IsDigitAndPower (cc same) (size_of 22 is.after_size is.after_horizontal m.horizontal (usual_size 1 6 (omega arith) (omega arith) (omega arith)) is.horizontal);
      vertical = subst IsDigitAndPower (cc same) (size_of 19 is.after_horizontal [] m.vertical (usual_size 1 3 (omega arith) (omega arith) (omega arith)) is.vertical);
    }

-- ---- what is printed states what it is printed for

digit_printed : (n : ℕ) → is_digit (last_digit n) ≡ true
digit_printed n = grind (arith, nat_tests)

seconds_scaled : (n : ℕ) → n < 60000 → IsScaled 3 (seconds n) n
seconds_scaled n few = with_point (decimal (n / 1000)) (last_digit (n / 100) ∷ last_digit (n / 10) ∷ last_digit n ∷ []) (n / 1000) (n % 1000) refl (decimal-is (n / 1000) (omega arith)) (record { some = omega arith; digits = (digit_printed (n / 100), (digit_printed (n / 10), (digit_printed n, tt))); value = omega arith }) (omega arith) (omega arith)

hundredths_scaled : (none : Bool) (c : ℕ) → c < 2 ^ 64 → (c % 100 == 0) ≡ none → IsScaled 2 (decimal (c / 100) ++ (if none then [] else 46 ∷ last_digit (c / 10) ∷ last_digit c ∷ [])) c
hundredths_scaled true c few e = subst (λ (text : List ℕ). IsScaled 2 text c) (sym (append-nil (decimal (c / 100)))) (whole (c / 100) (decimal-is (c / 100) (omega arith)) (grind (arith, nat_tests)))
hundredths_scaled false c few e = with_point (decimal (c / 100)) (last_digit (c / 10) ∷ last_digit c ∷ []) (c / 100) (c % 100) refl (decimal-is (c / 100) (omega arith)) (record { some = omega arith; digits = (digit_printed (c / 10), (digit_printed c, tt)); value = omega arith }) (omega arith) (omega arith)

metres_scaled : (c : ℕ) → c < 2 ^ 64 → AreCentimetres (metres c) c
metres_scaled c few = subst (λ (text : List ℕ). IsScaled 2 text c) (sym (ap without_m (sym (append_assoc (decimal (c / 100)) (hundredths c) (109 ∷ []))) ∙ m_cut (decimal (c / 100) ++ hundredths c) 109 refl)) (hundredths_scaled (c % 100 == 0) c few refl)

angle_printed : (n : ℕ) → n ≤ 648000000 → IsAngle (angle_items n) n
angle_printed n few =
    (n / 3600000, n / 60000 % 60 * 60000 + n % 60000, (decimal-is (n / 3600000) (omega arith), ((n / 60000 % 60, n % 60000, (decimal-is (n / 60000 % 60) (omega arith), (seconds_scaled (n % 60000) (omega arith), (omega arith, (omega arith, refl))))), omega arith)))

capital_folded : (axis : Axis) (half : Half) → folded_label (capital_letter axis half) ≡ letter axis half
capital_folded Latitude Upper = refl
capital_folded Latitude Lower = refl
capital_folded Longitude Upper = refl
capital_folded Longitude Lower = refl

place_value : (low : Bool) (n : ℕ) → nat_lt n 2147483648 ≡ low → n ≡ from_middle (if low then Lower else Upper) (if low then 2147483648 - n else n - 2147483648)
place_value true n e = grind (arith, nat_tests)
place_value false n e = grind (arith, nat_tests)

pub few_thousandths : (axis : Axis) (n : ℕ) → IsPlace axis n → angle_at n ≤ 648000000
few_thousandths Latitude n is = omega (arith, is)
few_thousandths Longitude n is = is

place_begins : (axis : Axis) (n : ℕ) (rest : List RawItem) → IsPlace axis n → BeginsWithPlace axis (place_items axis n ++ rest) n rest
place_begins axis n rest is =
    record {
      angle_items = angle_items (angle_at n);
      half_item = bare (capital_letter axis (half_at n));
      parts = refl;
      angle = angle_at n;
      states = angle_printed (angle_at n) (few_thousandths axis n is);
      few = is;
      half = half_at n;
      is_half = capital_folded axis (half_at n);
      value = place_value (nat_lt n 2147483648) n refl;
    }

altitude_by : (low : Bool) (n : ℕ) → n < 2 ^ 32 → nat_lt n 10000000 ≡ low → IsAltitude (if low then 45 ∷ metres (10000000 - n) else metres (n - 10000000)) n
altitude_by true n few e =
    let under : n < 10000000 = grind (arith, nat_tests) in
    below (metres (10000000 - n)) (10000000 - n) refl (metres_scaled (10000000 - n) (omega arith)) (omega arith) (omega arith)
altitude_by false n few e =
    let over : 10000000 ≤ n = grind (arith, nat_tests) in
    above (n - 10000000) (metres_scaled (n - 10000000) (omega arith)) (omega arith) (omega arith)

pub size_few : (n : ℕ) → IsDigitAndPower n → n / 16 * 10 ^ (n % 16) ≤ 9000000000
size_few n is =
    let most : 10 ^ (n % 16) ≤ 1000000000 = pow-le-pow_right {n = 10} (omega arith) {i = n % 16} {j = 9} (omega (arith, is.1.0)) in
    let nine : n / 16 * 10 ^ (n % 16) ≤ 9 * 10 ^ (n % 16) = mul-le-mul_right (10 ^ (n % 16)) is.0 in
    omega arith

size_printed : (n : ℕ) → IsDigitAndPower n → IsSize (size_text n) n
size_printed n is =
    let q : ℕ = 10 ^ (n % 16) in
    let some : 0 < q = pow-le-pow_right {n = 10} (omega arith) {i = 0} {j = n % 16} (omega arith) in
    let nine : n / 16 * q ≤ 9 * q = mul-le-mul_right q is.0 in
    let few : n / 16 * q ≤ 9000000000 = size_few n is in
    let digit : n / 16 * q / q ≡ n / 16 = mul-div_left (n / 16) some in
    let next : 10 ^ (n % 16 + 1) ≡ q * 10 = ap (λ (k : ℕ). 10 ^ k) (omega arith) ∙ pow-suc 10 (n % 16) in (
      n / 16 * q,
      (
        metres_scaled (n / 16 * q) (omega arith),
        (
          few,
          record {
            power = n % 16;
            few = is.1.0;
            first = elim (cases_lt 0 (n / 16)) [
              | inl digits ↦ inr (let one : 1 * q ≤ n / 16 * q = mul-le-mul_right q digits in omega arith)
              | inr none ↦ inl (is.1.1 (omega arith))
            ];
            below = omega arith;
            value = omega (arith, digit);
          },
        ),
      ),
    )

pub location_printed_states : (items : List RawItem) (octets : List ℕ) → PrintsLocation items octets → StatesLocation items octets
location_printed_states items octets (l, (is, (are, value))) =
    let last : List RawItem = bare (altitude_text l.altitude) ∷ bare (size_text l.size) ∷ bare (size_text l.horizontal) ∷ bare (size_text l.vertical) ∷ [] in (
      l,
      (
        subst (λ (given : List RawItem). IsLocation given l) (sym are) (record {
          after_latitude = place_items Longitude l.longitude ++ last;
          latitude = place_begins Latitude l.latitude (place_items Longitude l.longitude ++ last) is.latitude;
          after_longitude = last;
          longitude = place_begins Longitude l.longitude last is.longitude;
          after_altitude = bare (size_text l.size) ∷ bare (size_text l.horizontal) ∷ bare (size_text l.vertical) ∷ [];
          altitude = (altitude_by (nat_lt l.altitude 10000000) l.altitude is.altitude refl, refl);
          after_size = bare (size_text l.horizontal) ∷ bare (size_text l.vertical) ∷ [];
          size = (size_printed l.size is.size, refl);
          after_horizontal = bare (size_text l.vertical) ∷ [];
          horizontal = (size_printed l.horizontal is.horizontal, refl);
          vertical = (size_printed l.vertical is.vertical, refl);
        }),
        value,
      ),
    )

-- ---- one text is printed

fits_by : (low : Bool) (n : ℕ) → nat_lt n 2147483648 ≡ low → (if low then 2147483648 - n else n - 2147483648) ≤ 648000000 → n < 2 ^ 32
fits_by true n e few = grind (arith, nat_tests)
fits_by false n e few = omega arith

place_fits : (axis : Axis) (n : ℕ) → IsPlace axis n → n < 2 ^ 32
place_fits axis n is = fits_by (nat_lt n 2147483648) n refl (few_thousandths axis n is)

abbrev altitude_in : List ℕ → ℕ
altitude_in octets = from_be_bytes w32 (take 4 (drop 12 octets))

same_items : (l m : Location) → IsOnEarth l → IsOnEarth m → location_octets l ≡ location_octets m → location_items l ≡ location_items m
same_items l m p q e =
    let latitude : l.latitude ≡ m.latitude = sym (from_be_bytes-to_be_bytes_4 l.latitude (place_fits Latitude l.latitude p.latitude)) ∙ ap latitude_in e ∙ from_be_bytes-to_be_bytes_4 m.latitude (place_fits Latitude m.latitude q.latitude) in
    let longitude : l.longitude ≡ m.longitude = sym (from_be_bytes-to_be_bytes_4 l.longitude (place_fits Longitude l.longitude p.longitude)) ∙ ap longitude_in e ∙ from_be_bytes-to_be_bytes_4 m.longitude (place_fits Longitude m.longitude q.longitude) in
    let altitude : l.altitude ≡ m.altitude = sym (from_be_bytes-to_be_bytes_4 l.altitude p.altitude) ∙ ap altitude_in e ∙ from_be_bytes-to_be_bytes_4 m.altitude q.altitude in
    let size : l.size ≡ m.size = cc e in
    let horizontal : l.horizontal ≡ m.horizontal = cc e in
    let vertical : l.vertical ≡ m.vertical = cc e in
    rw (latitude, longitude, altitude, size, horizontal, vertical) refl

pub location_printed_once : (octets : List ℕ) (a b : List RawItem) → PrintsLocation a octets → PrintsLocation b octets → a ≡ b
location_printed_once octets a b (l, (p, (are, value))) (m, (q, (too, other))) = are ∙ same_items l m p q (sym value ∙ other) ∙ sym too
