-- Items state one location at most.
use Rattle.type_data.proofs.Common.{BeginsWithAltitude, BeginsWithPlace, BeginsWithSize, DataItem, FailsLocation, IsLocation, List, NotALocation, NothingIs, RawItem, StatesLocation, [], ap, append_assoc, arith, inl, inr, length, length-append, location_octets, map, raw_item, refl, subst, sym, to_be_bytes, w32, ℕ, ◌++◌, ◌<◌, ◌∙◌, ◌∷◌, ◌≡◌}
use Rattle.zone_name.specs.Common.{EitherIs}
use Rattle.zone_rdata.proofs.Choices.{Choice}
use Rattle.type_data.proofs.OfKinds.Location.PlaceChoices.{altitude_begins, place_or_not, size_begins}
use Rattle.type_data.proofs.OfKinds.Location.Places.{altitude_once, place_once, size_once}
use Rattle.type_data.specs.declared.fault.WordsFault.TheVariants.{NothingLeft}
use Rattle.type_data.specs.declared.kinds.location.Location.{Location}
use Rattle.type_data.specs.declared.kinds.location.place.Axis.TheVariants.{Latitude, Longitude}

pub octets_pushed : (l : Location) (old a b c d : List ℕ) → a ≡ old ++ (0 ∷ l.size ∷ l.horizontal ∷ l.vertical ∷ []) → b ≡ a ++ to_be_bytes w32 l.latitude → c ≡ b ++ to_be_bytes w32 l.longitude → d ≡ c ++ to_be_bytes w32 l.altitude → d ≡ old ++ location_octets l
octets_pushed l old a b c d e f g h = rw (h, g, f, e) (simp append_assoc)

-- ---- what follows each part that was read

module _ (items : List RawItem) (l : Location) (is : IsLocation items l) where
  module _ (a : ℕ) (r : List RawItem) (first : BeginsWithPlace Latitude items a r) where
    one : (l.latitude ≡ a) × (is.after_latitude ≡ r)
    one = place_once Latitude items is.after_latitude r l.latitude a is.latitude first

    pub longitude_at : BeginsWithPlace Longitude r l.longitude is.after_longitude
    longitude_at = subst (λ (x : List RawItem). BeginsWithPlace Longitude x l.longitude is.after_longitude) one.1 is.longitude

    module _ (b : ℕ) (s : List RawItem) (second : BeginsWithPlace Longitude r b s) where
      two : (l.longitude ≡ b) × (is.after_longitude ≡ s)
      two = place_once Longitude r is.after_longitude s l.longitude b longitude_at second

      pub altitude_at : BeginsWithAltitude s l.altitude is.after_altitude
      altitude_at = subst (λ (x : List RawItem). BeginsWithAltitude x l.altitude is.after_altitude) two.1 is.altitude

      module _ (c : ℕ) (t : List RawItem) (third : BeginsWithAltitude s c t) where
        three : (l.altitude ≡ c) × (is.after_altitude ≡ t)
        three = altitude_once s is.after_altitude t l.altitude c altitude_at third

        pub size_at : BeginsWithSize 18 t l.size is.after_size
        size_at = subst (λ (x : List RawItem). BeginsWithSize 18 x l.size is.after_size) three.1 is.size

        module _ (d : ℕ) (u : List RawItem) (fourth : BeginsWithSize 18 t d u) where
          four : (l.size ≡ d) × (is.after_size ≡ u)
          four = size_once 18 t is.after_size u l.size d size_at fourth

          pub horizontal_at : BeginsWithSize 22 u l.horizontal is.after_horizontal
          horizontal_at = subst (λ (x : List RawItem). BeginsWithSize 22 x l.horizontal is.after_horizontal) four.1 is.horizontal

          module _ (e : ℕ) (v : List RawItem) (fifth : BeginsWithSize 22 u e v) where
            five : (l.horizontal ≡ e) × (is.after_horizontal ≡ v)
            five = size_once 22 u is.after_horizontal v l.horizontal e horizontal_at fifth

            pub vertical_at : BeginsWithSize 19 v l.vertical []
            vertical_at = subst (λ (x : List RawItem). BeginsWithSize 19 x l.vertical []) five.1 is.vertical

            pub six : (f : ℕ) (w : List RawItem) → BeginsWithSize 19 v f w → (l.vertical ≡ f) × ([] ≡ w)
            six f w sixth = size_once 19 v [] w l.vertical f vertical_at sixth

pub location_found : (items r s t u v w : List RawItem) (l : Location) → BeginsWithPlace Latitude items l.latitude r → BeginsWithPlace Longitude r l.longitude s → BeginsWithAltitude s l.altitude t → BeginsWithSize 18 t l.size u → BeginsWithSize 22 u l.horizontal v → BeginsWithSize 19 v l.vertical w → w ≡ [] → IsLocation items l
location_found items r s t u v w l first second third fourth fifth sixth none =
    record {
      after_latitude = r;
      latitude = first;
      after_longitude = s;
      longitude = second;
      after_altitude = t;
      altitude = third;
      after_size = u;
      size = fourth;
      after_horizontal = v;
      horizontal = fifth;
      vertical = subst (λ (x : List RawItem). BeginsWithSize 19 v l.vertical x) none sixth;
    }

-- ---- one location

octets_once : (items : List RawItem) (l m : Location) → IsLocation items l → IsLocation items m → location_octets l ≡ location_octets m
octets_once items l m p q =
    let first = one items l p m.latitude q.after_latitude q.latitude in
    let second = two items l p m.latitude q.after_latitude q.latitude m.longitude q.after_longitude q.longitude in
    let third = three items l p m.latitude q.after_latitude q.latitude m.longitude q.after_longitude q.longitude m.altitude q.after_altitude q.altitude in
    let fourth = four items l p m.latitude q.after_latitude q.latitude m.longitude q.after_longitude q.longitude m.altitude q.after_altitude q.altitude m.size q.after_size q.size in
    let fifth = five items l p m.latitude q.after_latitude q.latitude m.longitude q.after_longitude q.longitude m.altitude q.after_altitude q.altitude m.size q.after_size q.size m.horizontal q.after_horizontal q.horizontal in
    let sixth = six items l p m.latitude q.after_latitude q.latitude m.longitude q.after_longitude q.longitude m.altitude q.after_altitude q.altitude m.size q.after_size q.size m.horizontal q.after_horizontal q.horizontal m.vertical [] q.vertical in
    cc

pub location_once : (items : List RawItem) (a b : List ℕ) → StatesLocation items a → StatesLocation items b → a ≡ b
location_once items a b these those =
    these.1.1 ∙ octets_once items these.0 those.0 these.1.0 those.1.0 ∙ sym those.1.1

pub no_items : (l : Location) → IsLocation [] l → ⊥
no_items l is = omega (arith, ap length is.latitude.parts, length-append is.latitude.angle_items (is.latitude.half_item ∷ is.after_latitude))

-- items that are no location
pub no_location : (items : List DataItem) → 0 < length items → NothingIs (IsLocation (map raw_item items)) → FailsLocation (map raw_item items) NotALocation
no_location [] some none = absurd (omega arith)
no_location (item ∷ items) some none = (refl, λ octets states. none states.0 states.1.0)

-- ---- a location or none

left_or_not : (items r s t u v w : List RawItem) (l : Location) → BeginsWithPlace Latitude items l.latitude r → BeginsWithPlace Longitude r l.longitude s → BeginsWithAltitude s l.altitude t → BeginsWithSize 18 t l.size u → BeginsWithSize 22 u l.horizontal v → BeginsWithSize 19 v l.vertical w → Choice (IsLocation items)
left_or_not items r s t u v [] l first second third fourth fifth sixth =
    inl (l, location_found items r s t u v [] l first second third fourth fifth sixth refl)
left_or_not items r s t u v (item ∷ w) l first second third fourth fifth sixth =
    inr (λ m is. let none = (six items m is l.latitude r first l.longitude s second l.altitude t third l.size u fourth l.horizontal v fifth l.vertical (item ∷ w) sixth).1 in omega (arith, ap length none))

-- the sizes that items after an altitude begin with
sizes_or_not : (items r s t : List RawItem) (a b c : ℕ) → BeginsWithPlace Latitude items a r → BeginsWithPlace Longitude r b s → BeginsWithAltitude s c t → Choice (IsLocation items)
sizes_or_not items r s t a b c first second third = elim (size_begins 18 t) [
  | inr none ↦ inr (λ l is. none l.size is.after_size (size_at items l is a r first b s second c t third))
  | inl fourth ↦ elim (size_begins 22 fourth.1.0) [
    | inr none ↦ inr (λ l is. none l.horizontal is.after_horizontal (horizontal_at items l is a r first b s second c t third fourth.0 fourth.1.0 fourth.1.1))
    | inl fifth ↦ elim (size_begins 19 fifth.1.0) [
      | inr none ↦ inr (λ l is. none l.vertical [] (vertical_at items l is a r first b s second c t third fourth.0 fourth.1.0 fourth.1.1 fifth.0 fifth.1.0 fifth.1.1))
      | inl sixth ↦ left_or_not items r s t fourth.1.0 fifth.1.0 sixth.1.0 (record { size = fourth.0; horizontal = fifth.0; vertical = sixth.0; latitude = a; longitude = b; altitude = c }) first second third fourth.1.1 fifth.1.1 sixth.1.1
    ]
  ]
]

location_or_not : (items : List RawItem) → Choice (IsLocation items)
location_or_not items = elim (place_or_not Latitude items) [
  | inr none ↦ inr (λ l is. none l.latitude is.after_latitude is.latitude)
  | inl first ↦ elim (place_or_not Longitude first.1.0) [
    | inr none ↦ inr (λ l is. none l.longitude is.after_longitude (longitude_at items l is first.0 first.1.0 first.1.1))
    | inl second ↦ elim (altitude_begins second.1.0) [
      | inr none ↦ inr (λ l is. none l.altitude is.after_altitude (altitude_at items l is first.0 first.1.0 first.1.1 second.0 second.1.0 second.1.1))
      | inl third ↦ sizes_or_not items first.1.0 second.1.0 third.1.0 first.0 second.0 third.0 first.1.1 second.1.1 third.1.1
    ]
  ]
]

-- items state a location or have a fault
pub location_states_or_fails : (items : List RawItem) → EitherIs (StatesLocation items) (FailsLocation items)
location_states_or_fails [] = inr (NothingLeft, refl)
location_states_or_fails (item ∷ items) = elim (location_or_not (item ∷ items)) [
  | inl found ↦ inl (location_octets found.0, (found.0, (found.1, refl)))
  | inr none ↦ inr (NotALocation, (refl, λ octets states. none states.0 states.1.0))
]
