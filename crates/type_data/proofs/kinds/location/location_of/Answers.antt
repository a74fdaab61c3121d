use Rattle.type_data.proofs.Common.{[], ap, arith, length, length-map, map, nat_tests, nil_from_length, raw_item, ◌<◌, ◌≡◌}
use Rattle.type_data.proofs.OfKinds.Location.Once.{altitude_at, horizontal_at, location_found, longitude_at, six, size_at, vertical_at}
use Rattle.type_data.proofs.kinds.location.location_of.Goals as goal

pub returns-in_err-latitude-clause-none : goal.returns-in_err-latitude-clause-none
returns-in_err-latitude-clause-none c = rw c.from_residual.ensures (λ l is. c.in_err-latitude.ensures.none l.latitude is.after_latitude is.latitude)

pub returns-in_err-longitude-clause-none : goal.returns-in_err-longitude-clause-none
returns-in_err-longitude-clause-none c = rw c.from_residual-in_err-longitude.ensures (λ l is. c.in_err-longitude.ensures.none l.longitude is.after_longitude (longitude_at (map raw_item c.args.items.now) l is c.in_ok-latitude.latitude _ c.in_ok-latitude.ensures.found))

pub returns-in_err-altitude-clause-none : goal.returns-in_err-altitude-clause-none
returns-in_err-altitude-clause-none c = rw c.from_residual-in_err-altitude.ensures (λ l is. c.in_err-altitude.ensures.none l.altitude is.after_altitude (altitude_at (map raw_item c.args.items.now) l is c.in_ok-latitude.latitude _ c.in_ok-latitude.ensures.found c.in_ok-longitude.longitude _ c.in_ok-longitude.ensures.found))

pub returns-in_err-size-clause-none : goal.returns-in_err-size-clause-none
returns-in_err-size-clause-none c = rw c.from_residual-in_err-size.ensures (λ l is. c.in_err-size.ensures.none l.size is.after_size (size_at (map raw_item c.args.items.now) l is c.in_ok-latitude.latitude _ c.in_ok-latitude.ensures.found c.in_ok-longitude.longitude _ c.in_ok-longitude.ensures.found c.in_ok-altitude.altitude _ c.in_ok-altitude.ensures.found))

pub returns-in_err-horizontal-clause-none : goal.returns-in_err-horizontal-clause-none
returns-in_err-horizontal-clause-none c = rw c.from_residual-in_err-horizontal.ensures (λ l is. c.in_err-horizontal.ensures.none l.horizontal is.after_horizontal (horizontal_at (map raw_item c.args.items.now) l is c.in_ok-latitude.latitude _ c.in_ok-latitude.ensures.found c.in_ok-longitude.longitude _ c.in_ok-longitude.ensures.found c.in_ok-altitude.altitude _ c.in_ok-altitude.ensures.found c.in_ok-size.size _ c.in_ok-size.ensures.found))

pub returns-in_err-vertical-clause-none : goal.returns-in_err-vertical-clause-none
returns-in_err-vertical-clause-none c = rw c.from_residual-in_err-vertical.ensures (λ l is. c.in_err-vertical.ensures.none l.vertical [] (vertical_at (map raw_item c.args.items.now) l is c.in_ok-latitude.latitude _ c.in_ok-latitude.ensures.found c.in_ok-longitude.longitude _ c.in_ok-longitude.ensures.found c.in_ok-altitude.altitude _ c.in_ok-altitude.ensures.found c.in_ok-size.size _ c.in_ok-size.ensures.found c.in_ok-horizontal.horizontal _ c.in_ok-horizontal.ensures.found))

pub returns-then-not-is_empty-clause-none : goal.returns-then-not-is_empty-clause-none
returns-then-not-is_empty-clause-none c =
    let some : 0 < length c.in_ok-vertical.after.now = grind (arith, nat_tests, c.is_empty.ensures, c.if-not-is_empty.true) in
    λ l is. omega (arith, length-map c.in_ok-vertical.after.now raw_item, ap length (six (map raw_item c.args.items.now) l is c.in_ok-latitude.latitude _ c.in_ok-latitude.ensures.found c.in_ok-longitude.longitude _ c.in_ok-longitude.ensures.found c.in_ok-altitude.altitude _ c.in_ok-altitude.ensures.found c.in_ok-size.size _ c.in_ok-size.ensures.found c.in_ok-horizontal.horizontal _ c.in_ok-horizontal.ensures.found c.in_ok-vertical.vertical _ c.in_ok-vertical.ensures.found).1)

pub returns-clause-found : goal.returns-clause-found
returns-clause-found c =
    let none : length c.in_ok-vertical.after.now ≡ 0 = grind (arith, nat_tests, c.is_empty.ensures, c.if-not-is_empty.false) in
    location_found (map raw_item c.args.items.now) _ _ _ _ _ _ _ c.in_ok-latitude.ensures.found c.in_ok-longitude.ensures.found c.in_ok-altitude.ensures.found c.in_ok-size.ensures.found c.in_ok-horizontal.ensures.found c.in_ok-vertical.ensures.found (ap (map raw_item) (nil_from_length c.in_ok-vertical.after.now none))
