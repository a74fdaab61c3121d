-- The octets of a location have one list of items, and no octets have none.
use Rattle.std.proofs.Common.{ap, arith, List, refl, sym, ℕ, ◌++◌, ◌<◌, ◌^◌, ◌∙◌, ◌∷◌, ◌≡◌, ◌≤◌}
use Rattle.std.proofs.lemmas.Bool.Decides.{nat_tests}
use Rattle.std.proofs.lemmas.Nat.{from_be_bytes-to_be_bytes_4}
use Rattle.std.specs.Int.{from_be_bytes, to_be_bytes, w32}
use Rattle.zone_rdata.proofs.Octets.Sent.{append_same}
use Rattle.zone_rdata.specs.Item.{RawItem}
use Rattle.type_data.specs.Kinds.Gateway.{StatesNothing}
use Rattle.type_data.specs.Kinds.Location.{PrintsLocation, angle_at, location_octets}

pub nothing : (octets : List ℕ) (items others : List RawItem) → StatesNothing items octets → StatesNothing others octets → items ≡ others
nothing octets items others p q = p.0 ∙ sym q.0

-- ---- a location

four : (m n : ℕ) (x y : List ℕ) → m < 2 ^ 32 → n < 2 ^ 32 → to_be_bytes w32 m ++ x ≡ to_be_bytes w32 n ++ y → (m ≡ n) × (x ≡ y)
four m n x y a b e =
    let s = append_same (to_be_bytes w32 m) (to_be_bytes w32 n) x y refl e in
    (sym (from_be_bytes-to_be_bytes_4 m a) ∙ ap (from_be_bytes w32) s.0 ∙ from_be_bytes-to_be_bytes_4 n b, s.1)

-- the sizes of a location, and what is after them
after_sizes : (a b c d e f g h : ℕ) (x y : List ℕ) → a ∷ b ∷ c ∷ d ∷ x ≡ e ∷ f ∷ g ∷ h ∷ y → (b ≡ f) × (c ≡ g) × (d ≡ h) × (x ≡ y)
after_sizes a b c d e f g h x y same = (cc, cc, cc, cc)

small : (n : ℕ) → angle_at n ≤ 648000000 → n < 2 ^ 32
small n few = grind (arith, nat_tests, few)

small_latitude : (n : ℕ) → angle_at n ≤ 324000000 → n < 2 ^ 32
small_latitude n few = small n (omega (arith, few))

pub location : (octets : List ℕ) (items others : List RawItem) → PrintsLocation items octets → PrintsLocation others octets → items ≡ others
location octets items others (l, (on, (are, made))) (m, (too, (these, makes))) =
    let e : location_octets l ≡ location_octets m = sym made ∙ makes in
    let sizes = after_sizes 0 l.size l.horizontal l.vertical 0 m.size m.horizontal m.vertical _ _ e in
    let north = four l.latitude m.latitude _ _ (small_latitude l.latitude on.latitude) (small_latitude m.latitude too.latitude) sizes.3 in
    let east = four l.longitude m.longitude _ _ (small l.longitude on.longitude) (small m.longitude too.longitude) north.1 in
    let up : l.altitude ≡ m.altitude = sym (from_be_bytes-to_be_bytes_4 l.altitude on.altitude) ∙ ap (from_be_bytes w32) east.1 ∙ from_be_bytes-to_be_bytes_4 m.altitude too.altitude in
    cc (are, these, sizes.0, sizes.1, sizes.2, north.0, east.0, up)
