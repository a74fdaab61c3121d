-- A zone is fixed by its set of records.
use Rattle.zone_print.proofs.Common.{◌≡◌, ℕ, List, Equal, arith, Record, data_of, Placed, FileStates, SameRecords, Zone, IsZone, Denotes, Labels}
use Rattle.std.proofs.lemmas.Map.Lookups.{exact_unsigned, exact_bytes}
use Rattle.zone_name.specs.Order.{name_cmp}
use Rattle.zone_set.specs.Order.{canonical_cmp, Ascends}
use Rattle.zone_set.proofs.Holding.Together.{each_Has}
use Rattle.zone_set.proofs.Ordering.Ascending as Ascending
use Rattle.zone_set.proofs.Ordering.SetOrder.{both_equal, canonical_total}

-- records that the order doesn't tell apart have one owner and one data
pub canonical_exact : ((a b : Labels) → name_cmp a b ≡ Equal → a ≡ b) → (r s : Record) → canonical_cmp r s ≡ Equal → (r.owner ≡ s.owner) × (data_of r ≡ data_of s)
canonical_exact exact r s tied =
    let others = both_equal _ _ (both_equal _ _ tied).1 in
    let of_class = both_equal _ _ others.1 in
    let of_kind = both_equal _ _ of_class.1 in
    let class : r.class ≡ s.class = exact_unsigned _ _ of_class.0 in
    let kind : r.kind ≡ s.kind = exact_unsigned _ _ of_kind.0 in
    let octets : r.octets ≡ s.octets = exact_bytes _ _ of_kind.1 in
    (exact r.owner s.owner others.0, λ i. record { class = class i; kind = kind i; octets = octets i })

pub one_ascending : (records others : List Record) → Ascends records → Ascends others → SameRecords records others → records ≡ others
one_ascending = Ascending.one_ascending canonical_cmp canonical_total Ascends (λ r records up. up)

pub one_zone : (z w : Zone) → IsZone z → IsZone w → SameRecords z.records w.records → z ≡ w
one_zone z w is_z is_w same = grind (arith, one_ascending, each_Has)

-- a file that states one list of records denotes one zone
pub one_zone_of_file : (origin : Labels) (octets : List ℕ) → ((a b : List Placed) → FileStates origin octets a → FileStates origin octets b → a ≡ b) → (z w : Zone) → Denotes origin octets z → Denotes origin octets w → z ≡ w
one_zone_of_file origin octets one z w denotes other =
    let placed = one denotes.placed other.placed denotes.states other.states in
    one_zone z w denotes.makes.zone other.makes.zone (λ r. grind (arith, placed, denotes.makes.same r, other.makes.same r))

pub ruleset canonical_orders = (canonical_total, canonical_exact)
