-- The canonical order of the records of a zone (RFC 4034 6.1, 6.3; the SOA first is this project's
-- choice).
use Rattle.std.specs.Prelude.{◌≡◌, ℕ, List, [], ◌∷◌, ◌==◌, if◌then◌else◌, ⊤}
use Rattle.std.specs.List.{AllByRecursion}
use Rattle.std.specs.Ordering.{nat_cmp, on, then_cmp}
use Rattle.std.specs.declared.cmp.Ordering.{Ordering}
use Rattle.std.specs.declared.cmp.Ordering.TheVariants.{Less}
use Rattle.zone_name.specs.Order.{name_cmp}
use Rattle.zone_rdata.specs.Order.{data_cmp}
use Rattle.zone_rdata.specs.Record.{Record, data_of}

-- an SOA goes before all else
abbrev pub soa_rank : Record → ℕ
soa_rank r = if r.kind == 6 then 0 else 1

-- the SOA first, then by owner, and then by data: type number and canonical octets (a zone has one
-- class)
abbrev pub canonical_cmp : Record → Record → Ordering
canonical_cmp =
    then_cmp (on soa_rank nat_cmp) (then_cmp (on (λ r. r.owner) name_cmp) (on data_of data_cmp))

-- each record before all that follow it
abbrev pub Ascends : List Record → Type 0
Ascends [] = ⊤
Ascends (r ∷ records) = AllByRecursion (λ s. canonical_cmp r s ≡ Less) records × Ascends records
