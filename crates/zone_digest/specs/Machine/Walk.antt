-- The walk over the records of a zone in the order of a digest.
use Rattle.std.specs.Prelude.{◌≡◌, List, [], ◌∷◌, ◌++◌, Bool, nat_lt, ◌&&◌, if◌then◌else◌, Option, Some, None, ◌⊎◌, ◌↔◌}
use Rattle.std.specs.declared.cmp.Ordering.TheVariants.{Less}
use Rattle.std.specs.List.{flat_map}
use Rattle.std.specs.Ordering.{is_eq}
use Rattle.zone_name.specs.Common.{Labels, Octets}
use Rattle.zone_name.specs.Order.{name_cmp}
use Rattle.zone_rdata.specs.Lent.{record_of}
use Rattle.zone_rdata.specs.Record.{Record}
use Rattle.zone_rdata.specs.declared.lent.RrRef.{RrRef}
use Rattle.zone_set.specs.Zone.{Has}
use Rattle.zone_digest.specs.Digest.{AscendsByOwner, IsLeftOut, IsLoweredRecord, digest_cmp, record_octets}
use Rattle.zone_digest.specs.Machine.Sets.{AreLowered, AreOneSet}

-- whether a record goes before the SOA: it has the SOA's owner and a lower type
abbrev pub goes_before : Record → Record → Bool
goes_before r soa = nat_lt r.kind soa.kind && is_eq (name_cmp r.owner soa.owner)

-- the SOA between the records that go before it and the others
abbrev pub put_soa : Record → List Record → List Record
put_soa soa [] = soa ∷ []
put_soa soa (r ∷ records) =
    if goes_before r soa then r ∷ put_soa soa records else soa ∷ r ∷ records

-- the SOA, where it is still to come, among the records that are left
abbrev pub with_soa : Option RrRef → List Record → List Record
with_soa None records = records
with_soa (Some soa) records = put_soa (record_of soa) records

-- the next record, and those after it
abbrev pub next_and : Option RrRef → List Record → List Record
next_and None records = records
next_and (Some r) records = record_of r ∷ records

-- records whose first is the SOA, with it where its type has it
abbrev pub by_owner : List Record → List Record
by_owner [] = []
by_owner (soa ∷ records) = put_soa soa records

-- each of these is before the canonical form of each record to come
abbrev pub Precedes : List Record → List Record → Type 0
Precedes done later = (d s lower : Record) → Has done d → Has later s → IsLoweredRecord s lower
    → digest_cmp d lower ≡ Less

-- Of all records some are passed, whose canonical forms are these; those of a set are kept; the
-- rest is to come; and what isn't among them is left out.
pub record IsWalked (apex : Labels) (all set rest done : List Record) : Type 0 where
  pub passed : List Record
  pub same : (r : Record) → (Has all r × (IsLeftOut apex r → ⊥))
      ↔ (Has passed r ⊎ (Has set r ⊎ (Has rest r × (IsLeftOut apex r → ⊥))))
  pub lowered : AreLowered passed done
  pub before : Precedes done (set ++ rest)
  pub ascend : AscendsByOwner (set ++ rest)
  pub one_set : AreOneSet set

-- what the hasher holds is the octets of all that is passed
abbrev pub HasWalked : (Octets → Type 0) → Labels → List Record → List Record → List Record → Type 0
HasWalked Holds apex all set rest = (done : List Record) × IsWalked apex all set rest done
    × Holds (flat_map record_octets done)

abbrev pub HaveOneClass : List Record → Type 0
HaveOneClass records = (r s : Record) → Has records r → Has records s → r.class ≡ s.class
