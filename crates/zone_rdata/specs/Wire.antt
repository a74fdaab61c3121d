-- Octets as data of a class and type, and why they are none (RFC 1035 3.2.1, 3.3).
use Rattle.std.specs.Prelude.{ℕ, ◌<◌, ◌≤◌, List, length, Option}
use Rattle.zone_rdata.specs.declared.fault.Fault.{Fault}
use Rattle.zone_rdata.specs.declared.fault.Fault.TheVariants.{BadRdata, RdataTooLong}
use Rattle.zone_rdata.specs.declared.field.Field.{Field}
use Rattle.zone_rdata.specs.Spelling.{IsCanonicalOf}
use Rattle.zone_rdata.specs.Limits.{longest_data}

-- RDLENGTH has 16 bits: at most 65,535 octets, that stand for data with these canonical octets
pub record IsWireData (laid : Option (List Field)) (octets canonical : List ℕ) : Type 0 where
  pub short : length octets ≤ longest_data
  pub stands : IsCanonicalOf laid octets canonical

-- more than 65,535 octets, or octets that aren't exactly one value of the layout
pub data IsWireFault (laid : Option (List Field)) (octets : List ℕ) : Fault → Type 0 where
  beyond : longest_data < length octets → IsWireFault laid octets RdataTooLong
  no_value : length octets ≤ longest_data
      → ((canonical : List ℕ) → IsCanonicalOf laid octets canonical → ⊥)
      → IsWireFault laid octets BadRdata
