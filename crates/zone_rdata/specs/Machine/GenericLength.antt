-- The item after the mark of the generic form (RFC 3597 5).
use Rattle.std.specs.Prelude.{ℕ, ◌<◌}
use Rattle.zone_rdata.specs.declared.fault.Fault.{Fault}
use Rattle.zone_rdata.specs.declared.fault.Fault.TheVariants.{BadGeneric, RdataTooLong}
use Rattle.zone_rdata.specs.Generic.{StatesLength}
use Rattle.zone_rdata.specs.Item.{RawItem}
use Rattle.zone_rdata.specs.Limits.{longest_data}

-- why an item states no length of at most 65,535 octets
pub data LengthFault (item : RawItem) : Fault → Type 0 where
  no_number : ((n : ℕ) → StatesLength item n → ⊥) → LengthFault item BadGeneric
  beyond : (n : ℕ) → StatesLength item n → longest_data < n → LengthFault item RdataTooLong
