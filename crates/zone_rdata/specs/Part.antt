-- A part of data that is pushed, as the value of its field.
use Rattle.zone_rdata.specs.declared.part.Part.{Part}
use Rattle.zone_rdata.specs.declared.part.Part.TheVariants.{Octets, U16, U32, Name, String}
use Rattle.zone_rdata.specs.Field.{FieldValue, name, u32_value, u16_value, fixed, string}

abbrev pub value_of : Part → FieldValue
value_of (Octets octets) = fixed octets.now
value_of (U16 n) = u16_value n
value_of (U32 n) = u32_value n
value_of (Name n) = name n.now
value_of (String octets) = string octets.now
