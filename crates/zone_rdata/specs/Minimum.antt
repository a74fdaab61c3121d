-- The MINIMUM of an SOA's data (RFC 1035 3.3.13): its last field.
use Rattle.std.specs.Prelude.{ℕ, List, ◌==◌, if◌then◌else◌, fold, Option, Some, None}
use Rattle.zone_rdata.specs.declared.field.Field.{Field}
use Rattle.zone_rdata.specs.Field.{FieldValue, u32_value, values_of}
use Rattle.zone_rdata.specs.Layout.{layout}
use Rattle.zone_rdata.specs.Record.{Data}

-- the value, if it is a number of 32 bits
abbrev pub number_in : FieldValue → Option ℕ
number_in (u32_value n) = Some n
number_in value = None

-- the last value, if it is a number of 32 bits
abbrev pub last_number : Option ℕ → List FieldValue → Option ℕ
last_number before values = fold (λ _ v. number_in v) before values

abbrev pub last_of : Option (List Field) → List ℕ → Option ℕ
last_of None octets = None
last_of (Some fields) octets = last_number None (values_of fields octets)

abbrev pub minimum : Data → Option ℕ
minimum d = if d.kind == 6 then last_of (layout d.class d.kind) d.octets else None
