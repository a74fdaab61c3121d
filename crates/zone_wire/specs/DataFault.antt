-- The first fault of a record's data in a message: the fields before it have their values (RFC 1035
-- 3.3, 4.1.4).
use Rattle.std.specs.Prelude.{◌≡◌, ◌≢◌, ◌⊎◌, ℕ, ◌<◌, ◌≤◌, List, [], ◌∷◌, MatchOption}
use Rattle.zone_rdata.specs.Field.{FieldValue, Holds}
use Rattle.zone_rdata.specs.Layout.{layout}
use Rattle.zone_rdata.specs.declared.fault.Fault.{Fault}
use Rattle.zone_rdata.specs.declared.fault.Fault.TheVariants.{BadRdata}
use Rattle.zone_rdata.specs.declared.field.Field.{Field}
use Rattle.zone_rdata.specs.declared.field.Field.TheVariants.{Name, Strings}
use Rattle.zone_wire.specs.Message.{RecordAt}
use Rattle.zone_wire.specs.Name.{Found, IsNameAt}
use Rattle.zone_wire.specs.Transfer.{IsValueAt}
use Rattle.zone_wire.specs.Walk.{NameFault}

-- a field has a value from one offset to another, in data that ends at a third; strings go on to
-- that end
pub record IsFieldAt (octets : List ℕ) (end : ℕ) (field : Field) (start past : ℕ)
    (value : FieldValue) : Type 0 where
  pub held : Holds field value
  pub stands : IsValueAt octets start past value
  pub inside : past ≤ end
  pub last : field ≡ Strings → past ≡ end

-- Why a field has no value from an offset on: a name, which is read in the whole message, has a
-- fault or ends past the data; all else has none there that fits in the data.
abbrev pub FieldFault : List ℕ → ℕ → Field → ℕ → Fault → Type 0
FieldFault octets end Name start fault =
    NameFault octets start fault
    ⊎ ((fault ≡ BadRdata) × (found : Found) × IsNameAt octets start found × (end < found.end))
FieldFault octets end field start fault =
    (fault ≡ BadRdata)
    × ((past : ℕ) (value : FieldValue) → IsFieldAt octets end field start past value → ⊥)

-- the first of fields from an offset on that has none; or after the last of them the data isn't at
-- its end
abbrev pub FieldsFault : List ℕ → ℕ → List Field → ℕ → Fault → Type 0
FieldsFault octets end [] start fault = (fault ≡ BadRdata) × (start ≢ end)
FieldsFault octets end (field ∷ fields) start fault =
    FieldFault octets end field start fault
    ⊎ ((past : ℕ) × (value : FieldValue) × IsFieldAt octets end field start past value
    × FieldsFault octets end fields past fault)

-- the first fault of a record's data; opaque data has none
abbrev pub DataFault : List ℕ → RecordAt → Fault → Type 0
DataFault octets a fault =
    MatchOption (layout a.class a.kind) ⊥ (λ fields. FieldsFault octets a.end fields a.start fault)
