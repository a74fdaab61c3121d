-- How the data of a record is read into a builder, field by field.
use Rattle.std.specs.Prelude.{◌≡◌, ℕ, ◌+◌, ◌-◌, ◌≤◌, List, ◌∷◌, [], ◌++◌, length, map, Some, Result, Ok}
use Rattle.std.specs.List.{flat_map}
use Rattle.zone_rdata.specs.Builder.{Built, IsNext, IsWhole}
use Rattle.zone_rdata.specs.Field.{FieldValue, string, strings, field_octets, octets_of, Suits}
use Rattle.zone_rdata.specs.Layout.{IsSized, layout}
use Rattle.zone_rdata.specs.Limits.{longest_data}
use Rattle.zone_rdata.specs.declared.fault.Fault.{Fault}
use Rattle.zone_rdata.specs.declared.field.Field.{Field}
use Rattle.zone_rdata.specs.declared.field.Field.TheVariants.{Strings}
use Rattle.zone_wire.specs.Machine.Data.{data_at, value_at, values_at}
use Rattle.zone_wire.specs.Message.{RecordAt}
use Rattle.zone_wire.specs.Transfer.{octets_between}
use Rattle.zone_wire.specs.declared.cursor.Cursor.{Cursor}

-- the parts that a builder takes for a value: each of several strings by itself
abbrev pub parts_for : FieldValue → List FieldValue
parts_for (strings many) = map string many
parts_for value = value ∷ []

abbrev pub put_after : Built → List FieldValue → Built
put_after b parts = record b { parts = b.parts ++ parts }

-- the octets of the message, and where the data ends
abbrev pub data_of : Cursor → List ℕ × ℕ
data_of c = (c.message.now, c.end)

-- the value of the field that is next, and the offset after it
abbrev pub next_value : Cursor → Field → Result (FieldValue × ℕ) Fault
next_value c = value_at c.message.now c.end c.at

-- octets are taken, as many as are asked for
pub record TakesOctets (old new : Cursor) (size : ℕ) (part : List ℕ) : Type 0 where
  pub at : new.at ≡ old.at + size
  pub is : part ≡ octets_between old.message.now old.at new.at
  pub len : length part ≡ size
  pub same : data_of new ≡ data_of old

-- the value of a field is read
pub record Reads (old new : Cursor) (field : Field) (value : FieldValue) : Type 0 where
  pub read : next_value old field ≡ Ok (value, new.at)
  pub same : data_of new ≡ data_of old

-- the builder's next part is a value of the field, and it has room for the one that is next
pub record Awaits (c : Cursor) (b : Built) (field : Field) : Type 0 where
  pub next : (part : FieldValue) → Suits (Some field) part
      → IsNext (layout b.class b.kind) (length b.parts) part
  pub sized : IsSized field
  pub room : (value : FieldValue) (past : ℕ) → next_value c field ≡ Ok (value, past)
      → length (octets_of b.parts) + length (field_octets value) ≤ longest_data

-- the builder's next parts are strings, however many, and it has room for all that is left
pub record AwaitsStrings (c : Cursor) (b : Built) : Type 0 where
  pub next : (count : ℕ) (part : FieldValue) → Suits (Some Strings) part
      → IsNext (layout b.class b.kind) (length b.parts + count) part
  pub room : length (octets_of b.parts) + (c.end - c.at) ≤ longest_data

abbrev pub IsReadyFor : Cursor → Built → Field → Type 0
IsReadyFor c b Strings = AwaitsStrings c b
IsReadyFor c b field = Awaits c b field

-- the value of a field is read and added to the parts of a builder
pub record PutsValue (field : Field) (old new : Cursor) (b made : Built) : Type 0 where
  pub value : FieldValue
  pub reads : Reads old new field value
  pub put : made ≡ put_after b (parts_for value)

-- the values of fields are read, and are the parts of a builder that had none
pub record PutsValues (octets : List ℕ) (end start : ℕ) (fields : List Field)
    (old new : Built) : Type 0 where
  pub values : List FieldValue
  pub read : values_at octets end start fields ≡ Ok values
  pub put : new ≡ put_after old (flat_map parts_for values)
  pub whole : IsWhole (Some fields) new.parts

-- a builder has all the data of a record
pub record IsRead (octets : List ℕ) (a : RecordAt) (b : Built) : Type 0 where
  pub class : b.class ≡ a.class
  pub kind : b.kind ≡ a.kind
  pub read : data_at octets a ≡ Ok (octets_of b.parts)
  pub whole : IsWhole (layout b.class b.kind) b.parts
