-- The data of a record in a message, or its first fault (RFC 1035 3.3, 4.1.4; opaque data: RFC 3597
-- 3, 4).
use Rattle.std.specs.Prelude.{ℕ, ◌+◌, List, [], ◌∷◌, length, slice_index, ◌==◌, ◌&&◌, nat_eq, nat_le, nat_lt, if◌then◌else◌, Some, None, Result, Ok, Err}
use Rattle.std.specs.Cmp.Lexicographic.{pointwise}
use Rattle.std.specs.List.{flat_map}
use Rattle.zone_name.specs.Name.{with_length}
use Rattle.zone_rdata.specs.Field.{FieldValue, name, strings, field_at, octets_of}
use Rattle.zone_rdata.specs.Fields.Strings.{strings_of}
use Rattle.zone_rdata.specs.Layout.{layout}
use Rattle.zone_rdata.specs.declared.fault.Fault.{Fault}
use Rattle.zone_rdata.specs.declared.fault.Fault.TheVariants.{BadRdata}
use Rattle.zone_rdata.specs.declared.field.Field.{Field}
use Rattle.zone_rdata.specs.declared.field.Field.TheVariants.{Name, Serial, Time, U16, Octets, OneString, Strings}
use Rattle.zone_wire.specs.Message.{RecordAt}
use Rattle.zone_wire.specs.Machine.Finding.{Outcome, named, refused, outcome}
use Rattle.zone_wire.specs.Machine.Sections.{and_then}
use Rattle.zone_wire.specs.Transfer.{octets_between}
use Rattle.zone_wire.specs.Machine.Walk.{walk}

-- a name, read in the whole message, that ends inside the data
abbrev pub name_before : ℕ → Outcome → Result (FieldValue × ℕ) Fault
name_before end (refused fault steps) = Err fault
name_before end (named found) =
    if nat_le found.end end then Ok (name found.labels, found.end) else Err BadRdata

-- a value of so many octets that lie inside the data
abbrev pub sized_before : List ℕ → ℕ → ℕ → Field → ℕ → Result (FieldValue × ℕ) Fault
sized_before octets end start field size =
    if nat_le (start + size) end
    then Ok (field_at field (octets_between octets start (start + size)), start + size)
    else Err BadRdata

-- strings, at least one, that are all the octets up to the end of the data
abbrev pub strings_before : ℕ → List ℕ → Result (FieldValue × ℕ) Fault
strings_before end octets =
    if nat_lt 0 (length octets)
    && pointwise nat_eq (flat_map with_length (strings_of octets)) octets
    then Ok (strings (strings_of octets), end) else Err BadRdata

-- the value of a field from an offset on, in data that ends at another, and the offset after it
unfoldable pub value_at : List ℕ → ℕ → ℕ → Field → Result (FieldValue × ℕ) Fault
value_at octets end start Name = name_before end (outcome octets (walk octets start))
value_at octets end start Serial = sized_before octets end start Serial 4
value_at octets end start Time = sized_before octets end start Time 4
value_at octets end start U16 = sized_before octets end start U16 2
value_at octets end start (Octets n) = sized_before octets end start (Octets n) n
value_at octets end start OneString =
    sized_before octets end start OneString (1 + slice_index octets start)
value_at octets end start Strings = strings_before end (octets_between octets start end)

-- one value for each field, one after another up to the end of the data
abbrev pub values_at : List ℕ → ℕ → ℕ → List Field → Result (List FieldValue) Fault
values_at octets end start [] = if start == end then Ok [] else Err BadRdata
values_at octets end start (field ∷ fields) =
    and_then (value_at octets end start field) (λ first.
    and_then (values_at octets end first.1 fields) (λ others. Ok (first.0 ∷ others)))

-- the canonical octets of a record's data: of the values of its layout, or the octets as they are
-- where there is none
unfoldable pub data_at : List ℕ → RecordAt → Result (List ℕ) Fault
data_at octets a =
    elim (layout a.class a.kind) [
      | None ↦ Ok (octets_between octets a.start a.end)
      | Some fields ↦ and_then (values_at octets a.end a.start fields)
          (λ values. Ok (octets_of values))
    ]
