-- A value for each field, and an item for each string, as lemmas name them.
use Rattle.std.specs.Prelude.{ℕ, List}
use Rattle.std.specs.List.{AllZip}
use Rattle.zone_rdata.specs.Field.{FieldValue, Holds}
use Rattle.zone_rdata.specs.Item.{RawItem}
use Rattle.zone_rdata.specs.Strings.{SpellsString}
use Rattle.zone_rdata.specs.declared.field.Field.{Field}

abbrev pub HoldEach : List Field → List FieldValue → Type 0
HoldEach fields values = AllZip Holds fields values

abbrev pub SpellEachString : List RawItem → List (List ℕ) → Type 0
SpellEachString items many = AllZip SpellsString items many
