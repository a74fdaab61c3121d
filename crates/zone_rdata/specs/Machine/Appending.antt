-- Octets that grow while the items of record data are read.
use Rattle.std.specs.Prelude.{◌≡◌, ℕ, List, ◌++◌, ◌≤◌, [], length, take, drop}
use Rattle.zone_name.specs.Common.{Labels}
use Rattle.zone_rdata.specs.Appended.{Appends}
use Rattle.zone_rdata.specs.declared.field.Field.{Field}
use Rattle.zone_rdata.specs.Field.{FieldValue, field_octets, octets_of, SpellsField, own_items, items_after, Holds, IsSent}
use Rattle.zone_rdata.specs.Item.{RawItem}
use Rattle.zone_rdata.specs.Spelling.{SpellEach}
use Rattle.zone_rdata.specs.declared.field.Field.TheVariants.{Strings}

-- the octets of the value that items spell for a field are appended
abbrev pub AppendsField : Labels → Field → List RawItem → List ℕ → List ℕ → Type 0
AppendsField origin field items old new =
    Appends (SpellsField origin field items) field_octets old new

-- likewise for the field that the items begin with; `rest` is what follows it
pub record AppendsFirst (origin : Labels) (field : Field) (items rest : List RawItem)
    (old new : List ℕ) : Type 0 where
  pub appends : AppendsField origin field (own_items field items) old new
  pub following : rest ≡ items_after field items

-- the octets are those of the values that items spell for fields
pub record AreSpelt (origin : Labels) (fields : List Field) (items : List RawItem)
    (octets : List ℕ) : Type 0 where
  pub values : List FieldValue
  pub spelt : SpellEach origin fields items values
  pub written : octets ≡ octets_of values

-- octets that begin with a value of the field; strings are all that is left
pub record BeginsWithValue (field : Field) (octets : List ℕ) (value : FieldValue)
    (rest : List ℕ) : Type 0 where
  pub held : Holds field value
  pub front : List ℕ
  pub sent : IsSent value front
  pub parts : octets ≡ front ++ rest
  pub last : field ≡ Strings → rest ≡ []

-- the canonical octets of the value at the beginning are appended
pub record AppendsValue (field : Field) (octets rest old new : List ℕ) : Type 0 where
  pub value : FieldValue
  pub begins : BeginsWithValue field octets value rest
  pub written : new ≡ old ++ field_octets value

-- octets that begin with no value of the field
abbrev pub BeginsWithNone : Field → List ℕ → Type 0
BeginsWithNone field octets =
    (value : FieldValue) (rest : List ℕ) → BeginsWithValue field octets value rest → ⊥

-- the first `count` octets are appended; `rest` is what follows them
pub record AppendsPrefix (count : ℕ) (octets rest old new : List ℕ) : Type 0 where
  pub fits : count ≤ length octets
  pub following : rest ≡ drop count octets
  pub written : new ≡ old ++ take count octets
