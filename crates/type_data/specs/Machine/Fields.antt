-- Fields that were read, and what is wrong after the last of them.
use Rattle.std.specs.Prelude.{◌≡◌, ℕ, ◌<◌, ◌≤◌, ◌⊎◌, List, ◌++◌}
use Rattle.zone_name.specs.Common.{Labels}
use Rattle.zone_rdata.specs.Limits.{longest_data}
use Rattle.type_data.specs.Data.{StateParts, joined, left_over}
use Rattle.type_data.specs.DataItem.{TouchingItem}
use Rattle.type_data.specs.Field.{FailsField}
use Rattle.type_data.specs.Table.{NamedField}
use Rattle.type_data.specs.declared.fault.WordsFault.{WordsFault}
use Rattle.type_data.specs.declared.fault.WordsFault.TheVariants.{ItemsLeftOver, TooLong}

-- the octets that each field states are appended, and these items are left
pub record AppendsParts (origin : Labels) (fields : List NamedField)
    (items left : List TouchingItem) (old new : List ℕ) : Type 0 where
  pub parts : List (List ℕ)
  pub each : StateParts origin fields items parts
  pub rest : left ≡ left_over fields items
  pub written : new ≡ old ++ joined parts

-- the field fails for its own items, and this is its name
abbrev pub IsFieldFault : Labels → NamedField → List TouchingItem → List ℕ → WordsFault → Type 0
IsFieldFault origin f own name fault = FailsField origin f.kind own fault × (name ≡ f.name)

-- after the last field no item is left, and the octets aren't too many
abbrev pub IsWhole : ℕ → ℕ → Type 0
IsWhole left len = (left ≡ 0) × (len ≤ longest_data)

-- else why not
abbrev pub WholeFails : ℕ → ℕ → WordsFault → Type 0
WholeFails left len fault =
    ((fault ≡ ItemsLeftOver) × (0 < left))
    ⊎ ((fault ≡ TooLong) × (left ≡ 0) × (longest_data < len))
