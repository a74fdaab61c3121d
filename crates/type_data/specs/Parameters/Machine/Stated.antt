-- The parameters that the code has read.
use Rattle.std.specs.Prelude.{◌≡◌, ℕ, List, [], ◌∷◌, ◌++◌, map}
use Rattle.std.specs.BTreeMap.{BTreeMap}
use Rattle.std.specs.List.{AllByRecursion, flat_map}
use Rattle.std.specs.List.Sorted.{IsPermutation}
use Rattle.std.specs.Global.{Vec}
use Rattle.zone_name.specs.Common.{NothingIs}
use Rattle.type_data.specs.DataItem.{TouchingItem}
use Rattle.type_data.specs.Parameters.{Parameter, Precede, Sent, sent, sent_octets, IsShort, IsNew, IsThere, Ascend, StatesParameter, all_required}
use Rattle.type_data.specs.Parameters.Keys.{SpellsKey, number_of}
use Rattle.type_data.specs.Parameters.Text.{ParameterText}
use Rattle.type_data.specs.Parameters.Value.{FailsValue}
use Rattle.type_data.specs.declared.fault.WordsFault.{WordsFault}
use Rattle.type_data.specs.declared.fault.WordsFault.TheVariants as faults
use Rattle.type_data.specs.declared.parameters.key.Key.{Key}
use Rattle.type_data.specs.declared.parameters.stated.Stated.{Stated}

-- the parameters of a map from keys to values
abbrev pub all_sent : BTreeMap ℕ (Vec ℕ) → List Sent
all_sent values = map (λ entry. record { number = entry.0; octets = entry.1.items }) values.entries

-- what was read are these parameters
pub record Holds (stated : Stated) (before : List Parameter) : Type 0 where
  pub same : IsPermutation (map sent before) (all_sent stated.values)
  pub required : stated.required.items ≡ all_required before

-- up to a place
pub record HasStated (items rest : List TouchingItem) (stated : Stated) : Type 0 where
  pub before : List Parameter
  pub precede : Precede items rest before
  pub holds : Holds stated before

-- one more parameter is there
abbrev pub AddsParameter : ParameterText → Stated → Stated → Type 0
AddsParameter text old new =
    (before : List Parameter) → Holds old before
    → (p : Parameter) × StatesParameter text p × IsNew p.number before
    × Holds new (before ++ p ∷ [])

-- why a text states no parameter after others
pub data FailsAfter (before : List Parameter) (text : ParameterText) : WordsFault → Type 0 where
  keyless : NothingIs (SpellsKey text.key) → FailsAfter before text faults.NotAKey
  again : (key : Key) → SpellsKey text.key key → IsThere before (number_of key)
      → FailsAfter before text faults.RepeatedKey
  valueless : (key : Key) (fault : WordsFault) → SpellsKey text.key key
      → IsNew (number_of key) before → FailsValue key text.value fault
      → FailsAfter before text fault

-- the octets of all parameters are appended, in ascending order of the keys
pub record AreSent (values : BTreeMap ℕ (Vec ℕ)) (old new : List ℕ) : Type 0 where
  pub ascend : Ascend (all_sent values)
  pub short : AllByRecursion IsShort (all_sent values)
  pub written : new ≡ old ++ flat_map sent_octets (all_sent values)

-- a value is too long
abbrev pub IsLong : BTreeMap ℕ (Vec ℕ) → WordsFault → Type 0
IsLong values fault = (fault ≡ faults.TooLong) × (AllByRecursion IsShort (all_sent values) → ⊥)
