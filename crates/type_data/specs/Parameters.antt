-- The parameters of a service: the data of SVCB and HTTPS after the target name (RFC 9460 2.1).
use Rattle.std.specs.Prelude.{◌≡◌, ◌≢◌, ℕ, ◌<◌, ◌≤◌, List, [], ◌∷◌, ◌++◌, length, map, ⊤, ◌⊎◌}
use Rattle.std.specs.Int.{w16, to_be_bytes}
use Rattle.std.specs.List.{AllByRecursion, flat_map}
use Rattle.std.specs.List.Sorted.{IsPermutation}
use Rattle.type_data.specs.DataItem.{TouchingItem}
use Rattle.type_data.specs.Parameters.Keys.{SpellsKey, number_of}
use Rattle.type_data.specs.Parameters.Text.{ParameterText, BeginWith}
use Rattle.type_data.specs.Parameters.Value.{AscendAbove, RequiresKeys, StatesValue, FailsValue}
use Rattle.type_data.specs.declared.fault.WordsFault.{WordsFault}
use Rattle.type_data.specs.declared.fault.WordsFault.TheVariants.{NotAKey, RepeatedKey, MandatoryKeyMissing, TooLong}
use Rattle.type_data.specs.declared.parameters.key.Key.{Key}
pub mod Keys
pub mod Machine
pub mod Printed
pub mod Text
pub mod Value

-- the number of a key, the octets of its value, and the keys that it requires
pub record Parameter : Type 0 where
  pub number : ℕ
  pub octets : List ℕ
  pub required : List ℕ

-- the text states the parameter
pub record StatesParameter (text : ParameterText) (p : Parameter) : Type 0 where
  pub key : Key
  pub spelt : SpellsKey text.key key
  pub numbered : p.number ≡ number_of key
  pub value : StatesValue key text.value p.octets
  pub requires_keys : RequiresKeys key text.value p.required

-- the items state these parameters one after the other, and then `rest` follows
abbrev pub StateEach : List TouchingItem → List Parameter → List TouchingItem → Type 0
StateEach items [] rest = items ≡ rest
StateEach items (p ∷ parameters) rest =
    (text : ParameterText) × (next : List TouchingItem) × BeginWith items text next
    × StatesParameter text p × StateEach next parameters rest

-- a key that none of the parameters has
abbrev pub IsNew : ℕ → List Parameter → Type 0
IsNew number parameters = AllByRecursion (λ (p : Parameter). p.number ≢ number) parameters

-- each key once
abbrev pub AreOnce : List Parameter → Type 0
AreOnce [] = ⊤
AreOnce (p ∷ parameters) = IsNew p.number parameters × AreOnce parameters

-- the items before `rest` state these parameters, each key once
pub record Precede (items rest : List TouchingItem) (parameters : List Parameter) : Type 0 where
  pub each : StateEach items parameters rest
  pub once : AreOnce parameters

-- a key that one of the parameters has
abbrev pub IsThere : List Parameter → ℕ → Type 0
IsThere [] number = ⊥
IsThere (p ∷ parameters) number = (p.number ≡ number) ⊎ IsThere parameters number

abbrev pub all_required : List Parameter → List ℕ
all_required parameters = flat_map (λ (p : Parameter). p.required) parameters

-- the keys that are mandatory are there (RFC 9460 8)
abbrev pub AreComplete : List Parameter → Type 0
AreComplete parameters = AllByRecursion (IsThere parameters) (all_required parameters)

-- a key and the octets of its value
pub record Sent : Type 0 where
  pub number : ℕ
  pub octets : List ℕ

abbrev pub sent : Parameter → Sent
sent p = record { number = p.number; octets = p.octets }

-- the key, the number of octets, and these (RFC 9460 2.2)
abbrev pub sent_octets : Sent → List ℕ
sent_octets s = to_be_bytes w16 s.number ++ (to_be_bytes w16 (length s.octets) ++ s.octets)

-- the most octets of a value: their number is one of 16 bits (RFC 9460 2.2)
abbrev pub longest_value : ℕ
longest_value = 65535

abbrev pub IsShort : Sent → Type 0
IsShort s = length s.octets ≤ longest_value

-- keys in ascending order
abbrev pub Ascend : List Sent → Type 0
Ascend [] = ⊤
Ascend (s ∷ parameters) = AscendAbove s.number (map (λ (q : Sent). q.number) parameters)

-- the items are parameters, each key once and the mandatory ones there, and the octets are those of
-- all of them in ascending order of the keys
pub record StatesParameters (items : List TouchingItem) (octets : List ℕ) : Type 0 where
  pub stated : List Parameter
  pub precede : Precede items [] stated
  pub complete : AreComplete stated
  pub sorted : List Sent
  pub same : IsPermutation (map sent stated) sorted
  pub ascend : Ascend sorted
  pub short : AllByRecursion IsShort sorted
  pub value : octets ≡ flat_map sent_octets sorted

-- items that are left and begin with no parameter, or with one of no key
pub record BeginWithNoKey (items : List TouchingItem) : Type 0 where
  pub some : 0 < length items
  pub none : (text : ParameterText) (rest : List TouchingItem) (key : Key)
      → BeginWith items text rest → SpellsKey text.key key → ⊥

-- items that begin with a parameter of the key, and the text of its value
pub record BeginWithKey (items : List TouchingItem) (key : Key) (value : List ℕ) : Type 0 where
  pub text : ParameterText
  pub rest : List TouchingItem
  pub begin : BeginWith items text rest
  pub spelt : SpellsKey text.key key
  pub is_value : value ≡ text.value

-- The first fault from the left, where the parameters before it hold: no key, a key that stands
-- before, or no value of its key. Then a mandatory key that isn't there, and at last a value of
-- more than 65,535 octets.
pub data FailsParameters (items : List TouchingItem) : WordsFault → Type 0 where
  no_key : (before : List Parameter) (rest : List TouchingItem) → Precede items rest before
      → BeginWithNoKey rest → FailsParameters items NotAKey
  repeated_key : (before : List Parameter) (rest : List TouchingItem) (key : Key)
      (value : List ℕ) → Precede items rest before → BeginWithKey rest key value
      → IsThere before (number_of key) → FailsParameters items RepeatedKey
  bad_value : (before : List Parameter) (rest : List TouchingItem) (key : Key) (value : List ℕ)
      (fault : WordsFault) → Precede items rest before → BeginWithKey rest key value
      → IsNew (number_of key) before → FailsValue key value fault → FailsParameters items fault
  missing_key : (stated : List Parameter) → Precede items [] stated → (AreComplete stated → ⊥)
      → FailsParameters items MandatoryKeyMissing
  long_value : (stated : List Parameter) → Precede items [] stated → AreComplete stated
      → (AllByRecursion IsShort (map sent stated) → ⊥) → FailsParameters items TooLong
