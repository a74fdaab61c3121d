-- Items that are no parameters have one fault.
use Rattle.type_data.proofs.Common.{AllByRecursion, AreComplete, AreOnce, BeginWith, BeginWithKey, BeginWithNoKey, FailsParameters, FailsValue, IsNew, IsShort, IsThere, Key, List, MandatoryKeyMissing, NotAKey, Parameter, ParameterText, Precede, RepeatedKey, SpellsKey, StateEach, StatesParameter, StatesValue, TooLong, TouchingItem, WordsFault, [], ap, arith, bad_escape, bad_value, length, long_value, map, missing_key, no_key, refl, repeated_key, sent, subst, sym, ℕ, ◌++◌, ◌∙◌, ◌∷◌, ◌≡◌}
use Rattle.type_data.proofs.OfParameters.Keys.{key_once}
use Rattle.type_data.proofs.OfParameters.Once.{fails_value_not, first_once, new_before, nothing_begins}
use Rattle.type_data.proofs.OfParameters.Reading.{never_both}
use Rattle.type_data.proofs.OfParameters.Texts.{begin_once}
use Rattle.type_data.specs.Parameters.Keys.{number_of}
use Rattle.type_data.specs.Parameters.Value.{no_value}

-- ---- what fails after the parameters before it

data FailsAt (before : List Parameter) (rest : List TouchingItem) : WordsFault → Type 0 where
  at_no_key : BeginWithNoKey rest → FailsAt before rest NotAKey
  at_repeated_key : (key : Key) (value : List ℕ) → BeginWithKey rest key value → IsThere before (number_of key) → FailsAt before rest RepeatedKey
  at_value : (key : Key) (value : List ℕ) (fault : WordsFault) → BeginWithKey rest key value → IsNew (number_of key) before → FailsValue key value fault → FailsAt before rest fault
  at_missing : rest ≡ [] → (AreComplete before → ⊥) → FailsAt before rest MandatoryKeyMissing
  at_long : rest ≡ [] → AreComplete before → (AllByRecursion IsShort (map sent before) → ⊥) → FailsAt before rest TooLong

record FailsAfter (items : List TouchingItem) (fault : WordsFault) : Type 0 where
  before : List Parameter
  rest : List TouchingItem
  precede : Precede items rest before
  fails : FailsAt before rest fault

fails_after : (items : List TouchingItem) (fault : WordsFault) → FailsParameters items fault → FailsAfter items fault
fails_after items _ (no_key before rest precede none) = record { before = before; rest = rest; precede = precede; fails = at_no_key none }
fails_after items _ (repeated_key before rest key value precede begins there) = record { before = before; rest = rest; precede = precede; fails = at_repeated_key key value begins there }
fails_after items fault (bad_value before rest key value _ precede begins new fails) = record { before = before; rest = rest; precede = precede; fails = at_value key value fault begins new fails }
fails_after items _ (missing_key stated precede missing) = record { before = stated; rest = []; precede = precede; fails = at_missing refl missing }
fails_after items _ (long_value stated precede complete long) = record { before = stated; rest = []; precede = precede; fails = at_long refl complete long }

-- ---- the parameter of a key

record OneKey (key other : Key) (value text : List ℕ) : Type 0 where
  key_same : key ≡ other
  value_same : value ≡ text

key_begins_once : (rest : List TouchingItem) (key other : Key) (value text : List ℕ) → BeginWithKey rest key value → BeginWithKey rest other text → OneKey key other value text
key_begins_once rest key other value text x y =
    let same = (begin_once rest x.text y.text x.rest y.rest x.begin y.begin).0 in
    record {
      key_same = key_once y.text.key key other (subst (λ t. SpellsKey t.key key) same x.spelt) y.spelt;
      value_same = x.is_value ∙ ap (λ (t : ParameterText). t.value) same ∙ sym y.is_value;
    }

no_key_begins : (rest : List TouchingItem) (key : Key) (value : List ℕ) → BeginWithNoKey rest → BeginWithKey rest key value → ⊥
no_key_begins rest key value none begins = none.none begins.text begins.rest key begins.begin begins.spelt

some_begins : (rest : List TouchingItem) (key : Key) (value : List ℕ) → BeginWithKey rest key value → rest ≡ [] → ⊥
some_begins rest key value begins empty = nothing_begins begins.text begins.rest (subst (λ t. BeginWith t begins.text begins.rest) empty begins.begin)

some_left : (rest : List TouchingItem) → BeginWithNoKey rest → rest ≡ [] → ⊥
some_left rest none empty = omega (arith, none.some, ap length empty)

value_fault_once : (key : Key) (text : List ℕ) (a b : WordsFault) → FailsValue key text a → FailsValue key text b → a ≡ b
value_fault_once key text _ _ (bad_escape has none) (bad_escape as_well none_too) = refl
value_fault_once key text _ _ (bad_escape has none) (no_value spelt nothing) = absurd (none (spelt has).0 (spelt has).1)
value_fault_once key text _ _ (no_value spelt nothing) (bad_escape has none) = absurd (none (spelt has).0 (spelt has).1)
value_fault_once key text _ _ (no_value spelt nothing) (no_value spelt_too none_too) = refl

-- ---- one fault after the same parameters

module _ (before : List Parameter) (rest : List TouchingItem) where
  repeated_or_new : (key other : Key) (value text : List ℕ) → BeginWithKey rest key value → IsThere before (number_of key) → BeginWithKey rest other text → IsNew (number_of other) before → ⊥
  repeated_or_new key other value text x there y new =
      let same = key_begins_once rest key other value text x y in
      never_both (number_of other) before (subst (λ k. IsThere before (number_of k)) same.key_same there) new

  at_once : (a b : WordsFault) → FailsAt before rest a → FailsAt before rest b → a ≡ b
  at_once _ _ (at_no_key none) (at_no_key none_too) = refl
  at_once _ _ (at_no_key none) (at_repeated_key key value begins there) = absurd (no_key_begins rest key value none begins)
  at_once _ b (at_no_key none) (at_value key value _ begins new fails) = absurd (no_key_begins rest key value none begins)
  at_once _ _ (at_no_key none) (at_missing empty missing) = absurd (some_left rest none empty)
  at_once _ _ (at_no_key none) (at_long empty complete long) = absurd (some_left rest none empty)
  at_once _ _ (at_repeated_key key value begins there) (at_no_key none) = absurd (no_key_begins rest key value none begins)
  at_once _ _ (at_repeated_key key value begins there) (at_repeated_key other text begins_too there_too) = refl
  at_once _ b (at_repeated_key key value begins there) (at_value other text _ begins_too new fails) = absurd (repeated_or_new key other value text begins there begins_too new)
  at_once _ _ (at_repeated_key key value begins there) (at_missing empty missing) = absurd (some_begins rest key value begins empty)
  at_once _ _ (at_repeated_key key value begins there) (at_long empty complete long) = absurd (some_begins rest key value begins empty)
  at_once a _ (at_value key value _ begins new fails) (at_no_key none) = absurd (no_key_begins rest key value none begins)
  at_once a _ (at_value key value _ begins new fails) (at_repeated_key other text begins_too there) = absurd (repeated_or_new other key text value begins_too there begins new)
  at_once a b (at_value key value _ begins new fails) (at_value other text _ begins_too new_too fails_too) =
      let same = key_begins_once rest key other value text begins begins_too in
      value_fault_once other text a b (subst (λ v. FailsValue other v a) same.value_same (subst (λ k. FailsValue k value a) same.key_same fails)) fails_too
  at_once a _ (at_value key value _ begins new fails) (at_missing empty missing) = absurd (some_begins rest key value begins empty)
  at_once a _ (at_value key value _ begins new fails) (at_long empty complete long) = absurd (some_begins rest key value begins empty)
  at_once _ _ (at_missing empty missing) (at_no_key none) = absurd (some_left rest none empty)
  at_once _ _ (at_missing empty missing) (at_repeated_key key value begins there) = absurd (some_begins rest key value begins empty)
  at_once _ b (at_missing empty missing) (at_value key value _ begins new fails) = absurd (some_begins rest key value begins empty)
  at_once _ _ (at_missing empty missing) (at_missing empty_too missing_too) = refl
  at_once _ _ (at_missing empty missing) (at_long empty_too complete long) = absurd (missing complete)
  at_once _ _ (at_long empty complete long) (at_no_key none) = absurd (some_left rest none empty)
  at_once _ _ (at_long empty complete long) (at_repeated_key key value begins there) = absurd (some_begins rest key value begins empty)
  at_once _ b (at_long empty complete long) (at_value key value _ begins new fails) = absurd (some_begins rest key value begins empty)
  at_once _ _ (at_long empty complete long) (at_missing empty_too missing) = absurd (missing complete)
  at_once _ _ (at_long empty complete long) (at_long empty_too complete_too long_too) = refl

-- ---- no parameter is stated where one fails

module _ (before : List Parameter) (rest next : List TouchingItem) (p : Parameter) (others : List Parameter) where
  none_stated : StateEach rest (p ∷ others) next → rest ≡ [] → ⊥
  none_stated each empty = nothing_begins each.0 each.1 (subst (λ t. BeginWith t each.0 each.1) empty each.2)

  -- the parameter of a key there is the one stated
  record IsOfKey (key : Key) (value : List ℕ) : Type 0 where
    number : p.number ≡ number_of key
    states : StatesValue key value p.octets

  of_key : (key : Key) (value : List ℕ) → BeginWithKey rest key value → StateEach rest (p ∷ others) next → IsOfKey key value
  of_key key value begins each =
      let same = (begin_once rest each.0 begins.text each.1 begins.rest each.2 begins.begin).0 in
      let states = subst (λ t. StatesParameter t p) same each.3 in
      let k = key_once begins.text.key states.key key states.spelt begins.spelt in
      record {
        number = states.numbered ∙ ap number_of k;
        states = subst (λ v. StatesValue key v p.octets) (sym begins.is_value) (subst (λ l. StatesValue l begins.text.value p.octets) k states.value);
      }

  stops_there : (fault : WordsFault) → FailsAt before rest fault → StateEach rest (p ∷ others) next → AreOnce (before ++ p ∷ others) → ⊥
  stops_there _ (at_no_key none) each once = none.none each.0 each.1 each.3.key each.2 each.3.spelt
  stops_there _ (at_repeated_key key value begins there) each once = new_before before others p once (subst (IsThere before) (sym (of_key key value begins each).number) there)
  stops_there fault (at_value key value _ begins new fails) each once = fails_value_not key value p.octets fault (of_key key value begins each).states fails
  stops_there _ (at_missing empty missing) each once = none_stated each empty
  stops_there _ (at_long empty complete long) each once = none_stated each empty

-- ---- one of two places stands before the other, or they are one

data Places (before after : List Parameter) (rest others : List TouchingItem) : Type 0 where
  one_place : before ≡ after → rest ≡ others → Places before after rest others
  before_it : (p : Parameter) (more : List Parameter) → StateEach rest (p ∷ more) others → after ≡ before ++ p ∷ more → Places before after rest others
  after_it : (p : Parameter) (more : List Parameter) → StateEach others (p ∷ more) rest → before ≡ after ++ p ∷ more → Places before after rest others

further_places : (p q : Parameter) (before after : List Parameter) (rest others : List TouchingItem) → p ≡ q → Places before after rest others → Places (p ∷ before) (q ∷ after) rest others
further_places p q before after rest others e (one_place b r) = one_place (cc (e, b)) r
further_places p q before after rest others e (before_it r more each is) = before_it r more each (cc (e, is))
further_places p q before after rest others e (after_it r more each is) = after_it r more each (cc (e, is))

places : (items : List TouchingItem) (before after : List Parameter) (rest others : List TouchingItem) → StateEach items before rest → StateEach items after others → Places before after rest others
places items [] [] rest others x y = one_place refl (sym x ∙ y)
places items [] (q ∷ after) rest others x y = before_it q after (subst (λ t. StateEach t (q ∷ after) others) x y) refl
places items (p ∷ before) [] rest others x y = after_it p before (subst (λ t. StateEach t (p ∷ before) rest) y x) refl
places items (p ∷ before) (q ∷ after) rest others x y =
    let first = first_once items x.0 y.0 x.1 y.1 p q x.2 x.3 y.2 y.3 in
    further_places p q before after rest others first.0 (places y.1 before after rest others (subst (λ t. StateEach t before rest) first.1 x.4) y.4)

module _ (items : List TouchingItem) (a b : WordsFault) where
  at_places : (x : FailsAfter items a) (y : FailsAfter items b) → Places x.before y.before x.rest y.rest → a ≡ b
  at_places x y (one_place same rests) = at_once y.before y.rest a b (subst (λ t. FailsAt t y.rest a) same (subst (λ t. FailsAt x.before t a) rests x.fails)) y.fails
  at_places x y (before_it p more each is) = absurd (stops_there x.before x.rest y.rest p more a x.fails each (subst AreOnce is y.precede.once))
  at_places x y (after_it p more each is) = absurd (stops_there y.before y.rest x.rest p more b y.fails each (subst AreOnce is x.precede.once))

  pub parameters_fault_once : FailsParameters items a → FailsParameters items b → a ≡ b
  parameters_fault_once p q =
      let x = fails_after items a p in
      let y = fails_after items b q in
      at_places x y (places items x.before y.before x.rest y.rest x.precede.each y.precede.each)
