-- Items state the octets of one list of parameters, or have a fault.
use Rattle.type_data.proofs.OfKinds.Base64.Texts.{one_base64}
use Rattle.type_data.proofs.OfParameters.Listed.{items_once}
use Rattle.type_data.proofs.Common.{All-from_recursion, All-permutation, AllByRecursion, Alpn, AreComplete, AreOnce, Ascend, AscendAbove, BeginWith, BeginWithKey, BeginWithNoKey, DohPath, Ech, FailsParameters, FailsValue, Ipv4Hint, Ipv6Hint, IsNew, IsPermutation, IsPermutation-trans, IsShort, IsThere, Key, List, ListsItems, Mandatory, NoDefaultAlpn, Numbered, Ohttp, Parameter, ParameterText, Port, RequiresKeys, Sent, StateEach, StatesParameter, StatesParameters, StatesValue, TouchingItem, WordsFault, [], alone, ap, arith, bad_escape, bad_value, bare_value, flat_map, groups_unique, inl, inr, length, long_value, map, missing_key, no_key, numbers_unique, quoted_value, recursion_from_All, refl, repeated_key, sent, sent_octets, subst, sym, to_be_bytes, w16, ℕ, ◌++◌, ◌<◌, ◌∙◌, ◌∷◌, ◌≡◌, ◌≤◌, ◌⊎◌}
use Rattle.std.proofs.lemmas.List.Sorted.{IsPermutation-sym}
use Rattle.zone_rdata.specs.Address.{IsIpv4Address, IsIpv6Address}
use Rattle.type_data.proofs.UnescapedTexts.{unescaped_once}
use Rattle.type_data.proofs.OfParameters.KeyLists.{lists_keys_once}
use Rattle.type_data.proofs.OfParameters.Keys.{key_once}
use Rattle.type_data.proofs.OfParameters.Lists.{addresses_once}
use Rattle.type_data.proofs.OfParameters.Texts.{begin_once}
use Rattle.type_data.specs.Parameters.Keys.{number_of}
use Rattle.type_data.specs.Parameters.Value.{no_value}

-- ---- one value

pub value_once : (key : Key) (text a b : List ℕ) → StatesValue key text a → StatesValue key text b → a ≡ b
value_once Mandatory text a b x y = x.2 ∙ ap (flat_map (to_be_bytes w16)) (lists_keys_once text x.0 y.0 x.1 y.1) ∙ sym y.2
value_once Alpn text a b x y = let e = unescaped_once text x.spelt y.spelt x.unescaped y.unescaped in items_once y.spelt a b (subst (λ t. ListsItems t a) e x.items) y.items
value_once NoDefaultAlpn text a b x y = x.1 ∙ sym y.1
value_once Port text a b x y = x.2 ∙ ap (to_be_bytes w16) (x.1.0.value ∙ sym y.1.0.value) ∙ sym y.2
value_once Ipv4Hint text a b x y = addresses_once IsIpv4Address (numbers_unique 3) text a b x y
value_once Ech text a b x y = one_base64 text a b x y
value_once Ipv6Hint text a b x y = addresses_once IsIpv6Address groups_unique text a b x y
value_once DohPath text a b x y = unescaped_once text a b x.0 y.0
value_once Ohttp text a b x y = x.1 ∙ sym y.1
value_once (Numbered n) text a b x y = unescaped_once text a b x y

required_once : (key : Key) (text a b : List ℕ) → RequiresKeys key text a → RequiresKeys key text b → a ≡ b
required_once Mandatory text a b x y = lists_keys_once text a b x y
required_once Alpn text a b x y = x ∙ sym y
required_once NoDefaultAlpn text a b x y = x ∙ sym y
required_once Port text a b x y = x ∙ sym y
required_once Ipv4Hint text a b x y = x ∙ sym y
required_once Ech text a b x y = x ∙ sym y
required_once Ipv6Hint text a b x y = x ∙ sym y
required_once DohPath text a b x y = x ∙ sym y
required_once Ohttp text a b x y = x ∙ sym y
required_once (Numbered n) text a b x y = x ∙ sym y

-- ---- one parameter

parameter_once : (text : ParameterText) (p q : Parameter) → StatesParameter text p → StatesParameter text q → p ≡ q
parameter_once text p q x y =
    let same = key_once text.key y.key x.key y.spelt x.spelt in
    let e : p.number ≡ q.number = x.numbered ∙ sym (y.numbered ∙ ap number_of same) in
    let f : p.octets ≡ q.octets = value_once x.key text.value p.octets q.octets x.value (subst (λ k. StatesValue k text.value q.octets) same y.value) in
    let g : p.required ≡ q.required = required_once x.key text.value p.required q.required x.requires_keys (subst (λ k. RequiresKeys k text.value q.required) same y.requires_keys) in
    λ i. record { number = e i; octets = f i; required = g i }

-- the items begin with one parameter
pub first_once : (items : List TouchingItem) (s t : ParameterText) (q r : List TouchingItem) (o p : Parameter) → BeginWith items s q → StatesParameter s o → BeginWith items t r → StatesParameter t p → (o ≡ p) × (q ≡ r)
first_once items s t q r o p x u y v =
    let same = begin_once items s t q r x y in
    (parameter_once t o p (subst (λ w. StatesParameter w o) same.0 u) v, same.1)

-- no items are no parameter
pub nothing_begins : (text : ParameterText) (rest : List TouchingItem) → BeginWith [] text rest → ⊥
nothing_begins text rest (alone t l v e) = absurd cc
nothing_begins text rest (bare_value t l v e) = absurd cc
nothing_begins text rest (quoted_value t l e) = absurd cc

each_once : (items : List TouchingItem) (ps qs : List Parameter) → StateEach items ps [] → StateEach items qs [] → ps ≡ qs
each_once items [] [] x y = refl
each_once items [] (p ∷ more) x y = absurd (nothing_begins y.0 y.1 (subst (λ t. BeginWith t y.0 y.1) x y.2))
each_once items (p ∷ more) [] x y = absurd (nothing_begins x.0 x.1 (subst (λ t. BeginWith t x.0 x.1) y x.2))
each_once items (p ∷ ps) (q ∷ qs) x y =
    let first = first_once items x.0 y.0 x.1 y.1 p q x.2 x.3 y.2 y.3 in
    let more = each_once y.1 ps qs (subst (λ t. StateEach t ps []) first.1 x.4) y.4 in
    cc (first.0, more)

-- ---- one order

abbrev Moves : List Sent → List Sent → Type 1
Moves xs ys = (P : Sent → Type 0) → AllByRecursion P xs → AllByRecursion P ys

moves_by : (xs ys : List Sent) → IsPermutation xs ys → Moves xs ys
moves_by xs ys same P each = recursion_from_All P ys (All-permutation P xs ys same (All-from_recursion P xs each))

abbrev numbers : List Sent → List ℕ
numbers xs = map (λ (s : Sent). s.number) xs

above : (low least : ℕ) (xs : List Sent) → low ≤ least → AscendAbove least (numbers xs) → AllByRecursion (λ (s : Sent). low < s.number) xs
above low least [] h a = tt
above low least (x ∷ xs) h a = (omega (arith, h, a.0), above low x.number xs (omega (arith, h, a.0)) a.1)

-- the first, or one with a greater key
abbrev FirstOr : Sent → Sent → Type 0
FirstOr x z = (z ≡ x) ⊎ (x.number < z.number)

later : (x : Sent) (xs : List Sent) → AllByRecursion (λ (s : Sent). x.number < s.number) xs → AllByRecursion (FirstOr x) xs
later x [] each = tt
later x (z ∷ xs) each = (inr each.0, later x xs each.1)

first_by : (x y : Sent) → FirstOr y x → FirstOr x y → x ≡ y
first_by x y (inl e) other = e
first_by x y (inr h) (inl e) = sym e
first_by x y (inr h) (inr k) = absurd (omega (arith, h, k))

first_same : (x y : Sent) (xs ys : List Sent) → Moves (x ∷ xs) (y ∷ ys) → Moves (y ∷ ys) (x ∷ xs) → AscendAbove x.number (numbers xs) → AscendAbove y.number (numbers ys) → x ≡ y
first_same x y xs ys on back a b = first_by x y (back (FirstOr y) (inl refl, later y ys (above y.number y.number ys (omega arith) b))).0 (on (FirstOr x) (inl refl, later x xs (above x.number x.number xs (omega arith) a))).0

abbrev FirstOrIs : Sent → (Sent → Type 0) → Sent → Type 0
FirstOrIs x P z = (z ≡ x) ⊎ P z

or_is : (x : Sent) (P : Sent → Type 0) (xs : List Sent) → AllByRecursion P xs → AllByRecursion (FirstOrIs x P) xs
or_is x P [] each = tt
or_is x P (z ∷ xs) each = (inr each.0, or_is x P xs each.1)

not_first : (x z : Sent) (P : Sent → Type 0) → x.number < z.number → FirstOrIs x P z → P z
not_first x z P h (inl e) = absurd (let f : z.number ≡ x.number = ap (λ (s : Sent). s.number) e in omega (arith, h, f))
not_first x z P h (inr is) = is

is_each : (x : Sent) (P : Sent → Type 0) (ys : List Sent) → AllByRecursion (λ (s : Sent). x.number < s.number) ys → AllByRecursion (FirstOrIs x P) ys → AllByRecursion P ys
is_each x P [] more each = tt
is_each x P (z ∷ ys) more each = (not_first x z P more.0 each.0, is_each x P ys more.1 each.1)

tails : (x y : Sent) (xs ys : List Sent) → x ≡ y → AscendAbove y.number (numbers ys) → Moves (x ∷ xs) (y ∷ ys) → Moves xs ys
tails x y xs ys e b on P each = is_each y P ys (above y.number y.number ys (omega arith) b) (on (FirstOrIs y P) (inl e, or_is y P xs each)).1

ascends : (low : ℕ) (xs : List Sent) → AscendAbove low (numbers xs) → Ascend xs
ascends low [] a = tt
ascends low (x ∷ xs) a = a.1

order_once : (xs ys : List Sent) → Moves xs ys → Moves ys xs → Ascend xs → Ascend ys → xs ≡ ys
order_once [] [] on back a b = refl
order_once [] (y ∷ ys) on back a b = absurd (on (λ s. ⊥) tt).0
order_once (x ∷ xs) [] on back a b = absurd (back (λ s. ⊥) tt).0
order_once (x ∷ xs) (y ∷ ys) on back a b =
    let e = first_same x y xs ys on back a b in
    let more = order_once xs ys (tails x y xs ys e b on) (tails y x ys xs (sym e) a back) (ascends x.number xs a) (ascends y.number ys b) in
    cc (e, more)

-- ---- one list of octets

pub parameters_once : (items : List TouchingItem) (a b : List ℕ) → StatesParameters items a → StatesParameters items b → a ≡ b
parameters_once items a b x y =
    let e = each_once items y.stated x.stated y.precede.each x.precede.each in
    let same : IsPermutation (map sent x.stated) y.sorted = subst (λ t. IsPermutation (map sent t) y.sorted) e y.same in
    let on = moves_by x.sorted y.sorted (IsPermutation-trans x.sorted (map sent x.stated) y.sorted (IsPermutation-sym (map sent x.stated) x.sorted x.same) same) in
    let back = moves_by y.sorted x.sorted (IsPermutation-trans y.sorted (map sent x.stated) x.sorted (IsPermutation-sym (map sent x.stated) y.sorted same) x.same) in
    x.value ∙ ap (flat_map sent_octets) (order_once x.sorted y.sorted on back x.ascend y.ascend) ∙ sym y.value

-- ---- or a fault

-- what the items state after the parameters before a place
each_after : (items rest : List TouchingItem) (before stated : List Parameter) → StateEach items before rest → StateEach items stated [] → (more : List Parameter) × StateEach rest more [] × (stated ≡ before ++ more)
each_after items rest [] stated x y = (stated, subst (λ t. StateEach t stated []) x y, refl)
each_after items rest (p ∷ before) [] x y = absurd (nothing_begins x.0 x.1 (subst (λ t. BeginWith t x.0 x.1) y x.2))
each_after items rest (p ∷ before) (q ∷ stated) x y =
    let first = first_once items x.0 y.0 x.1 y.1 p q x.2 x.3 y.2 y.3 in
    let more = each_after x.1 rest before stated x.4 (subst (λ t. StateEach t stated []) (sym first.1) y.4) in
    (more.0, more.1, cc (first.0, more.2))

-- the parameter of a key after those before
next_key : (rest : List TouchingItem) (key : Key) (value : List ℕ) (more : List Parameter) → BeginWithKey rest key value → StateEach rest more [] → (p : Parameter) × (others : List Parameter) × (p.number ≡ number_of key) × StatesValue key value p.octets × (more ≡ p ∷ others)
next_key rest key value [] begins each = absurd (nothing_begins begins.text begins.rest (subst (λ t. BeginWith t begins.text begins.rest) each begins.begin))
next_key rest key value (p ∷ more) begins each =
    let same = (begin_once rest each.0 begins.text each.1 begins.rest each.2 begins.begin).0 in
    let states = subst (λ t. StatesParameter t p) same each.3 in
    let k = key_once begins.text.key states.key key states.spelt begins.spelt in
    (p, more, states.numbered ∙ ap number_of k, subst (λ v. StatesValue key v p.octets) (sym begins.is_value) (subst (λ l. StatesValue l begins.text.value p.octets) k states.value), refl)

new_behind : (k : ℕ) (before more : List Parameter) (p : Parameter) → IsNew k (before ++ p ∷ more) → k ≡ p.number → ⊥
new_behind k [] more p new e = new.0 (sym e)
new_behind k (q ∷ before) more p new e = new_behind k before more p new.1 e

pub new_before : (before more : List Parameter) (p : Parameter) → AreOnce (before ++ p ∷ more) → IsThere before p.number → ⊥
new_before [] more p once there = there
new_before (q ∷ before) more p once (inl e) = new_behind q.number before more p once.0 e
new_before (q ∷ before) more p once (inr there) = new_before before more p once.1 there

pub fails_value_not : (key : Key) (text octets : List ℕ) (fault : WordsFault) → StatesValue key text octets → FailsValue key text fault → ⊥
fails_value_not key text octets _ is (no_value spelt none) = none octets is
fails_value_not Mandatory text octets _ is (bad_escape has none) = has
fails_value_not Alpn text octets _ is (bad_escape has none) = none is.spelt is.unescaped
fails_value_not NoDefaultAlpn text octets _ is (bad_escape has none) = has
fails_value_not Port text octets _ is (bad_escape has none) = has
fails_value_not Ipv4Hint text octets _ is (bad_escape has none) = has
fails_value_not Ech text octets _ is (bad_escape has none) = has
fails_value_not Ipv6Hint text octets _ is (bad_escape has none) = has
fails_value_not DohPath text octets _ is (bad_escape has none) = none octets is.0
fails_value_not Ohttp text octets _ is (bad_escape has none) = has
fails_value_not (Numbered n) text octets _ is (bad_escape has none) = none octets is

no_key_not : (rest : List TouchingItem) (more : List Parameter) → BeginWithNoKey rest → StateEach rest more [] → ⊥
no_key_not rest [] none each = omega (arith, none.some, ap length each)
no_key_not rest (p ∷ more) none each = none.none each.0 each.1 each.3.key each.2 each.3.spelt

pub parameters_or_fault : (items : List TouchingItem) (octets : List ℕ) (fault : WordsFault) → StatesParameters items octets → FailsParameters items fault → ⊥
parameters_or_fault items octets _ is (no_key before rest precede none) =
    let after = each_after items rest before is.stated precede.each is.precede.each in
    no_key_not rest after.0 none after.1
parameters_or_fault items octets _ is (repeated_key before rest key value precede begins there) =
    let after = each_after items rest before is.stated precede.each is.precede.each in
    let next = next_key rest key value after.0 begins after.1 in
    new_before before next.1 next.0 (subst AreOnce (after.2 ∙ ap (λ t. before ++ t) next.4) is.precede.once) (subst (IsThere before) (sym next.2) there)
parameters_or_fault items octets fault is (bad_value before rest key value _ precede begins new fails) =
    let after = each_after items rest before is.stated precede.each is.precede.each in
    let next = next_key rest key value after.0 begins after.1 in
    fails_value_not key value next.0.octets fault next.3 fails
parameters_or_fault items octets _ is (missing_key stated precede missing) = missing (subst AreComplete (each_once items is.stated stated is.precede.each precede.each) is.complete)
parameters_or_fault items octets _ is (long_value stated precede complete long) =
    let e = each_once items is.stated stated is.precede.each precede.each in
    long (subst (λ t. AllByRecursion IsShort (map sent t)) e (moves_by is.sorted (map sent is.stated) (IsPermutation-sym (map sent is.stated) is.sorted is.same) IsShort is.short))
