-- Parameters as the code reads them.
use Rattle.type_data.proofs.Common.{AddsParameter, All-from_recursion, All-permutation, AllByRecursion, AllByRecursion-append, AppendsStated, AreComplete, AreOnce, AreSent, Ascend, AscendAbove, BeginWith, Bool, FailsAfter, FailsParameters, FailsValue, HasStated, Holds, IsNew, IsPermutation, IsPermutation-middle, IsPermutation-refl, IsPermutation-trans, IsShort, IsStrictlySortedBy, IsThere, Key, List, Parameter, ParameterText, Precede, RequiresKeys, Sent, Some, SpellsKey, StateEach, StatesParameter, StatesParameters, StatesValue, TouchingItem, WordsFault, [], again, all_required, all_sent, ap, arith, bad_value, cond, drop, drop_more, false, flat_map, flat_map_more, get_or, inl, inr, is_some, keyless, length, long_value, map, map_push, missing_key, no_key, recursion_from_All, refl, repeated_key, sent, sent_octets, subst, sym, true, valueless, ℕ, ◌++◌, ◌+◌, ◌<◌, ◌∙◌, ◌∷◌, ◌≡◌, ◌≢◌, ◌⊎◌}
use Rattle.std.proofs.lemmas.Bool.{cases_eq}
use Rattle.std.proofs.lemmas.List.Sorted.{IsPermutation-cons, IsPermutation-map, IsPermutation-sym, IsPermutation-to_front}
use Rattle.std.specs.BTreeMap.{get, insert_entry, is_at}
use Rattle.std.specs.Global.{Vec}
use Rattle.std.specs.Map.{lookup}
use Rattle.std.specs.Ordering.{nat_cmp, is_eq, match_ordering}
use Rattle.std.specs.declared.cmp.Ordering.{Ordering}
use Rattle.std.specs.declared.cmp.Ordering.TheVariants.{Less, Equal, Greater}
use Rattle.type_data.proofs.OfParameters.Texts.{begin_once}
use Rattle.type_data.specs.Parameters.Machine.Stated.{IsLong}
use Rattle.type_data.specs.Parameters.Keys.{number_of}
use Rattle.type_data.specs.declared.fault.WordsFault.TheVariants as faults
use Rattle.type_data.specs.declared.parameters.stated.Stated.{Stated}

-- ---- one more parameter

pub each_more : (items rest next : List TouchingItem) (before : List Parameter) (text : ParameterText) (p : Parameter) → StateEach items before rest → BeginWith rest text next → StatesParameter text p → StateEach items (before ++ p ∷ []) next
each_more items rest next [] text p each begin states = (text, next, subst (λ t. BeginWith t text next) (sym each) begin, states, refl)
each_more items rest next (q ∷ before) text p each begin states = (each.0, each.1, each.2, each.3, each_more each.1 rest next before text p each.4 begin states)

pub once_more : (before : List Parameter) (p : Parameter) → AreOnce before → IsNew p.number before → AreOnce (before ++ p ∷ [])
once_more [] p once new = (tt, tt)
once_more (q ∷ before) p once new = (AllByRecursion-append (λ (r : Parameter). r.number ≢ q.number) before (p ∷ []) once.0 (λ e. new.0 (sym e), tt), once_more before p once.1 new.1)

pub stated_more : (all items rest : List TouchingItem) (text : ParameterText) (old new : Stated) → BeginWith items text rest → AddsParameter text old new → HasStated all items old → HasStated all rest new
stated_more all items rest text old new begin adds has =
    let added = adds has.before has.holds in
    record { before = has.before ++ added.0 ∷ []; precede = record { each = each_more all items rest has.before text added.0 has.precede.each begin added.1; once = once_more has.before added.0 has.precede.once added.2 }; holds = added.3 }

-- ---- where the next parameter fails

pub fails_by : (all items rest : List TouchingItem) (before : List Parameter) (text : ParameterText) (fault : WordsFault) → Precede all items before → BeginWith items text rest → ((other : ParameterText) (next : List TouchingItem) → BeginWith items other next → other ≡ text) → 0 < length items → FailsAfter before text fault → FailsParameters all fault
fails_by all items rest before text _ precede begin only some (keyless none) = no_key before items precede (record { some = some; none = λ other next key begins spells. none key (subst (λ (t : ParameterText). SpellsKey t.key key) (only other next begins) spells) })
fails_by all items rest before text _ precede begin only some (again key spells there) = repeated_key before items key text.value precede (record { text = text; rest = rest; begin = begin; spelt = spells; is_value = refl }) there
fails_by all items rest before text fault precede begin only some (valueless key _ spells new fails) = bad_value before items key text.value fault precede (record { text = text; rest = rest; begin = begin; spelt = spells; is_value = refl }) new fails

pub stated_fails : (all items rest : List TouchingItem) (text : ParameterText) (old : Stated) (fault : WordsFault) → BeginWith items text rest → 0 < length items → ((before : List Parameter) → Holds old before → FailsAfter before text fault) → HasStated all items old → FailsParameters all fault
stated_fails all items rest text old fault begin some fails has = fails_by all items rest has.before text fault has.precede begin (λ other next begins. (begin_once items other text next rest begins begin).0) some (fails has.before has.holds)

pub stated_keyless : (all items : List TouchingItem) (old : Stated) → 0 < length items → ((text : ParameterText) (rest : List TouchingItem) → BeginWith items text rest → ⊥) → HasStated all items old → FailsParameters all faults.NotAKey
stated_keyless all items old some none has = no_key has.before items has.precede (record { some = some; none = λ text rest key begins spells. none text rest begins })

-- ---- the keys of a map

abbrev pub Entries : Type 0
Entries = List (ℕ × Vec ℕ)

abbrev pub entry_sent : ℕ × Vec ℕ → Sent
entry_sent entry = record { number = entry.0; octets = entry.1.items }

abbrev Others : ℕ → List Sent → Type 0
Others k parameters = AllByRecursion (λ (s : Sent). s.number ≢ k) parameters

at_itself : (k n : ℕ) → is_at (nat_cmp k) n ≡ true → n ≡ k
at_itself k n e = grind arith

other_by : (k : ℕ) (e : ℕ × Vec ℕ) (es : Entries) (t : Bool) → is_at (nat_cmp k) e.0 ≡ t → is_some (cond t (Some e.1) (lookup (is_at (nat_cmp k)) es)) ≡ false → (is_some (lookup (is_at (nat_cmp k)) es) ≡ false → Others k (map entry_sent es)) → Others k (map entry_sent (e ∷ es))
other_by k e es true is none more = absurd cc
other_by k e es false is none more = (grind arith, more none)

entries_other : (k : ℕ) (es : Entries) → is_some (lookup (is_at (nat_cmp k)) es) ≡ false → Others k (map entry_sent es)
entries_other k [] none = tt
entries_other k (e ∷ es) none = other_by k e es (is_at (nat_cmp k) e.0) refl none (entries_other k es)

none_by : (k : ℕ) (e : ℕ × Vec ℕ) (es : Entries) (t : Bool) → is_at (nat_cmp k) e.0 ≡ t → e.0 ≢ k → is_some (lookup (is_at (nat_cmp k)) es) ≡ false → is_some (cond t (Some e.1) (lookup (is_at (nat_cmp k)) es)) ≡ false
none_by k e es true is other more = absurd (other (at_itself k e.0 is))
none_by k e es false is other more = more

entries_none : (k : ℕ) (es : Entries) → Others k (map entry_sent es) → is_some (lookup (is_at (nat_cmp k)) es) ≡ false
entries_none k [] others = refl
entries_none k (e ∷ es) others = none_by k e es (is_at (nat_cmp k) e.0) refl others.0 (entries_none k es others.1)

insert_by : (k : ℕ) (v : Vec ℕ) (e : ℕ × Vec ℕ) (es : Entries) (o : Ordering) → nat_cmp k e.0 ≡ o → e.0 ≢ k → IsPermutation ((k, v) ∷ es) (insert_entry nat_cmp es k v) → IsPermutation ((k, v) ∷ (e ∷ es)) (match_ordering o ((k, v) ∷ (e ∷ es)) ((e.0, v) ∷ es) (e ∷ insert_entry nat_cmp es k v))
insert_by k v e es Less is other more = IsPermutation-refl ((k, v) ∷ (e ∷ es))
insert_by k v e es Equal is other more = absurd (other (at_itself k e.0 (ap is_eq is)))
insert_by k v e es Greater is other more = IsPermutation-trans ((k, v) ∷ (e ∷ es)) (e ∷ ((k, v) ∷ es)) (e ∷ insert_entry nat_cmp es k v) (IsPermutation-sym (e ∷ ((k, v) ∷ es)) ((k, v) ∷ (e ∷ es)) (IsPermutation-middle (e ∷ []) (k, v) es)) (IsPermutation-cons e ((k, v) ∷ es) (insert_entry nat_cmp es k v) more)

insert_new : (k : ℕ) (v : Vec ℕ) (es : Entries) → Others k (map entry_sent es) → IsPermutation ((k, v) ∷ es) (insert_entry nat_cmp es k v)
insert_new k v [] others = IsPermutation-refl ((k, v) ∷ [])
insert_new k v (e ∷ es) others = insert_by k v e es (nat_cmp k e.0) refl others.0 (insert_new k v es others.1)

others_new : (k : ℕ) (before : List Parameter) → Others k (map sent before) → IsNew k before
others_new k [] others = tt
others_new k (p ∷ before) others = (others.0, others_new k before others.1)

pub new_others : (k : ℕ) (before : List Parameter) → IsNew k before → Others k (map sent before)
new_others k [] new = tt
new_others k (p ∷ before) new = (new.0, new_others k before new.1)

pub move : (P : Sent → Type 0) (xs ys : List Sent) → IsPermutation xs ys → AllByRecursion P xs → AllByRecursion P ys
move P xs ys same each = recursion_from_All P ys (All-permutation P xs ys same (All-from_recursion P xs each))

there_by : (k : ℕ) (p : Parameter) (before : List Parameter) → (p.number ≡ k) ⊎ (p.number ≢ k) → IsThere before k ⊎ IsNew k before → IsThere (p ∷ before) k ⊎ IsNew k (p ∷ before)
there_by k p before (inl e) more = inl (inl e)
there_by k p before (inr other) (inl there) = inl (inr there)
there_by k p before (inr other) (inr new) = inr (other, new)

pub there_or_new : (k : ℕ) (before : List Parameter) → IsThere before k ⊎ IsNew k before
there_or_new k [] = inr tt
there_or_new k (p ∷ before) = there_by k p before (cases_eq p.number k) (there_or_new k before)

-- ---- what was read, and its map

-- the map has the key
abbrev pub IsFound : Stated → ℕ → Type 0
IsFound stated k = is_some (get nat_cmp stated.values k) ≡ true

pub not_found_new : (stated : Stated) (before : List Parameter) (k : ℕ) → Holds stated before → is_some (get nat_cmp stated.values k) ≡ false → IsNew k before
not_found_new stated before k holds none = others_new k before (move (λ (s : Sent). s.number ≢ k) (all_sent stated.values) (map sent before) (IsPermutation-sym (map sent before) (all_sent stated.values) holds.same) (entries_other k stated.values.entries none))

found_by : (stated : Stated) (before : List Parameter) (k : ℕ) → Holds stated before → IsFound stated k → IsThere before k ⊎ IsNew k before → IsThere before k
found_by stated before k holds found (inl there) = there
found_by stated before k holds found (inr new) = let none = (entries_none k stated.values.entries (move (λ (s : Sent). s.number ≢ k) (map sent before) (all_sent stated.values) holds.same (new_others k before new))) in absurd cc

pub found_there : (stated : Stated) (before : List Parameter) (k : ℕ) → Holds stated before → IsFound stated k → IsThere before k
found_there stated before k holds found = found_by stated before k holds found (there_or_new k before)

pub never_both : (k : ℕ) (before : List Parameter) → IsThere before k → IsNew k before → ⊥
never_both k [] there new = there
never_both k (p ∷ before) (inl e) new = new.0 e
never_both k (p ∷ before) (inr there) new = never_both k before there new.1

there_at : (stated : Stated) (before : List Parameter) (k : ℕ) (t : Bool) → is_some (get nat_cmp stated.values k) ≡ t → Holds stated before → IsThere before k → t ≡ true
there_at stated before k true is holds there = refl
there_at stated before k false is holds there = absurd (never_both k before there (not_found_new stated before k holds is))

holds_more : (old new : Stated) (before : List Parameter) (k : ℕ) (v : Vec ℕ) (required : List ℕ) → Holds old before → IsNew k before → new.values.entries ≡ insert_entry nat_cmp old.values.entries k v → new.required.items ≡ old.required.items ++ required → Holds new (before ++ record { number = k; octets = v.items; required = required } ∷ [])
holds_more old new before k v required holds fresh values grown =
    let p : Parameter = record { number = k; octets = v.items; required = required } in
    let others = move (λ (s : Sent). s.number ≢ k) (map sent before) (all_sent old.values) holds.same (new_others k before fresh) in
    let put : IsPermutation (sent p ∷ all_sent old.values) (map entry_sent (insert_entry nat_cmp old.values.entries k v)) = IsPermutation-map entry_sent ((k, v) ∷ old.values.entries) (insert_entry nat_cmp old.values.entries k v) (insert_new k v old.values.entries others) in
    let there = subst (IsPermutation (sent p ∷ all_sent old.values)) (ap (map entry_sent) (sym values)) put in
    let front = IsPermutation-trans (map sent before ++ sent p ∷ []) (sent p ∷ map sent before) (sent p ∷ all_sent old.values) (IsPermutation-to_front (map sent before) (sent p)) (IsPermutation-cons (sent p) (map sent before) (all_sent old.values) holds.same) in
    record {
      same = subst (λ t. IsPermutation t (all_sent new.values)) (sym (map_push sent before p)) (IsPermutation-trans (map sent before ++ sent p ∷ []) (sent p ∷ all_sent old.values) (all_sent new.values) front there);
      required = grown ∙ ap (λ t. t ++ required) holds.required ∙ flat_map_more (λ (q : Parameter). q.required) [] before p;
    }

-- the parameter is there
pub parameter_added : (text : ParameterText) (key : Key) (number : ℕ) (v : Vec ℕ) (old new : Stated) → SpellsKey text.key key → number ≡ number_of key → is_some (get nat_cmp old.values number) ≡ false → AppendsStated (StatesValue key text.value) [] v.items → AppendsStated (RequiresKeys key text.value) old.required.items new.required.items → new.values.entries ≡ insert_entry nat_cmp old.values.entries number v → AddsParameter text old new
parameter_added text key number v old new spells numbered none stated required values before holds =
    let p : Parameter = record { number = number; octets = v.items; required = required.octets } in
    let fresh = not_found_new old before number holds none in
    (p, record { key = key; spelt = spells; numbered = numbered; value = subst (StatesValue key text.value) (sym stated.written) stated.stated; requires_keys = required.stated }, fresh, holds_more old new before number v required.octets holds fresh values required.written)

pub parameter_fails : (text : ParameterText) (key : Key) (number : ℕ) (old : Stated) (before : List Parameter) (fault : WordsFault) → SpellsKey text.key key → number ≡ number_of key → is_some (get nat_cmp old.values number) ≡ false → FailsValue key text.value fault → Holds old before → FailsAfter before text fault
parameter_fails text key number old before fault spells numbered none fails holds = valueless key fault spells (subst (λ n. IsNew n before) numbered (not_found_new old before number holds none)) fails

-- ---- what is required

pub required_stops : (P : ℕ → Type 0) (xs : List ℕ) (i x : ℕ) → i < length xs → x ≡ get_or xs i 0 → (P x → ⊥) → AllByRecursion P (drop i xs) → ⊥
required_stops P xs i x inside is none each = none (subst P (sym is) (subst (AllByRecursion P) (drop_more xs i 0 inside) each).0)

pub required_back : (P : ℕ → Type 0) (xs : List ℕ) (i x : ℕ) → i < length xs → x ≡ get_or xs i 0 → P x → AllByRecursion P (drop (i + 1) xs) → AllByRecursion P (drop i xs)
required_back P xs i x inside is holds each = subst (AllByRecursion P) (sym (drop_more xs i 0 inside)) (subst P is holds, each)

-- ---- in ascending order

above_sorted : (k : ℕ) (es : Entries) → AllByRecursion (λ n. nat_cmp k n ≡ Less) (map (λ (e : ℕ × Vec ℕ). e.0) es) → IsStrictlySortedBy nat_cmp (map (λ (e : ℕ × Vec ℕ). e.0) es) → AscendAbove k (map (λ (s : Sent). s.number) (map entry_sent es))
unfolding IsStrictlySortedBy
above_sorted k [] above sorted = tt
above_sorted k (e ∷ es) above sorted = (grind arith, above_sorted e.0 es sorted.0 sorted.1)

pub sorted_by : (es : Entries) → IsStrictlySortedBy nat_cmp (map (λ (e : ℕ × Vec ℕ). e.0) es) → Ascend (map entry_sent es)
unfolding IsStrictlySortedBy
sorted_by [] sorted = tt
sorted_by (e ∷ es) sorted = above_sorted e.0 es sorted.0 sorted.1

-- ---- all is read

each_found : (stated : Stated) (before : List Parameter) (numbers : List ℕ) → Holds stated before → AllByRecursion (IsThere before) numbers → AllByRecursion (IsFound stated) numbers
each_found stated before [] holds each = tt
each_found stated before (n ∷ numbers) holds each = (there_at stated before n (is_some (get nat_cmp stated.values n)) refl holds each.0, each_found stated before numbers holds each.1)

each_there : (stated : Stated) (before : List Parameter) (numbers : List ℕ) → Holds stated before → AllByRecursion (IsFound stated) numbers → AllByRecursion (IsThere before) numbers
each_there stated before [] holds each = tt
each_there stated before (n ∷ numbers) holds each = (found_there stated before n holds each.0, each_there stated before numbers holds each.1)

is_complete : (stated : Stated) (before : List Parameter) → Holds stated before → AllByRecursion (IsFound stated) stated.required.items → AreComplete before
is_complete stated before holds each = subst (AllByRecursion (IsThere before)) holds.required (each_there stated before stated.required.items holds each)

pub stated_missing : (items : List TouchingItem) (stated : Stated) → HasStated items [] stated → (AllByRecursion (IsFound stated) stated.required.items → ⊥) → FailsParameters items faults.MandatoryKeyMissing
stated_missing items stated has none = missing_key has.before has.precede (λ complete. none (subst (AllByRecursion (IsFound stated)) (sym has.holds.required) (each_found stated has.before (all_required has.before) has.holds complete)))

pub stated_long : (items : List TouchingItem) (stated : Stated) (fault : WordsFault) → HasStated items [] stated → AllByRecursion (IsFound stated) stated.required.items → IsLong stated.values fault → FailsParameters items fault
stated_long items stated fault has each long = subst (FailsParameters items) (sym long.0) (long_value has.before has.precede (is_complete stated has.before has.holds each) (λ short. long.1 (move IsShort (map sent has.before) (all_sent stated.values) has.holds.same short)))

pub stated_states : (items : List TouchingItem) (stated : Stated) (old new : List ℕ) → HasStated items [] stated → AllByRecursion (IsFound stated) stated.required.items → AreSent stated.values old new → AppendsStated (StatesParameters items) old new
stated_states items stated old new has each are = record {
  octets = flat_map sent_octets (all_sent stated.values);
  stated = record { stated = has.before; precede = has.precede; complete = is_complete stated has.before has.holds each; sorted = all_sent stated.values; same = has.holds.same; ascend = are.ascend; short = are.short; value = refl };
  written = are.written;
}
