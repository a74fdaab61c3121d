-- Keys that have to be there, as they are printed.
use Rattle.type_data.proofs.Common.{AllByRecursion, Ascend, AscendAbove, List, Sent, [], ap, append-nil, append_assoc, append_cancel_left, arith, drop, drop_more, flat_map, get_or, inl, inr, join_with_byte, length, map, refl, subst, suc, sym, to_be_bytes, w16, ℕ, ◌++◌, ◌+◌, ◌<◌, ◌^◌, ◌∙◌, ◌∷◌, ◌≡◌, ◌≢◌}
use Rattle.std.proofs.lemmas.Nat.{from_be_bytes-to_be_bytes_2}
use Rattle.type_data.proofs.OfParameters.Marked.{AreMarked, more_marked}
use Rattle.type_data.specs.Parameters.Machine.Printed.{AppendsUnquoted, AreKeys, IsAfterKey, all_sent, key_texts, marked, numbers_in, sent_of, stays, taken}
use Rattle.type_data.specs.Parameters.Keys.{key_text}
use Rattle.type_data.specs.Parameters.Printed.{IsAmong, PrintsKeys, usual_key}
use Rattle.type_data.specs.declared.parameters.printing.sent.Parameter.{Parameter}

abbrev pub text_of_key : ℕ → List ℕ
text_of_key number = key_text (usual_key number)

-- ---- printing

-- the keys up to a place are printed
pub record HasPrinted (keys rest mark old new : List ℕ) : Type 0 where
  pub done : List ℕ
  pub parts : numbers_in keys ≡ done ++ numbers_in rest
  pub marked_as : AreMarked text_of_key (61 ∷ []) done mark old new

pub numbers_of : (number : ℕ) (after : List ℕ) → number < 2 ^ 16 → numbers_in (to_be_bytes w16 number ++ after) ≡ number ∷ numbers_in after
numbers_of number after small = ap (λ n. n ∷ numbers_in after) (from_be_bytes-to_be_bytes_2 number small)

pub keys_more : (keys rest after mark old mid new : List ℕ) (number : ℕ) → HasPrinted keys rest mark old mid → rest ≡ to_be_bytes w16 number ++ after → number < 2 ^ 16 → new ≡ (mid ++ mark) ++ key_text (usual_key number) → HasPrinted keys after (44 ∷ []) old new
keys_more keys rest after mark old mid new number has split small grown = record {
  done = has.done ++ number ∷ [];
  parts = has.parts ∙ ap (λ t. has.done ++ numbers_in t) split ∙ ap (λ t. has.done ++ t) (numbers_of number after small) ∙ sym (append_assoc has.done (number ∷ []) (numbers_in after));
  marked_as = more_marked text_of_key (61 ∷ []) has.done number mark old mid new has.marked_as grown;
}

none_in : (rest : List ℕ) → length rest < 2 → numbers_in rest ≡ []
none_in [] short = refl
none_in (c ∷ []) short = refl
none_in (c ∷ d ∷ rest) short = absurd (omega (arith, short))

pub keys_ended : (keys rest mark old new : List ℕ) → HasPrinted keys rest mark old new → length rest < 2 → new ≡ old ++ marked (61 ∷ []) (key_texts (numbers_in keys))
keys_ended keys rest mark old new has short = has.marked_as.written ∙ ap (λ t. old ++ marked (61 ∷ []) (map text_of_key t)) (sym (has.parts ∙ ap (λ t. has.done ++ t) (none_in rest short) ∙ append-nil has.done))

-- ---- whether they are there

-- the keys that are left are among the parameters that are left just where all are among all
pub record AreLeft (all left : List Sent) (keys wanted : List ℕ) : Type 0 where
  pub ascend : Ascend left
  pub back : AreKeys left (numbers_in wanted) wanted → AreKeys all (numbers_in keys) keys
  pub on : AreKeys all (numbers_in keys) keys → AreKeys left (numbers_in wanted) wanted

pub all_left : (all : List Sent) (keys : List ℕ) → Ascend all → AreLeft all all keys keys
all_left all keys a = record { ascend = a; back = λ are. are; on = λ are. are }

tail_ascends : (low : ℕ) (left : List Sent) → AscendAbove low (map (λ (q : Sent). q.number) left) → Ascend left
tail_ascends low [] a = tt
tail_ascends low (s ∷ left) a = a.1

above : (low number : ℕ) (left : List Sent) → AscendAbove low (map (λ (q : Sent). q.number) left) → IsAmong left number → low < number
above low number [] a among = absurd among
above low number (s ∷ left) a (inl e) = omega (arith, e, a.0)
above low number (s ∷ left) a (inr among) = omega (arith, a.0, above s.number number left a.1 among)

-- what is among them and greater than the first is among the others
among_others : (s : Sent) (left : List Sent) (number : ℕ) → s.number < number → IsAmong (s ∷ left) number → IsAmong left number
among_others s left number less (inl e) = absurd (omega (arith, e, less))
among_others s left number less (inr among) = among

all_others : (s : Sent) (left : List Sent) (low : ℕ) (numbers : List ℕ) → s.number < suc low → AscendAbove low numbers → AllByRecursion (IsAmong (s ∷ left)) numbers → AllByRecursion (IsAmong left) numbers
all_others s left low [] less a there = tt
all_others s left low (n ∷ numbers) less a there = (among_others s left n (omega (arith, less, a.0)) there.0, all_others s left n numbers (omega (arith, less, a.0)) a.1 there.1)

with_first : (s : Sent) (left : List Sent) (numbers : List ℕ) → AllByRecursion (IsAmong left) numbers → AllByRecursion (IsAmong (s ∷ left)) numbers
with_first s left [] there = tt
with_first s left (n ∷ numbers) there = (inr there.0, with_first s left numbers there.1)

rises_from : (low high : ℕ) (numbers : List ℕ) → AscendAbove low numbers → ((n : ℕ) (more : List ℕ) → numbers ≡ n ∷ more → high < n) → AscendAbove high numbers
rises_from low high [] a first = tt
rises_from low high (n ∷ numbers) a first = (first n numbers refl, a.1)

first_above : (s : Sent) (left : List Sent) (numbers : List ℕ) → Ascend (s ∷ left) → AllByRecursion (IsAmong left) numbers → (n : ℕ) (more : List ℕ) → numbers ≡ n ∷ more → s.number < n
first_above s left numbers a there n more e = above s.number n left a (subst (AllByRecursion (IsAmong left)) e there).0

-- a key that is that of the first parameter
module _ (s : Sent) (left : List Sent) (wanted after : List ℕ) (number : ℕ) (a : Ascend (s ∷ left)) (split : wanted ≡ to_be_bytes w16 number ++ after) (small : number < 2 ^ 16) (same : number ≡ s.number) (some : number ≢ 0) where
  found_back : AreKeys left (numbers_in after) after → AreKeys (s ∷ left) (number ∷ numbers_in after) (to_be_bytes w16 number ++ after)
  found_back are = record {
    ascend = (grind (arith, some), rises_from 0 number (numbers_in after) are.ascend (λ n more e. omega (arith, same, first_above s left (numbers_in after) a are.there n more e)));
    there = (inl (sym same), with_first s left (numbers_in after) are.there);
    value = ap (λ t. to_be_bytes w16 number ++ t) are.value;
  }

  found_on : AreKeys (s ∷ left) (number ∷ numbers_in after) (to_be_bytes w16 number ++ after) → AreKeys left (numbers_in after) after
  found_on are = record {
    ascend = rises_from number 0 (numbers_in after) are.ascend.1 (λ n more e. omega (arith, (subst (AscendAbove number) e are.ascend.1).0));
    there = all_others s left number (numbers_in after) (omega (arith, same)) are.ascend.1 are.there.1;
    value = append_cancel_left (to_be_bytes w16 number) after (flat_map (to_be_bytes w16) (numbers_in after)) are.value;
  }

  with_number : (left : List Sent) → AreKeys left (numbers_in wanted) wanted ≡ AreKeys left (number ∷ numbers_in after) (to_be_bytes w16 number ++ after)
  with_number left = ap (λ t. AreKeys left (numbers_in t) t) split ∙ ap (λ t. AreKeys left t (to_be_bytes w16 number ++ after)) (numbers_of number after small)

  pub key_found : (all : List Sent) (keys : List ℕ) → AreLeft all (s ∷ left) keys wanted → AreLeft all left keys after
  key_found all keys have = record {
    ascend = tail_ascends s.number left a;
    back = λ are. have.back (subst (λ (T : Type 0). T) (sym (with_number (s ∷ left))) (found_back are));
    on = λ are. found_on (subst (λ (T : Type 0). T) (with_number (s ∷ left)) (have.on are));
  }

-- a parameter that isn't the next key
skipped : (s : Sent) (left : List Sent) (numbers : List ℕ) → Ascend (s ∷ left) → ((n : ℕ) (more : List ℕ) → numbers ≡ n ∷ more → n ≡ s.number → n ≡ 0) → AscendAbove 0 numbers → AllByRecursion (IsAmong (s ∷ left)) numbers → AllByRecursion (IsAmong left) numbers
skipped s left [] a other rises there = tt
skipped s left (n ∷ numbers) a other rises (inl e, more) = absurd (omega (arith, rises.0, other n numbers refl (sym e)))
skipped s left (n ∷ numbers) a other rises (inr among, more) = (among, all_others s left n numbers (omega (arith, above s.number n left a among)) rises.1 more)

pub unlike_short : (s : Sent) (wanted : List ℕ) → length wanted < 2 → (n : ℕ) (more : List ℕ) → numbers_in wanted ≡ n ∷ more → n ≡ s.number → n ≡ 0
unlike_short s wanted short n more e same = absurd (omega (arith, ap length (sym (none_in wanted short) ∙ e)))

pub unlike_next : (s : Sent) (wanted after : List ℕ) (number : ℕ) → wanted ≡ to_be_bytes w16 number ++ after → number < 2 ^ 16 → (number ≡ s.number → number ≡ 0) → (n : ℕ) (more : List ℕ) → numbers_in wanted ≡ n ∷ more → n ≡ s.number → n ≡ 0
unlike_next s wanted after number split small other n more e same =
    let is : n ≡ number = ap (λ t. get_or t 0 0) (sym e ∙ ap numbers_in split ∙ numbers_of number after small) in
    is ∙ other (sym is ∙ same)

pub key_skipped : (all left : List Sent) (s : Sent) (keys wanted : List ℕ) → ((n : ℕ) (more : List ℕ) → numbers_in wanted ≡ n ∷ more → n ≡ s.number → n ≡ 0) → AreLeft all (s ∷ left) keys wanted → AreLeft all left keys wanted
key_skipped all left s keys wanted other have = record {
  ascend = tail_ascends s.number left have.ascend;
  back = λ are. have.back (record { ascend = are.ascend; there = with_first s left (numbers_in wanted) are.there; value = are.value });
  on = λ are. (let on = have.on are in record { ascend = on.ascend; there = skipped s left (numbers_in wanted) have.ascend other on.ascend on.there; value = on.value });
}

-- ---- the next parameter

next_by : (all left : List Sent) (s : Sent) (keys wanted after : List ℕ) → IsAfterKey s.number wanted after → AreLeft all (s ∷ left) keys wanted → AreLeft all left keys after
next_by all left s keys wanted after (taken split small some) have = key_found s left wanted after s.number have.ascend split small refl some all keys have
next_by all left s keys wanted after (stays same unlike) have = subst (AreLeft all left keys) (sym same) (key_skipped all left s keys wanted unlike have)

pub next_left : (parameters : List Parameter) (i : ℕ) (d : Parameter) (keys wanted after : List ℕ) → i < length parameters → IsAfterKey (get_or parameters i d).key wanted after → AreLeft (all_sent parameters) (all_sent (drop i parameters)) keys wanted → AreLeft (all_sent parameters) (all_sent (drop (i + 1) parameters)) keys after
next_left parameters i d keys wanted after inside is have =
    next_by (all_sent parameters) (all_sent (drop (i + 1) parameters)) (sent_of (get_or parameters i d)) keys wanted after is (subst (λ t. AreLeft (all_sent parameters) t keys wanted) (ap all_sent (drop_more parameters i d inside)) have)

none_wanted : (numbers wanted : List ℕ) → AllByRecursion (IsAmong []) numbers → wanted ≡ flat_map (to_be_bytes w16) numbers → wanted ≡ []
none_wanted [] wanted there value = value
none_wanted (n ∷ numbers) wanted there value = absurd there.0

pub none_left_on : (all : List Sent) (keys wanted : List ℕ) → AreLeft all [] keys wanted → AreKeys all (numbers_in keys) keys → wanted ≡ []
none_left_on all keys wanted have are = none_wanted (numbers_in wanted) wanted (have.on are).there (have.on are).value

pub none_left_back : (all : List Sent) (keys wanted : List ℕ) → AreLeft all [] keys wanted → wanted ≡ [] → AreKeys all (numbers_in keys) keys
none_left_back all keys wanted have empty = have.back (subst (λ t. AreKeys [] (numbers_in t) t) (sym empty) (record { ascend = tt; there = tt; value = refl }))

-- ---- what is printed

some_numbers : (numbers keys : List ℕ) → 0 < length keys → keys ≡ flat_map (to_be_bytes w16) numbers → 0 < length numbers
some_numbers [] keys some value = absurd (omega (arith, some, ap length value))
some_numbers (n ∷ numbers) keys some value = omega arith

keys_printed_by : (all : List Sent) (keys old new : List ℕ) (numbers : List ℕ) → 0 < length numbers → AreKeys all numbers keys → new ≡ old ++ marked (61 ∷ []) (key_texts numbers) → AppendsUnquoted (λ text. PrintsKeys all text keys) old new
keys_printed_by all keys old new [] some are written = absurd (omega (arith, some))
keys_printed_by all keys old new (n ∷ numbers) some are written = record {
  text = join_with_byte 44 (map text_of_key (n ∷ numbers));
  printed = record { numbers = n ∷ numbers; some = some; ascend = are.ascend; there = are.there; value = are.value; printed = refl };
  appended = written;
}

pub keys_printed : (all : List Sent) (keys old new : List ℕ) → 0 < length keys → AreKeys all (numbers_in keys) keys → new ≡ old ++ marked (61 ∷ []) (key_texts (numbers_in keys)) → AppendsUnquoted (λ text. PrintsKeys all text keys) old new
keys_printed all keys old new some are written = keys_printed_by all keys old new (numbers_in keys) (some_numbers (numbers_in keys) keys some are.value) are written
