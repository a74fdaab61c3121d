-- Parameters that are printed state their octets.
use Rattle.type_data.proofs.Common.{AllByRecursion, AllByRecursion-append, AllZip, AreOnce, Ascend, AscendAbove, BeginWith, BeginWithTouchingQuote, Bool, IsNew, IsPermutation, IsPermutation-refl, IsShort, IsThere, Key, List, Numbered, Parameter, ParameterText, Sent, StateEach, StatesParameter, StatesParameters, TouchingItem, [], all_required, alone, ap, arith, bare_value, false, false≢true, inl, inr, key_text, map, quoted_value, refl, sent, subst, sym, ℕ, ◌++◌, ◌<◌, ◌∷◌, ◌≡◌, ◌≢◌}
use Rattle.zone_rdata.proofs.Common.{each_weaker}
use Rattle.type_data.proofs.OfParameters.PrintedTexts.{key_octets, text_in, usual_number, value_printed}
use Rattle.type_data.specs.Parameters.Keys.{number_of}
use Rattle.type_data.specs.Parameters.Printed.{IsAmong, IsSendable, PrintsParameter, PrintsParameters, PrintsValue, ValueText, by_name, by_number, in_quotes, left_out, parameter_items, unquoted, usual_key}
use Rattle.type_data.specs.Parameters.Text.{HasNoEquals}
use Rattle.type_data.proofs.OfParameters.EachPrinted.{joined}

-- ---- one parameter

-- the items of a parameter state it before others
pub record IsStatedBy (all : List Sent) (s : Sent) (items : List TouchingItem) : Type 0 where
  pub parameter : Parameter
  pub text : ParameterText
  pub is : sent parameter ≡ s
  pub states : StatesParameter text parameter
  pub there : AllByRecursion (IsAmong all) parameter.required
  pub begin : (rest : List TouchingItem) → (BeginWithTouchingQuote rest → ⊥) → BeginWith (items ++ rest) text rest

abbrev written_text : Key → ValueText → ParameterText
written_text key value = record { key = key_text key; value = text_in value }

begins : (key : Key) (value : ValueText) (rest : List TouchingItem) → HasNoEquals (key_text key) → (BeginWithTouchingQuote rest → ⊥) → BeginWith (parameter_items key value ++ rest) (written_text key value) rest
begins key left_out rest plain apart = alone false plain refl refl
begins key (unquoted text) rest plain apart = bare_value false plain (λ none touching. apart touching) refl
begins key (in_quotes text) rest plain apart = quoted_value false plain refl

stated_by : (all : List Sent) (s : Sent) (key : Key) (value : ValueText) → AllByRecursion IsSendable all → IsSendable s → number_of key ≡ s.number → PrintsValue all key value s.octets → IsStatedBy all s (parameter_items key value)
stated_by all s key value sendable own number printed =
    let is = value_printed all key value s.octets sendable own.each printed in
    let valid : number_of key < 65535 = omega (arith, number, own.valid) in
    record {
      parameter = record { number = s.number; octets = s.octets; required = is.required };
      text = written_text key value;
      is = refl;
      states = record { key = key; spelt = record { spelt = refl; valid = valid }; numbered = sym number; value = is.value; requires_keys = is.requires_keys };
      there = is.there;
      begin = λ rest apart. begins key value rest (each_weaker (λ c. c ≢ 61) (λ c is. is.0) (key_text key) (key_octets key valid)) apart;
    }

parameter_stated : (all : List Sent) (s : Sent) (items : List TouchingItem) → AllByRecursion IsSendable all → IsSendable s → PrintsParameter all s items → IsStatedBy all s items
parameter_stated all s items sendable own (by_name value printed) = stated_by all s (usual_key s.number) value sendable own (usual_number s.number) printed
parameter_stated all s items sendable own (by_number value none printed) = stated_by all s (Numbered s.number) value sendable own refl printed

-- ---- one after another

abbrev first_touches : List TouchingItem → Bool
first_touches [] = false
first_touches (item ∷ items) = item.touches

-- no parameter touches what stands before it
items_apart : (key : Key) (value : ValueText) (rest : List TouchingItem) → BeginWithTouchingQuote (parameter_items key value ++ rest) → ⊥
items_apart key left_out rest begin = false≢true (ap first_touches begin.2)
items_apart key (unquoted text) rest begin = false≢true (ap first_touches begin.2)
items_apart key (in_quotes text) rest begin = false≢true (ap first_touches begin.2)

part_apart : (all : List Sent) (s : Sent) (items rest : List TouchingItem) → PrintsParameter all s items → BeginWithTouchingQuote (items ++ rest) → ⊥
part_apart all s items rest (by_name value printed) begin = items_apart (usual_key s.number) value rest begin
part_apart all s items rest (by_number value none printed) begin = items_apart (Numbered s.number) value rest begin

parts_apart : (all left : List Sent) (parts : List (List TouchingItem)) → AllZip (PrintsParameter all) left parts → BeginWithTouchingQuote (joined parts) → ⊥
parts_apart all [] [] each begin = (let e = begin.2 in cc e)
parts_apart all [] (part ∷ parts) each begin = each
parts_apart all (s ∷ left) [] each begin = each
parts_apart all (s ∷ left) (part ∷ parts) each begin = part_apart all s part (joined parts) each.0 begin

-- the items state these parameters
pub record AreStatedBy (all left : List Sent) (items : List TouchingItem) : Type 0 where
  pub stated : List Parameter
  pub each : StateEach items stated []
  pub are : map sent stated ≡ left
  pub there : AllByRecursion (IsAmong all) (all_required stated)

each_stated : (all left : List Sent) (parts : List (List TouchingItem)) → AllByRecursion IsSendable all → AllByRecursion IsSendable left → AllZip (PrintsParameter all) left parts → AreStatedBy all left (joined parts)
each_stated all [] [] sendable own each = record { stated = []; each = refl; are = refl; there = tt }
each_stated all [] (part ∷ parts) sendable own each = absurd each
each_stated all (s ∷ left) [] sendable own each = absurd each
each_stated all (s ∷ left) (part ∷ parts) sendable own each =
    let first = parameter_stated all s part sendable own.0 each.0 in
    let more = each_stated all left parts sendable own.1 each.1 in
    record {
      stated = first.parameter ∷ more.stated;
      each = (first.text, joined parts, first.begin (joined parts) (parts_apart all left parts each.1), first.states, more.each);
      are = (let a = first.is in let b = more.are in cc);
      there = AllByRecursion-append (IsAmong all) first.parameter.required (all_required more.stated) first.there more.there;
    }

-- ---- each key once, and the mandatory ones there

above : (low high : ℕ) (stated : List Parameter) → low < high → AscendAbove high (map (λ (q : Sent). q.number) (map sent stated)) → IsNew low stated
above low high [] less ascend = tt
above low high (p ∷ stated) less ascend =
    let up = ascend.0 in
    ((λ e. omega (arith, less, up, e)), above low p.number stated (omega (arith, less, up)) ascend.1)

new_above : (low : ℕ) (stated : List Parameter) → AscendAbove low (map (λ (q : Sent). q.number) (map sent stated)) → IsNew low stated
new_above low [] ascend = tt
new_above low (p ∷ stated) ascend =
    let up = ascend.0 in
    ((λ e. omega (arith, up, e)), above low p.number stated up ascend.1)

ascend_after : (low : ℕ) (stated : List Parameter) → AscendAbove low (map (λ (q : Sent). q.number) (map sent stated)) → Ascend (map sent stated)
ascend_after low [] ascend = tt
ascend_after low (p ∷ stated) ascend = ascend.1

once : (stated : List Parameter) → Ascend (map sent stated) → AreOnce stated
once [] ascend = tt
once (p ∷ stated) ascend = (new_above p.number stated ascend, once stated (ascend_after p.number stated ascend))

is_there : (stated : List Parameter) (n : ℕ) → IsAmong (map sent stated) n → IsThere stated n
is_there [] n among = among
is_there (p ∷ stated) n (inl e) = inl e
is_there (p ∷ stated) n (inr among) = inr (is_there stated n among)

pub parameters_printed_state : (items : List TouchingItem) (octets : List ℕ) → PrintsParameters items octets → StatesParameters items octets
parameters_printed_state items octets printed =
    let all = printed.parameters in
    let have = printed.sent in
    let by = each_stated all all printed.parts have.each have.each printed.each in
    let among : AllByRecursion (IsAmong (map sent by.stated)) (all_required by.stated) = subst (λ t. AllByRecursion (IsAmong t) (all_required by.stated)) (sym by.are) by.there in
    record {
      stated = by.stated;
      precede = record { each = subst (λ t. StateEach t by.stated []) (sym printed.whole) by.each; once = once by.stated (subst Ascend (sym by.are) have.ascend) };
      complete = each_weaker (IsThere by.stated) (λ n is. is_there by.stated n is) (all_required by.stated) among;
      sorted = all;
      same = subst (λ t. IsPermutation t all) (sym by.are) (IsPermutation-refl all);
      ascend = have.ascend;
      short = each_weaker IsShort (λ (s : Sent) (is : IsSendable s). is.short) all have.each;
      value = have.value;
    }
