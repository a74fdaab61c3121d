-- Items state the octets of parameters or have a fault.
use Rattle.std.proofs.lemmas.List.Sorted.{IsPermutation-cons, IsPermutation-middle, IsPermutation-refl, IsPermutation-trans}
use Rattle.zone_name.specs.Common.{EitherIs}
use Rattle.zone_rdata.proofs.Choices.{Choice, Decided, each_or_not}
use Rattle.zone_rdata.specs.Item.{bare, quoted}
use Rattle.type_data.proofs.Common.{AllByRecursion, AllByRecursion-back, AreComplete, AreOctets, AreOnce, Ascend, AscendAbove, BeginWith, BeginWithTouchingQuote, Bool, FailsAfter, FailsParameters, FailsValue, IsCutFirst, IsMissing, IsNew, IsPermutation, IsShort, IsThere, Key, List, Parameter, ParameterText, Precede, RawItem, Sent, SpellsKey, StatesParameter, StatesParameters, StatesValue, TouchingItem, WordsFault, [], again, all_required, alone, ap, arith, bare_value, cases_lt, false, flat_map, inl, inr, item_text, keyless, length, long_value, map, missing_key, no_key, placed, quoted_value, refl, sent, sent_octets, subst, suc, true, valueless, zero, ℕ, ◌++◌, ◌<◌, ◌∙◌, ◌∷◌, ◌≡◌, ◌≢◌, ◌≤◌, ◌⊎◌}
use Rattle.type_data.proofs.Decided.Choices.{at_most_or_not}
use Rattle.type_data.proofs.Decided.Items.{AreLow}
use Rattle.type_data.proofs.OfParameters.DecidedValues.{key_or_not, required_by, value_decided}
use Rattle.type_data.proofs.OfParameters.Once.{nothing_begins}
use Rattle.type_data.proofs.OfParameters.Reading.{each_more, fails_by, move, never_both, new_others, once_more, there_or_new}
use Rattle.type_data.proofs.OfParameters.Texts.{begin_once}
use Rattle.type_data.proofs.Decided.Cuts.{CutOrMissing, cut_or_missing}
use Rattle.type_data.specs.DataItem.{items_of}
use Rattle.type_data.specs.Parameters.Keys.{number_of}
use Rattle.type_data.specs.declared.fault.WordsFault.TheVariants.{MandatoryKeyMissing, NotAKey, RepeatedKey, TooLong}

abbrev AreLowItems : List TouchingItem → Type 0
AreLowItems items = AreLow (items_of items)

-- ---- what items begin with

record Begun (items : List TouchingItem) : Type 0 where
  text : ParameterText
  rest : List TouchingItem
  begin : BeginWith items text rest
  less : length rest < length items
  low : AreOctets text.value
  rest_low : AreLowItems rest

abbrev BegunOrNot : List TouchingItem → Type 0
BegunOrNot items = Begun items ⊎ ((text : ParameterText) (rest : List TouchingItem) → BeginWith items text rest → ⊥)

abbrev bare_item : RawItem → Bool
bare_item (bare text) = true
bare_item (quoted text) = false

abbrev is_bare : List TouchingItem → Bool
is_bare [] = false
is_bare (d ∷ items) = bare_item d.item

quoted_first : (inside : List ℕ) (touches : Bool) (items : List TouchingItem) (text : ParameterText) (rest : List TouchingItem) → BeginWith (placed (quoted inside) touches ∷ items) text rest → ⊥
quoted_first inside touches items text rest (alone t l v e) = (let bad : false ≡ true = ap is_bare e in cc bad)
quoted_first inside touches items text rest (bare_value t l v e) = (let bad : false ≡ true = ap is_bare e in cc bad)
quoted_first inside touches items text rest (quoted_value t l e) = (let bad : false ≡ true = ap is_bare e in cc bad)

-- the quoted item that touches what stands before it
abbrev QuoteOrNot : List TouchingItem → Type 0
QuoteOrNot items = BeginWithTouchingQuote items ⊎ (BeginWithTouchingQuote items → ⊥)

abbrev touches_first : List TouchingItem → Bool
touches_first [] = false
touches_first (d ∷ items) = d.touches

quote_by : (item : RawItem) (touches : Bool) (items : List TouchingItem) → QuoteOrNot (placed item touches ∷ items)
quote_by (bare text) touches items = inr (λ begins. (let bad : true ≡ false = ap is_bare begins.2 in cc bad))
quote_by (quoted inside) false items = inr (λ begins. (let bad : false ≡ true = ap touches_first begins.2 in cc bad))
quote_by (quoted inside) true items = inl (inside, items, refl)

quote_or_not : (items : List TouchingItem) → QuoteOrNot items
quote_or_not [] = inr (λ begins. absurd (let e = begins.2 in cc e))
quote_or_not (d ∷ items) = quote_by d.item d.touches items

some_or_empty : (value : List ℕ) → Decided (value ≡ [])
some_or_empty [] = inl refl
some_or_empty (c ∷ value) = inr (λ e. absurd (cc e))

abbrev text_of : List ℕ → List ℕ → ParameterText
text_of key value = record { key = key; value = value }

-- the parts of what a cut text begins
quoted_begun : (word key inside : List ℕ) (touches : Bool) (rest more : List TouchingItem) → word ≡ key ++ 61 ∷ [] → IsMissing 61 key → rest ≡ placed (quoted inside) true ∷ more → AreLowItems rest → Begun (placed (bare word) touches ∷ rest)
quoted_begun word key inside touches rest more parts lacks e low =
    let both : AreLowItems (placed (quoted inside) true ∷ more) = subst AreLowItems e low in
    record {
      text = text_of key inside;
      rest = more;
      begin = quoted_value touches lacks (ap (λ t. placed (bare t) touches ∷ rest) parts ∙ ap (λ l. placed (bare (key ++ 61 ∷ [])) touches ∷ l) e);
      less = omega (arith, ap length e);
      low = both.0;
      rest_low = both.1;
    }

bare_begun : (word key value : List ℕ) (touches : Bool) (rest : List TouchingItem) → IsCutFirst 61 word key value → (value ≡ [] → BeginWithTouchingQuote rest → ⊥) → AreOctets word → AreLowItems rest → Begun (placed (bare word) touches ∷ rest)
bare_begun word key value touches rest cut none word_low low =
    let behind : AreOctets (61 ∷ value) = AllByRecursion-back (λ c. c < 256) key (61 ∷ value) (subst AreOctets cut.parts word_low) in
    record {
      text = text_of key value;
      rest = rest;
      begin = bare_value touches cut.missing none (ap (λ t. placed (bare t) touches ∷ rest) cut.parts);
      less = omega arith;
      low = behind.1;
      rest_low = low;
    }

cut_begun : (word key value : List ℕ) (touches : Bool) (rest : List TouchingItem) → IsCutFirst 61 word key value → AreOctets word → AreLowItems rest → Decided (value ≡ []) → QuoteOrNot rest → Begun (placed (bare word) touches ∷ rest)
cut_begun word key value touches rest cut word_low low (inl empty) (inl quote) = quoted_begun word key quote.0 touches rest quote.1 (cut.parts ∙ ap (λ t. key ++ 61 ∷ t) empty) cut.missing quote.2 low
cut_begun word key value touches rest cut word_low low (inl empty) (inr none) = bare_begun word key value touches rest cut (λ e. none) word_low low
cut_begun word key value touches rest cut word_low low (inr some) quote = bare_begun word key value touches rest cut (λ e begins. some e) word_low low

word_begun : (word : List ℕ) (touches : Bool) (rest : List TouchingItem) → AreOctets word → AreLowItems rest → CutOrMissing 61 word → QuoteOrNot rest → Begun (placed (bare word) touches ∷ rest)
word_begun word touches rest word_low low (inl (key, (value, cut))) quote = cut_begun word key value touches rest cut word_low low (some_or_empty value) quote
word_begun word touches rest word_low low (inr missing) quote = record { text = text_of word []; rest = rest; begin = alone touches missing refl refl; less = omega arith; low = tt; rest_low = low }

begun_by : (item : RawItem) (touches : Bool) (rest : List TouchingItem) → AreOctets (item_text item) → AreLowItems rest → BegunOrNot (placed item touches ∷ rest)
begun_by (bare word) touches rest word_low low = inl (word_begun word touches rest word_low low (cut_or_missing 61 word) (quote_or_not rest))
begun_by (quoted inside) touches rest inside_low low = inr (quoted_first inside touches rest)

begun_or_not : (items : List TouchingItem) → AreLowItems items → BegunOrNot items
begun_or_not [] low = inr nothing_begins
begun_or_not (d ∷ items) low = begun_by d.item d.touches items low.0 low.1

-- ---- parameters in ascending order, each key once

-- each number is greater than the one before it
abbrev Strict : ℕ → List Sent → Type 0
Strict low [] = Unit {0}
Strict low (s ∷ parameters) = (low ≤ s.number) × Strict (suc s.number) parameters

record Orders (low : ℕ) (parameters : List Sent) : Type 0 where
  sorted : List Sent
  same : IsPermutation parameters sorted
  strict : Strict low sorted

put_by : (low : ℕ) (s t : Sent) (more : List Sent) → low ≤ s.number → Strict low (t ∷ more) → t.number ≢ s.number → (t.number < s.number) ⊎ (s.number ≤ t.number) → (suc t.number ≤ s.number → Orders (suc t.number) (s ∷ more)) → Orders low (s ∷ t ∷ more)
put_by low s t more least strict other (inr first) put = record { sorted = s ∷ t ∷ more; same = IsPermutation-refl (s ∷ t ∷ more); strict = (least, (omega (arith, other, first), strict.1)) }
put_by low s t more least strict other (inl later) put =
    let rest = put later in
    record {
      sorted = t ∷ rest.sorted;
      same = IsPermutation-trans (s ∷ t ∷ more) (t ∷ s ∷ more) (t ∷ rest.sorted) (IsPermutation-middle (s ∷ []) t more) (IsPermutation-cons t (s ∷ more) rest.sorted rest.same);
      strict = (strict.0, rest.strict);
    }

put_in : (low : ℕ) (s : Sent) (parameters : List Sent) → low ≤ s.number → Strict low parameters → AllByRecursion (λ (t : Sent). t.number ≢ s.number) parameters → Orders low (s ∷ parameters)
put_in low s [] least strict others = record { sorted = s ∷ []; same = IsPermutation-refl (s ∷ []); strict = (least, tt) }
put_in low s (t ∷ more) least strict others = put_by low s t more least strict others.0 (cases_lt t.number s.number) (λ later. put_in (suc t.number) s more later strict.1 others.1)

ordered : (stated : List Parameter) → AreOnce stated → Orders 0 (map sent stated)
ordered [] once = record { sorted = []; same = IsPermutation-refl []; strict = tt }
ordered (p ∷ stated) once =
    let rest = ordered stated once.1 in
    let others = move (λ (t : Sent). t.number ≢ p.number) (map sent stated) rest.sorted rest.same (new_others p.number stated once.0) in
    let put = put_in 0 (sent p) rest.sorted (omega arith) rest.strict others in
    record { sorted = put.sorted; same = IsPermutation-trans (map sent (p ∷ stated)) (sent p ∷ rest.sorted) put.sorted (IsPermutation-cons (sent p) (map sent stated) rest.sorted rest.same) put.same; strict = put.strict }

strict_above : (n : ℕ) (parameters : List Sent) → Strict (suc n) parameters → AscendAbove n (map (λ (s : Sent). s.number) parameters)
strict_above n [] strict = tt
strict_above n (s ∷ parameters) strict = (strict.0, strict_above s.number parameters strict.1)

strict_ascend : (parameters : List Sent) → Strict 0 parameters → Ascend parameters
strict_ascend [] strict = tt
strict_ascend (s ∷ parameters) strict = strict_above s.number parameters strict.1

-- ---- all parameters are read

there_by : (stated : List Parameter) (n : ℕ) → IsThere stated n ⊎ IsNew n stated → Decided (IsThere stated n)
there_by stated n (inl there) = inl there
there_by stated n (inr new) = inr (λ there. never_both n stated there new)

short_or_not : (s : Sent) → Decided (IsShort s)
short_or_not s = at_most_or_not (length s.octets) 65535

read_by : (items : List TouchingItem) (stated : List Parameter) → Precede items [] stated → Decided (AreComplete stated) → Decided (AllByRecursion IsShort (map sent stated)) → EitherIs (StatesParameters items) (FailsParameters items)
read_by items stated precede (inr missing) short = inr (MandatoryKeyMissing, missing_key stated precede missing)
read_by items stated precede (inl complete) (inr long) = inr (TooLong, long_value stated precede complete long)
read_by items stated precede (inl complete) (inl short) =
    let order = ordered stated precede.once in
    inl (
      flat_map sent_octets order.sorted,
      record {
        stated = stated;
        precede = precede;
        complete = complete;
        sorted = order.sorted;
        same = order.same;
        ascend = strict_ascend order.sorted order.strict;
        short = move IsShort (map sent stated) order.sorted order.same short;
        value = refl;
      },
    )

all_read : (items : List TouchingItem) (stated : List Parameter) → Precede items [] stated → EitherIs (StatesParameters items) (FailsParameters items)
all_read items stated precede = read_by items stated precede (each_or_not (IsThere stated) (λ n. there_by stated n (there_or_new n stated)) (all_required stated)) (each_or_not IsShort short_or_not (map sent stated))

-- ---- one after another

fails_at : (all items : List TouchingItem) (before : List Parameter) (b : Begun items) (fault : WordsFault) → Precede all items before → 0 < length items → FailsAfter before b.text fault → EitherIs (StatesParameters all) (FailsParameters all)
fails_at all items before b fault precede some fails = inr (fault, fails_by all items b.rest before b.text fault precede b.begin (λ other next begins. (begin_once items other b.text next b.rest begins b.begin).0) some fails)

-- what becomes of the items from a place on
abbrev After : List TouchingItem → List TouchingItem → Type 0
After all items = (before : List Parameter) → Precede all items before → EitherIs (StatesParameters all) (FailsParameters all)

stated_by : (all items : List TouchingItem) (before : List Parameter) (b : Begun items) (key : Key) → Precede all items before → 0 < length items → SpellsKey b.text.key key → IsNew (number_of key) before → EitherIs (StatesValue key b.text.value) (FailsValue key b.text.value) → After all b.rest → EitherIs (StatesParameters all) (FailsParameters all)
stated_by all items before b key precede some spells new (inr bad) after = fails_at all items before b bad.0 precede some (valueless key bad.0 spells new bad.1)
stated_by all items before b key precede some spells new (inl found) after =
    let required = required_by key b.text.value found.0 found.1 in
    let p : Parameter = record { number = number_of key; octets = found.0; required = required.0 } in
    let states : StatesParameter b.text p = record { key = key; spelt = spells; numbered = refl; value = found.1; requires_keys = required.1 } in
    after (before ++ p ∷ []) (record { each = each_more all items b.rest before b.text p precede.each b.begin states; once = once_more before p precede.once new })

key_by : (all items : List TouchingItem) (before : List Parameter) (b : Begun items) (key : Key) → Precede all items before → 0 < length items → SpellsKey b.text.key key → IsThere before (number_of key) ⊎ IsNew (number_of key) before → After all b.rest → EitherIs (StatesParameters all) (FailsParameters all)
key_by all items before b key precede some spells (inl there) after = fails_at all items before b RepeatedKey precede some (again key spells there)
key_by all items before b key precede some spells (inr new) after = stated_by all items before b key precede some spells new (value_decided key b.text.value b.low) after

begun_next : (all items : List TouchingItem) (before : List Parameter) (b : Begun items) → Precede all items before → 0 < length items → Choice (SpellsKey b.text.key) → After all b.rest → EitherIs (StatesParameters all) (FailsParameters all)
begun_next all items before b precede some (inr none) after = fails_at all items before b NotAKey precede some (keyless none)
begun_next all items before b precede some (inl key) after = key_by all items before b key.0 precede some key.1 (there_or_new (number_of key.0) before) after

next_by : (all items : List TouchingItem) (before : List Parameter) → Precede all items before → 0 < length items → BegunOrNot items → ((b : Begun items) → After all b.rest) → EitherIs (StatesParameters all) (FailsParameters all)
next_by all items before precede some (inr none) after = inr (NotAKey, no_key before items precede (record { some = some; none = λ text rest key begins spells. none text rest begins }))
next_by all items before precede some (inl b) after = begun_next all items before b precede some (key_or_not b.text.key) (after b)

from_place : (left : ℕ) (all items : List TouchingItem) → length items ≤ left → AreLowItems items → After all items
from_place left all [] few low before precede = all_read all before precede
from_place zero all (d ∷ items) few low before precede = absurd (omega arith)
from_place (suc left) all (d ∷ items) few low before precede = next_by all (d ∷ items) before precede (omega arith) (begun_or_not (d ∷ items) low) (λ b. from_place left all b.rest (let less = b.less in omega arith) b.rest_low)

pub parameters_decided : (items : List TouchingItem) → AreLowItems items → EitherIs (StatesParameters items) (FailsParameters items)
parameters_decided items low = from_place (length items) items items (omega arith) low [] (record { each = refl; once = tt })
