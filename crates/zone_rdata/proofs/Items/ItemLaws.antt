-- Items state at most one value, or have at most one first fault, and one of the two.
use Rattle.zone_rdata.proofs.Common.{None, too_long, [], List, Option, Some, arith, inl, inr, length, refl, sym, ℕ, ◌∙◌, ◌∷◌, ◌≡◌, ◌≤◌, Labels, Fault, Field, FirstFieldFault, IsFaultFor, IsGenericDataFault, IsWordsFault, in_generic_form, malformed, no_value, opaque_words, unspelt, FieldValue, items_after, octets_of, StatesGeneric, RawItem, IsGeneric, layout, IsCanonicalOf, SpellEach, States, StatesFor, in_octets, in_words, subst, ◌<◌, ◌⊎◌, cases_lt, decode_of-ok, IsName, AllByRecursion-append, IsDataFault, own_items, GenericFault, JoinTo, bare, quoted, BadGeneric, BadRdata, RdataTooLong, bytes_each, Decided}
use Rattle.zone_rdata.proofs.Fields.AnyField.{field_fault_once, field_never, field_once, field_or_fault}
use Rattle.zone_rdata.proofs.Fields.FieldLaws.{NameFaultOnce, NamesNever, NamesOnce, mark, AreLow, AreLowItems, FieldChoice, NameOrFault}
use Rattle.zone_rdata.proofs.Items.GenericLaws.{generic_never_both, generic_once, generic_fault_once, generic_or_fault}
use Rattle.zone_rdata.proofs.Octets.Taken.{canonical_same, canonical_or_not}
use Rattle.zone_rdata.proofs.Words.OneWord.{same_or_not}
use Rattle.zone_rdata.specs.DataFault as faults

-- ---- items in words

each_once : NamesOnce → (origin : Labels) (row : List Field) (items : List RawItem) (vs ws : List FieldValue) → SpellEach origin row items vs → SpellEach origin row items ws → vs ≡ ws
each_once names origin (f ∷ row) items vs ws h k = grind (arith, field_once, each_once names origin row (items_after f items))
each_once names origin [] items vs ws h k = grind arith

first_never : NamesNever → (origin : Labels) (row : List Field) (items : List RawItem) (values : List FieldValue) (fault : Fault) → SpellEach origin row items values → FirstFieldFault origin row items fault → ⊥
first_never names origin (f ∷ row) items (v ∷ values) fault h bad = grind (arith, field_never, first_never names origin row (items_after f items) values fault h.1)
first_never names origin row items values fault h bad = grind arith

first_once : NamesNever → NameFaultOnce → (origin : Labels) (row : List Field) (items : List RawItem) (a b : Fault) → FirstFieldFault origin row items a → FirstFieldFault origin row items b → a ≡ b
first_once names once origin [] [] a b x y = absurd x
first_once names once origin [] (item ∷ items) a b x y = x ∙ sym y
first_once names once origin row items a b (inl x) y = grind (arith, field_fault_once, field_never)
first_once names once origin (f ∷ row) items a b (inr x) (inl y) = grind (arith, field_never)
first_once names once origin (f ∷ row) items a b (inr x) (inr y) = first_once names once origin row (items_after f items) a b x.2 y.2

words_never : NamesOnce → NamesNever → (origin : Labels) (row : List Field) (items : List RawItem) (values : List FieldValue) (fault : Fault) → SpellEach origin row items values → length (octets_of values) ≤ 65535 → IsWordsFault origin row items fault → ⊥
words_never once names origin row items values fault h short k = grind (arith, first_never, each_once)

words_fault_once : NamesNever → NameFaultOnce → (origin : Labels) (row : List Field) (items : List RawItem) (a b : Fault) → IsWordsFault origin row items a → IsWordsFault origin row items b → a ≡ b
words_fault_once names once origin row items _ _ (unspelt a x) (unspelt b y) = first_once names once origin row items a b x y
words_fault_once names once origin row items _ _ (unspelt a x) (too_long vs h over) = absurd (first_never names origin row items vs a h x)
words_fault_once names once origin row items _ _ (too_long vs h over) (unspelt b y) = absurd (first_never names origin row items vs b h y)
words_fault_once names once origin row items _ _ (too_long _ _ _) (too_long _ _ _) = refl

-- ---- items of a layout, in words or in the generic form

-- items in the generic form, and those that have a fault of it, begin with the mark
pub generic_marks : (items : List RawItem) (octets : List ℕ) → StatesGeneric items octets → IsGeneric items
generic_marks items octets s = (s.form.item ∷ s.digits, s.form.parts)

form_fault_marks : (laid : Option (List Field)) (items : List RawItem) (fault : Fault) → IsGenericDataFault laid items fault → IsGeneric items
form_fault_marks laid items fault h = grind arith

for_once : NamesOnce → (origin : Labels) (laid : Option (List Field)) (items : List RawItem) (a b : List ℕ) → ((stated a b : List ℕ) → IsCanonicalOf laid stated a → IsCanonicalOf laid stated b → a ≡ b) → StatesFor origin laid items a → StatesFor origin laid items b → a ≡ b
for_once names origin laid items a b once (in_words row vs e unmarked h is short) has = grind (arith, each_once, generic_marks)
for_once names origin laid items a b once (in_octets stated) (in_words row vs e unmarked h is short) = absurd (unmarked (generic_marks items stated.0 stated.1))
for_once names origin laid items a b once (in_octets h) (in_octets k) = grind (arith, generic_once items k.0 h.0 k.1 h.1, once h.0 a b h.2)

form_never : (laid : Option (List Field)) (items : List RawItem) (stated octets : List ℕ) (fault : Fault) → StatesGeneric items stated → IsCanonicalOf laid stated octets → IsGenericDataFault laid items fault → ⊥
form_never laid items stated octets _ form canonical (malformed fault bad) = generic_never_both items stated fault form bad
form_never laid items stated octets _ form canonical (no_value row stated' e form' none) = grind (arith, generic_once items stated stated' form form')

pub for_never : NamesOnce → NamesNever → (origin : Labels) (laid : Option (List Field)) (items : List RawItem) (octets : List ℕ) (fault : Fault) → StatesFor origin laid items octets → IsFaultFor origin laid items fault → ⊥
for_never once names origin laid items octets _ (in_words row vs e unmarked h is short) (in_generic_form fault bad) = unmarked (form_fault_marks laid items fault bad)
for_never once names origin laid items octets fault given (faults.in_words row' x e' unmarked2 bad) = grind (arith, words_never, generic_marks)
for_never once names origin laid items octets fault given (opaque_words e' unmarked2) = grind arith
for_never once names origin laid items octets _ (in_octets h) (in_generic_form fault bad) = form_never laid items h.0 octets fault h.1 h.2 bad

form_fault_once : (laid : Option (List Field)) (items : List RawItem) (a b : Fault) → IsGenericDataFault laid items a → IsGenericDataFault laid items b → a ≡ b
form_fault_once laid items _ _ (malformed fault bad) (malformed fault' bad') = generic_fault_once items fault fault' bad bad'
form_fault_once laid items _ _ (malformed fault bad) (no_value row stated e form none) = absurd (generic_never_both items stated fault form bad)
form_fault_once laid items _ _ (no_value row stated e form none) (malformed fault bad) = absurd (generic_never_both items stated fault form bad)
form_fault_once laid items _ _ (no_value row stated e form none) (no_value _ _ _ _ _) = refl

pub for_fault_once : NamesNever → NameFaultOnce → (origin : Labels) (laid : Option (List Field)) (items : List RawItem) (a b : Fault) → IsFaultFor origin laid items a → IsFaultFor origin laid items b → a ≡ b
for_fault_once names once origin laid items _ _ (in_generic_form fault bad) (in_generic_form fault' bad') = form_fault_once laid items fault fault' bad bad'
for_fault_once names once origin laid items _ _ (in_generic_form fault bad) (faults.in_words row fault' e unmarked bad') = absurd (unmarked (form_fault_marks laid items fault bad))
for_fault_once names once origin laid items _ _ (in_generic_form fault bad) (opaque_words e unmarked) = absurd (unmarked (form_fault_marks laid items fault bad))
for_fault_once names once origin laid items _ _ (faults.in_words row fault e unmarked bad) (in_generic_form fault' bad') = absurd (unmarked (form_fault_marks laid items fault' bad'))
for_fault_once names once origin laid items _ _ (faults.in_words row fault e unmarked bad) (faults.in_words row' fault' e' unmarked2 bad') = grind (arith, words_fault_once)
for_fault_once names once origin laid items _ _ (faults.in_words row fault e unmarked bad) (opaque_words e' unmarked2) = let clash : Some row ≡ None = sym e ∙ e' in cc
for_fault_once names once origin laid items _ _ (opaque_words e unmarked) (in_generic_form fault bad) = absurd (unmarked (form_fault_marks laid items fault bad))
for_fault_once names once origin laid items _ _ (opaque_words e unmarked) (faults.in_words row fault e' unmarked2 bad) = let clash : Some row ≡ None = sym e' ∙ e in cc
for_fault_once names once origin laid items _ _ (opaque_words e unmarked) (opaque_words _ _) = refl

-- ---- data of a class and type

pub data_once : NamesOnce → (origin : Labels) (class kind : ℕ) (items : List RawItem) (a b : List ℕ) → States origin class kind items a → States origin class kind items b → a ≡ b
data_once names origin class kind items a b x y = for_once names origin (layout class kind) items a b (λ stated v w. canonical_same class kind (layout class kind) stated v w refl) x.stated y.stated

-- ---- items state a value or have a first fault

-- ---- items in words
abbrev WordsChoice : List (List ℕ) → List Field → List RawItem → Type 0
WordsChoice origin row items = ((values : List FieldValue) × SpellEach origin row items values) ⊎ ((fault : Fault) × FirstFieldFault origin row items fault)

next_field : (origin : Labels) (f : Field) (row : List Field) (items : List RawItem) → FieldChoice origin f (own_items f items) → WordsChoice origin row (items_after f items) → WordsChoice origin (f ∷ row) items
next_field origin f row items (inr bad) rest = inr (bad.0, inl bad.1)
next_field origin f row items (inl found) (inl more) = inl (found.0 ∷ more.0, (found.1, more.1))
next_field origin f row items (inl found) (inr bad) = inr (bad.0, inr (found.0, found.1, bad.1))

words_by : NameOrFault → (origin : Labels) → IsName origin → (row : List Field) (items : List RawItem) → AreLowItems items → WordsChoice origin row items
words_by names origin is [] [] low = inl ([], tt)
words_by names origin is [] (item ∷ items) low = inr (BadRdata, refl)
words_by names origin is (f ∷ row) items low = next_field origin f row items (field_or_fault names origin is f items low) (words_by names origin is row (items_after f items) (grind arith))

-- ---- items of a layout, if there is one
abbrev Outcome : List (List ℕ) → Option (List Field) → List RawItem → Type 0
Outcome origin laid items = ((octets : List ℕ) × StatesFor origin laid items octets) ⊎ ((fault : Fault) × IsFaultFor origin laid items fault)

worded : (origin : Labels) (row : List Field) (items : List RawItem) → (IsGeneric items → ⊥) → WordsChoice origin row items → Outcome origin (Some row) items
worded origin row items unmarked (inr bad) = inr (bad.0, faults.in_words row bad.0 refl unmarked (unspelt bad.0 bad.1))
worded origin row items unmarked (inl found) = elim (cases_lt 65535 (length (octets_of found.0))) [
  | inl over ↦ inr (RdataTooLong, faults.in_words row RdataTooLong refl unmarked (too_long found.0 found.1 over))
  | inr short ↦ inl (octets_of found.0, in_words row found.0 refl unmarked found.1 refl short)
]

words_or_fault : NameOrFault → (origin : Labels) → IsName origin → (laid : Option (List Field)) (items : List RawItem) → AreLowItems items → (IsGeneric items → ⊥) → Outcome origin laid items
words_or_fault names origin is None items low unmarked = inr (BadGeneric, opaque_words refl unmarked)
words_or_fault names origin is (Some row) items low unmarked = worded origin row items unmarked (words_by names origin is row items low)

-- octets that hexadecimal digits stand for
pub joined_low : (items : List RawItem) (octets : List ℕ) → JoinTo items octets → AreLow octets
joined_low [] octets h = subst AreLow (sym h) tt
joined_low (bare text ∷ items) octets h = subst AreLow (sym h.3) (AllByRecursion-append (λ c. c < 256) h.0 h.1 (bytes_each h.0 (decode_of-ok text h.0 h.2).3) (joined_low items h.1 h.4))
joined_low (quoted text ∷ items) octets h = absurd h

form_by : (origin : Labels) (class kind : ℕ) (laid : Option (List Field)) (items : List RawItem) → layout class kind ≡ laid → ((octets : List ℕ) × StatesGeneric items octets) ⊎ ((fault : Fault) × GenericFault items fault) → Outcome origin laid items
form_by origin class kind laid items e (inr bad) = inr (bad.0, in_generic_form bad.0 (malformed bad.0 bad.1))
form_by origin class kind None items e (inl found) = grind arith
form_by origin class kind (Some row) items e (inl (stated, form)) = elim (canonical_or_not class kind row stated e (joined_low form.digits stated form.joined)) [
  | inl found ↦ inl (found.0, in_octets (stated, form, found.1))
  | inr none ↦ inr (BadRdata, in_generic_form BadRdata (no_value row stated refl form none))
]

-- the first item is the mark or not
pub marked_or_not : (items : List RawItem) → Decided (IsGeneric items)
marked_or_not (bare text ∷ rest) = grind (arith, same_or_not text mark)
marked_or_not items = inr (λ h. absurd (let e = h.1 in cc))

outcome_by : NameOrFault → (origin : Labels) → IsName origin → (class kind : ℕ) (items : List RawItem) → AreLowItems items → Decided (IsGeneric items) → Outcome origin (layout class kind) items
outcome_by names origin is class kind items low (inl marked) = form_by origin class kind (layout class kind) items refl (generic_or_fault items marked)
outcome_by names origin is class kind items low (inr unmarked) = words_or_fault names origin is (layout class kind) items low unmarked

-- ---- data of a class and type
pub data_or_fault : NameOrFault → (origin : Labels) (class kind : ℕ) (items : List RawItem) → IsName origin → AreLowItems items → ((octets : List ℕ) × States origin class kind items octets) ⊎ ((fault : Fault) × IsDataFault origin class kind items fault)
data_or_fault names origin class kind items is low = grind (arith, outcome_by names origin is class kind items low (marked_or_not items))
