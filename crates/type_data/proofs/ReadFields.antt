-- Data of several fields.
use Rattle.type_data.proofs.Common.{AFieldFails, AppendsStated, Bool, DataFails, DataItem, FailsField, IfDataFault, IfErr, IsErrAnd, Labels, List, NamedField, Result, Some, StatesField, TouchingItem, WordsFault, [], ap, append_assoc, arith, drop, drop-drop, drop-map, false, field_of, from_place, get_or, given, if◌then◌else◌, inl, inr, items_after, items_left, last_name, length, length-drop, length-map, map, min, nil_from_length, own_count, own_items, slice_get, subst, suc, sym, take, take-map, too_long, true, ℕ, ◌++◌, ◌+◌, ◌-◌, ◌<◌, ◌∙◌, ◌∷◌, ◌≡◌, ◌≢◌, ◌≤◌}
use Rattle.std.proofs.lemmas.Result.{err_from_is_err_and}
use Rattle.type_data.specs.Data.{joined}
use Rattle.type_data.specs.Machine.Fields.{AppendsParts, IsFieldFault, WholeFails}
use Rattle.type_data.specs.declared.data.DataFailing.{DataFailing}
use Rattle.type_data.specs.declared.field.Field.{Field}
use Rattle.type_data.specs.declared.field.FieldKind.{FieldKind}

-- fields before others were read: what the others state and where they fail is so of all
pub record HaveRead (origin : Labels) (fields others : List NamedField) (items left : List TouchingItem) (old now : List ℕ) : Type 0 where
  pub leads : (new : List ℕ) (rest : List TouchingItem) → AppendsParts origin others left rest now new → AppendsParts origin fields items rest old new
  pub fails : (name : List ℕ) (fault : WordsFault) → AFieldFails origin others left name fault → AFieldFails origin fields items name fault

one_read : (origin : Labels) (fields others : List NamedField) (f : NamedField) (items left : List TouchingItem) (old now new : List ℕ) → HaveRead origin fields (f ∷ others) items left old now → AppendsStated (StatesField origin f.kind (own_items f.kind left)) now new → HaveRead origin fields others items (items_after f.kind left) old new
one_read origin fields others f items left old now new have h = record {
  leads = λ last rest more. have.leads last rest (record {
    parts = h.octets ∷ more.parts;
    each = (h.stated, more.each);
    rest = more.rest;
    written = more.written ∙ ap (λ o. o ++ joined more.parts) h.written ∙ append_assoc now h.octets (joined more.parts);
  });
  fails = λ name fault bad. have.fails name fault (inr (h.octets, h.stated, bad));
}

own_slice : (kind : FieldKind) (items : List DataItem) (place : ℕ) → place ≤ length items → map given (take (own_count kind (length items - place)) (drop place items)) ≡ own_items kind (map given (drop place items))
own_slice kind items place inside =
    sym (take-map given (own_count kind (length items - place)) (drop place items))
    ∙ ap (λ n. take (own_count kind n) (map given (drop place items))) (sym (length-map (drop place items) given ∙ length-drop place items))

after_slice : (kind : FieldKind) (items : List DataItem) (place : ℕ) → place ≤ length items → map given (drop (place + own_count kind (length items - place)) items) ≡ items_after kind (map given (drop place items))
after_slice kind items place inside =
    ap (map given) (sym (drop-drop (own_count kind (length items - place)) place items))
    ∙ sym (drop-map given (own_count kind (length items - place)) (drop place items))
    ∙ ap (λ n. drop (own_count kind n) (map given (drop place items))) (sym (length-map (drop place items) given ∙ length-drop place items))

pub field_read : (origin : Labels) (fields : List Field) (i : ℕ) (f d : Field) (items : List DataItem) (place count next : ℕ) (own : List DataItem) (old now new : List ℕ) → i < length fields → f ≡ get_or fields i d → place ≤ length items → count ≡ own_count f.1 (length items - place) → next ≡ place + count → own ≡ take count (drop place items) → HaveRead origin (map field_of fields) (map field_of (drop i fields)) (map given items) (map given (drop place items)) old now → AppendsStated (StatesField origin f.1 (map given own)) now new → HaveRead origin (map field_of fields) (map field_of (drop (i + 1) fields)) (map given items) (map given (drop next items)) old new
field_read origin fields i f d items place count next own old now new lt is inside count_is next_is own_is have h =
    let left = map given (drop place items) in
    let mine : map given own ≡ own_items f.1 left = ap (map given) (own_is ∙ ap (λ n. take n (drop place items)) count_is) ∙ own_slice f.1 items place inside in
    let others : map given (drop next items) ≡ items_after f.1 left = ap (λ n. map given (drop n items)) (next_is ∙ ap (λ n. place + n) count_is) ∙ after_slice f.1 items place inside in
    subst (λ x. HaveRead origin (map field_of fields) (map field_of (drop (i + 1) fields)) (map given items) x old new) (sym others)
    (one_read origin (map field_of fields) (map field_of (drop (i + 1) fields)) (field_of f) (map given items) left old now new
    (subst (λ rest. HaveRead origin (map field_of fields) (map field_of rest) (map given items) left old now) (from_place fields i f d lt is) have)
    (subst (λ x. AppendsStated (StatesField origin f.1 x) now new) mine h))

pub field_fails : (origin : Labels) (fields : List Field) (i : ℕ) (f d : Field) (items : List DataItem) (place count : ℕ) (own : List DataItem) (old now name : List ℕ) (fault : WordsFault) → i < length fields → f ≡ get_or fields i d → place ≤ length items → count ≡ own_count f.1 (length items - place) → own ≡ take count (drop place items) → HaveRead origin (map field_of fields) (map field_of (drop i fields)) (map given items) (map given (drop place items)) old now → IsFieldFault origin (field_of f) (map given own) name fault → AFieldFails origin (map field_of fields) (map given items) name fault
field_fails origin fields i f d items place count own old now name fault lt is inside count_is own_is have h =
    let left = map given (drop place items) in
    let mine : map given own ≡ own_items f.1 left = ap (map given) (own_is ∙ ap (λ n. take n (drop place items)) count_is) ∙ own_slice f.1 items place inside in
    let here : HaveRead origin (map field_of fields) (field_of f ∷ map field_of (drop (i + 1) fields)) (map given items) left old now = subst (λ rest. HaveRead origin (map field_of fields) (map field_of rest) (map given items) left old now) (from_place fields i f d lt is) have in
    here.fails name fault (inl (subst (λ x. FailsField origin f.1 x fault) mine h.0, h.1))

-- the answer of a `?`
pub data_fault_passed : {T : Type 0} (r : Result T DataFailing) (e : DataFailing) (P Q : List ℕ → WordsFault → Type 0) → IsErrAnd r (λ y. y ≡ e) → ((name : List ℕ) (fault : WordsFault) → P name fault → Q name fault) → IfDataFault P e → IfErr r (IfDataFault Q)
data_fault_passed r e P Q is goes h = grind (arith, err_from_is_err_and)

-- the answer of a `match`
pub data_fault_answered : (e : DataFailing) (P Q : List ℕ → WordsFault → Type 0) → ((name : List ℕ) (fault : WordsFault) → P name fault → Q name fault) → IfDataFault P e → IfDataFault Q e
data_fault_answered e P Q goes h = grind arith

-- ---- what is left after the last field

some_left : (items : List TouchingItem) → 0 < length items → items ≢ []
some_left items some e = let none : length items ≡ 0 = ap length e in omega arith

pub whole_fails : (origin : Labels) (fields : List NamedField) (items left : List TouchingItem) (old octets name : List ℕ) (n m : ℕ) (fault : WordsFault) → old ≡ [] → n ≡ length left → m ≡ length octets → AppendsParts origin fields items left old octets → name ≡ last_name fields → WholeFails n m fault → DataFails origin fields joined items name fault
whole_fails origin fields items left old octets name n m fault empty count size h last (inl bad) =
    rw bad.0 (items_left h.parts h.each (λ none. some_left left (let some = bad.1 in omega arith) (h.rest ∙ none)) last)
whole_fails origin fields items left old octets name n m fault empty count size h last (inr bad) =
    rw bad.0 (too_long h.parts h.each (sym h.rest ∙ nil_from_length left (sym count ∙ bad.1)) (let same : length octets ≡ length (joined h.parts) = ap length (h.written ∙ ap (λ o. o ++ joined h.parts) empty) in let many = bad.2 in omega arith) last)

pub last_named : (fields : List Field) (f : Field) → Some f ≡ slice_get fields (length fields - 1) → f.0.now ≡ last_name (map field_of fields)
last_named [] f is = absurd cc
last_named (g ∷ []) f is = cc
last_named (g ∷ h ∷ fields) f is =
    let next : length (g ∷ h ∷ fields) - 1 ≡ suc (length (h ∷ fields) - 1) = omega arith in
    last_named (h ∷ fields) f (is ∙ ap (slice_get (g ∷ h ∷ fields)) next)

pub within : (one : Bool) (left count place all : ℕ) → count ≡ (if one then min 1 left else left) → place ≤ all → left ≡ all - place → place + count ≤ all
within true left count place all is inside left_is = omega arith
within false left count place all is inside left_is = omega arith
