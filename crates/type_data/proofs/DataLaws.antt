-- Items state one list of octets at most as data, and none where something is wrong with them.
use Rattle.type_data.proofs.Common.{AFieldFails, DataFails, Labels, List, NamedField, StateParts, StatesData, TouchingItem, WordsFault, [], ap, arith, at_field, inl, inr, items_after, items_left, length, own_items, refl, sym, too_long, ℕ, ◌∙◌, ◌∷◌, ◌≡◌}
use Rattle.type_data.proofs.FieldLaws.{field_once, field_or_fault}

parts_once : (origin : Labels) (fields : List NamedField) (items : List TouchingItem) (a b : List (List ℕ)) → StateParts origin fields items a → StateParts origin fields items b → a ≡ b
parts_once origin [] items [] [] p q = refl
parts_once origin [] items (x ∷ a) b p q = absurd p
parts_once origin [] items [] (y ∷ b) p q = absurd q
parts_once origin (f ∷ fields) items [] b p q = absurd p
parts_once origin (f ∷ fields) items (x ∷ a) [] p q = absurd q
parts_once origin (f ∷ fields) items (x ∷ a) (y ∷ b) p q = cc (field_once origin f.kind (own_items f.kind items) x y p.0 q.0, parts_once origin fields (items_after f.kind items) a b p.1 q.1)

-- the same data
pub data_once : (origin : Labels) (fields : List NamedField) (ordered : List (List ℕ) → List ℕ) (items : List TouchingItem) (a b : List ℕ) → StatesData origin fields ordered items a → StatesData origin fields ordered items b → a ≡ b
data_once origin fields ordered items a b p q = p.value ∙ ap ordered (parts_once origin fields items p.parts q.parts p.each q.each) ∙ sym q.value

pub none_fails : (origin : Labels) (fields : List NamedField) (items : List TouchingItem) (parts : List (List ℕ)) (name : List ℕ) (fault : WordsFault) → StateParts origin fields items parts → AFieldFails origin fields items name fault → ⊥
none_fails origin [] items parts name fault p q = q
none_fails origin (f ∷ fields) items [] name fault p q = p
none_fails origin (f ∷ fields) items (x ∷ parts) name fault p (inl bad) = field_or_fault origin f.kind (own_items f.kind items) x fault p.0 bad.0
none_fails origin (f ∷ fields) items (x ∷ parts) name fault p (inr later) = none_fails origin fields (items_after f.kind items) parts name fault p.1 later.2

-- data, or what is wrong
pub data_or_fault : (origin : Labels) (fields : List NamedField) (ordered : List (List ℕ) → List ℕ) (items : List TouchingItem) (octets name : List ℕ) (fault : WordsFault) → StatesData origin fields ordered items octets → DataFails origin fields ordered items name fault → ⊥
data_or_fault origin fields ordered items octets name fault p (at_field f bad) = none_fails origin fields items p.parts name fault p.each bad
data_or_fault origin fields ordered items octets name fault p (items_left parts each left last) = left p.whole
data_or_fault origin fields ordered items octets name fault p (too_long parts each whole many last) =
    let same : octets ≡ ordered parts = p.value ∙ ap ordered (parts_once origin fields items p.parts parts p.each each) in
    let len : length octets ≡ length (ordered parts) = ap length same in
    let short = p.short in
    omega arith
