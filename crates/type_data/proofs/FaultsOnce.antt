-- Items that state no data have one fault, in one field.
use Rattle.type_data.proofs.Common.{AFieldFails, DataFails, Labels, List, NamedField, TouchingItem, WordsFault, [], at_field, inl, inr, items_after, items_left, own_items, refl, sym, too_long, ℕ, ◌∙◌, ◌∷◌, ◌≡◌}
use Rattle.type_data.proofs.DataLaws.{none_fails}
use Rattle.type_data.proofs.FieldLaws.{field_fault_once, field_or_fault}

-- what is told of a field
pub record OneFault (name other : List ℕ) (fault as_well : WordsFault) : Type 0 where
  pub field : name ≡ other
  pub fault_same : fault ≡ as_well

fails_once : (origin : Labels) (fields : List NamedField) (items : List TouchingItem) (name other : List ℕ) (fault as_well : WordsFault) → AFieldFails origin fields items name fault → AFieldFails origin fields items other as_well → OneFault name other fault as_well
fails_once origin [] items name other fault as_well p q = absurd p
fails_once origin (f ∷ fields) items name other fault as_well (inl p) (inl q) = record {
  field = p.1 ∙ sym q.1;
  fault_same = field_fault_once origin f.kind (own_items f.kind items) fault as_well p.0 q.0;
}
fails_once origin (f ∷ fields) items name other fault as_well (inl p) (inr q) = absurd (field_or_fault origin f.kind (own_items f.kind items) q.0 fault q.1 p.0)
fails_once origin (f ∷ fields) items name other fault as_well (inr p) (inl q) = absurd (field_or_fault origin f.kind (own_items f.kind items) p.0 as_well p.1 q.0)
fails_once origin (f ∷ fields) items name other fault as_well (inr p) (inr q) = fails_once origin fields (items_after f.kind items) name other fault as_well p.2 q.2

pub data_fault_once : (origin : Labels) (fields : List NamedField) (ordered : List (List ℕ) → List ℕ) (items : List TouchingItem) (name other : List ℕ) (fault as_well : WordsFault) → DataFails origin fields ordered items name fault → DataFails origin fields ordered items other as_well → OneFault name other fault as_well
data_fault_once origin fields ordered items name other fault as_well (at_field _ p) (at_field _ q) = fails_once origin fields items name other fault as_well p q
data_fault_once origin fields ordered items name other fault _ (at_field _ p) (items_left parts each left last) = absurd (none_fails origin fields items parts name fault each p)
data_fault_once origin fields ordered items name other fault _ (at_field _ p) (too_long parts each whole many last) = absurd (none_fails origin fields items parts name fault each p)
data_fault_once origin fields ordered items name other _ as_well (items_left parts each left last) (at_field _ q) = absurd (none_fails origin fields items parts other as_well each q)
data_fault_once origin fields ordered items name other _ _ (items_left parts each left last) (items_left parts_too each_too left_too last_too) = record { field = last ∙ sym last_too; fault_same = refl }
data_fault_once origin fields ordered items name other _ _ (items_left parts each left last) (too_long parts_too each_too whole many last_too) = absurd (left whole)
data_fault_once origin fields ordered items name other _ as_well (too_long parts each whole many last) (at_field _ q) = absurd (none_fails origin fields items parts other as_well each q)
data_fault_once origin fields ordered items name other _ _ (too_long parts each whole many last) (items_left parts_too each_too left last_too) = absurd (left whole)
data_fault_once origin fields ordered items name other _ _ (too_long parts each whole many last) (too_long parts_too each_too whole_too many_too last_too) = record { field = last ∙ sym last_too; fault_same = refl }
