-- The types whose fields depend on octets or on items before them: which fields they are.
use Rattle.zone_rdata.specs.Spelling.{RawItem, bare, quoted}
use Rattle.type_data.proofs.Common.{Labels, List, StatesBare, StatesField, TouchingItem, [], ap, arith, drop, false, items_after, length, min, own_items, refl, subst, sym, take, text_meaning, ℕ, ◌++◌, ◌∙◌, ◌∷◌, ◌≡◌}
use Rattle.type_data.specs.Parameters.Text.{placed}
use Rattle.type_data.specs.PrintedData.{PrintsBare, PrintsField, apart}
use Rattle.type_data.specs.declared.field.BareKind.{BareKind}
use Rattle.type_data.specs.declared.field.FieldKind.TheVariants.{Bare}

-- ---- a bare field at the front

-- the first item is printed for the first part
pub record OnePrinted (kind : BareKind) (items rest : List TouchingItem) (part : List ℕ) : Type 0 where
  pub text : List ℕ
  pub printed : PrintsBare kind text part
  pub are : items ≡ placed (bare text) false ∷ rest

pub one_printed : (kind : BareKind) (own rest items : List TouchingItem) (part : List ℕ) → items ≡ own ++ rest → PrintsField (Bare kind) own part → OnePrinted kind items rest part
one_printed kind own rest items part whole p = record {
  text = p.printed.0;
  printed = p.printed.1;
  are = whole ∙ ap (λ o. o ++ rest) (p.are_apart ∙ ap apart p.printed.2);
}

-- the first item states the first part
pub record OneStated (origin : Labels) (kind : BareKind) (items rest : List TouchingItem) (part : List ℕ) : Type 0 where
  pub text : List ℕ
  pub first : TouchingItem
  pub stated : (text_meaning origin kind).States text part
  pub is : first.item ≡ bare text
  pub are : items ≡ first ∷ rest

one_of : (origin : Labels) (kind : BareKind) (item : RawItem) (d : TouchingItem) (items : List TouchingItem) (part : List ℕ) → d.item ≡ item → StatesBare origin kind item part → OneStated origin kind (d ∷ items) items part
one_of origin kind (quoted text) d items part is p = absurd p
one_of origin kind (bare text) d items part is p = record { text = text; first = d; stated = p; is = is; are = refl }

one_at_most : (d : TouchingItem) (items : List TouchingItem) → min 1 (length (d ∷ items)) ≡ 1
one_at_most d items = omega arith

pub one_stated : (origin : Labels) (kind : BareKind) (items : List TouchingItem) (part : List ℕ) → StatesField origin (Bare kind) (own_items (Bare kind) items) part → OneStated origin kind items (items_after (Bare kind) items) part
one_stated origin kind [] part p = absurd p
one_stated origin kind (d ∷ items) part p =
    let own : own_items (Bare kind) (d ∷ items) ≡ d ∷ [] = ap (λ k. take k (d ∷ items)) (one_at_most d items) in
    let after : items_after (Bare kind) (d ∷ items) ≡ items = ap (λ k. drop k (d ∷ items)) (one_at_most d items) in
    let q : StatesBare origin kind d.item part = subst (λ is. StatesField origin (Bare kind) is part) own p in
    subst (λ rest. OneStated origin kind (d ∷ items) rest part) (sym after) (one_of origin kind d.item d items part refl q)
