-- The items of a record's data, with and without whether they touch.
use Rattle.type_data.proofs.Common.{DataItem, Items, List, [], ap, given, map, raw_item, refl, subst, sym, ◌∷◌, ◌≡◌}
use Rattle.type_data.specs.DataItem.{items_of}

items_alone : (items : List DataItem) → items_of (map given items) ≡ map raw_item items
items_alone [] = refl
items_alone (item ∷ items) = ap (λ rest. raw_item item ∷ rest) (items_alone items)

-- what is said of the items, with and without whether they touch
pub of_items : (items : List DataItem) (P : Items → Type 0) → P (map raw_item items, map given items) → P (items_of (map given items), map given items)
of_items items P h = subst (λ alone. P (alone, map given items)) (sym (items_alone items)) h
