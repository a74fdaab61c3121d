-- Whether items of a field can go on, and the item at which they stop.
use Rattle.faulty_items.proofs.Common.{AreSoFar, Bor, CanGoOn, DataFails, DataItem, Field, IsOfWhatIsMissing, Labels, List, NamedField, None, Some, StopsAt, TouchingItem, WordsFault, [], ap, arith, at_end, at_item, cases_lt, continuations, field_of, get_or, given, inl, inr, joined, length, length-map, map, map-append, refl, slice_get, slice_index_or, subst, suc, sym, take, take-map, take_all, zero, ℕ, ◌++◌, ◌+◌, ◌<◌, ◌∙◌, ◌∷◌, ◌≡◌, ◌≤◌, ◌⊎◌}
use Rattle.type_data.proofs.DataLaws.{data_or_fault}
use Rattle.type_data.proofs.FaultsOnce.{data_fault_once}

-- items with which something is wrong that isn't missing
pub not_so_far : (origin : Labels) (f : NamedField) (fields : List NamedField) (items : List TouchingItem) (name : List ℕ) (fault : WordsFault) → DataFails origin fields joined items name fault → (IsOfWhatIsMissing fault → ⊥) → fields ≡ f ∷ [] → AreSoFar origin f items → ⊥
not_so_far origin f fields items name fault bad other one (inl states) =
    data_or_fault origin (f ∷ []) joined items states.0 name fault states.1 (subst (λ fs. DataFails origin fs joined items name fault) one bad)
not_so_far origin f fields items name fault bad other one (inr (field, (as_well, (fails, lacks)))) =
    let same = data_fault_once origin (f ∷ []) joined items name field fault as_well (subst (λ fs. DataFails origin fs joined items name fault) one bad) fails in
    other (subst IsOfWhatIsMissing (sym same.fault_same) lacks)

-- the element at a place, mapped
pub got : {X Y : Type 0} (f : X → Y) (xs : List X) (i : ℕ) (x d : X) → i < length xs → x ≡ get_or xs i d → slice_get (map f xs) i ≡ Some (f x)
got f [] i x d less is = absurd (omega arith)
got f (y ∷ xs) zero x d less is = ap (λ z. Some (f z)) (sym is)
got f (y ∷ xs) (suc i) x d less is = got f xs i x d (omega arith) is

pub within_got : {X : Type 0} (xs : List X) (i : ℕ) (x : X) → slice_get xs i ≡ Some x → i < length xs
within_got [] i x is = absurd cc
within_got (y ∷ xs) zero x is = omega arith
within_got (y ∷ xs) (suc i) x is = let less = within_got xs i x is in omega arith

index_got : {X : Type 0} (xs : List X) (i : ℕ) (x : X) → slice_get xs i ≡ Some x → slice_index_or xs i x ≡ x
index_got [] i x is = absurd cc
index_got (y ∷ xs) zero x is = cc is
index_got (y ∷ xs) (suc i) x is = index_got xs i x is

got_index : {X : Type 0} (xs : List X) (i : ℕ) (x : X) → i < length xs → slice_index_or xs i x ≡ x → slice_get xs i ≡ Some x
got_index [] i x less is = absurd (omega arith)
got_index (y ∷ xs) zero x less is = ap Some is
got_index (y ∷ xs) (suc i) x less is = got_index xs i x (omega arith) is

-- none of the first continuations makes data of the items
pub record NoneSoFar (origin : Labels) (f : NamedField) (items : List TouchingItem) (i : ℕ) : Type 0 where
  pub each : (k : ℕ) (more : List TouchingItem) → k < i → slice_get (continuations f.kind) k ≡ Some more → AreSoFar origin f (items ++ more) → ⊥

pub none_yet : (origin : Labels) (f : NamedField) (items : List TouchingItem) → NoneSoFar origin f items 0
none_yet origin f items = record { each = λ k more less is far. absurd (omega arith) }

-- a continuation is put after the items
pub record IsPut (f : NamedField) (items : List DataItem) (i : ℕ) (more both : List DataItem) : Type 0 where
  pub there : slice_get (continuations f.kind) i ≡ Some (map given more)
  pub joined_are : map given both ≡ map given items ++ map given more

pub is_put : (f : NamedField) (fields : List Field) (dummy : Field) (items : List DataItem) (i : ℕ) (more d : Bor (List DataItem)) (cleared first both : List DataItem) (all : List (Bor (List DataItem))) → map field_of fields ≡ f ∷ [] → map (λ (m : Bor (List DataItem)). map given m.now) all ≡ continuations (get_or fields 0 dummy).1 → i < length all → more ≡ get_or all i d → cleared ≡ [] → first ≡ cleared ++ items → both ≡ first ++ more.now → IsPut f items i more.now both
is_put f [] dummy items i more d cleared first both all one known less is none put last = absurd cc
is_put f (g ∷ fields) dummy items i more d cleared first both all one known less is none put last =
    let same : field_of g ≡ f = cc one in
    record {
      there = subst (λ (k : NamedField). slice_get (continuations k.kind) i ≡ Some (map given more.now)) same (subst (λ l. slice_get l i ≡ Some (map given more.now)) known (got (λ (m : Bor (List DataItem)). map given m.now) all i more d less is));
      joined_are = ap (map given) (last ∙ ap (λ x. x ++ more.now) (put ∙ ap (λ x. x ++ items) none)) ∙ map-append given items more.now;
    }

-- neither does one more
pub none_more : (origin : Labels) (f : NamedField) (items : List DataItem) (i : ℕ) (more both : List DataItem) → IsPut f items i more both → (AreSoFar origin f (map given both) → ⊥) → NoneSoFar origin f (map given items) i → NoneSoFar origin f (map given items) (i + 1)
none_more origin f items i more both put bad none = record {
  each = λ k other within there far. elim (cases_lt k i) [
    | inl before ↦ none.each k other before there far
    | inr past ↦
        let here : k ≡ i = omega arith in
        let this : Some other ≡ Some (map given more) = sym there ∙ ap (slice_get (continuations f.kind)) here ∙ put.there in
        let same : other ≡ map given more = cc this in
        bad (subst (AreSoFar origin f) (ap (λ l. map given items ++ l) same ∙ sym put.joined_are) far)
  ];
}

pub none_goes_on : (origin : Labels) (f : NamedField) (fields : List Field) (dummy : Field) (items : List TouchingItem) (i : ℕ) (all : List (Bor (List DataItem))) → map field_of fields ≡ f ∷ [] → map (λ (m : Bor (List DataItem)). map given m.now) all ≡ continuations (get_or fields 0 dummy).1 → length all ≤ i → NoneSoFar origin f items i → CanGoOn origin f items → ⊥
none_goes_on origin f [] dummy items i all one known past none on = absurd cc
none_goes_on origin f (g ∷ fields) dummy items i all one known past none on =
    let same : field_of g ≡ f = cc one in
    let count : length (continuations f.kind) ≡ length all = ap (λ (k : NamedField). length (continuations k.kind)) (sym same) ∙ ap length (sym known) ∙ length-map all (λ (m : Bor (List DataItem)). map given m.now) in
    none.each on.0 on.1 (let less = on.2 in omega arith) (got_index (continuations f.kind) on.0 on.1 on.2 on.3) on.4

pub one_goes_on : (origin : Labels) (f : NamedField) (items : List DataItem) (i : ℕ) (more both : List DataItem) → IsPut f items i more both → AreSoFar origin f (map given both) → CanGoOn origin f (map given items)
one_goes_on origin f items i more both put far =
    (i, map given more, within_got (continuations f.kind) i (map given more) put.there, index_got (continuations f.kind) i (map given more) put.there, subst (AreSoFar origin f) put.joined_are far)

-- ---- the item at which they stop

pub stops_there : (origin : Labels) (f : NamedField) (own : List DataItem) (low high : ℕ) (item d : DataItem) → low < high → high ≤ low + 1 → high ≤ length own → item ≡ get_or own low d → (low ≡ 0) ⊎ CanGoOn origin f (take low (map given own)) → (CanGoOn origin f (take high (map given own)) → ⊥) → StopsAt (CanGoOn origin f) (map given own) (Some (given item))
stops_there origin f own low high item d less near within is before with_it =
    let next : high ≡ suc low = omega arith in
    at_item low (given item) (got given own low item d (omega arith) is) before
    (subst (λ n. CanGoOn origin f (take n (map given own)) → ⊥) next with_it)

pub at_none : (origin : Labels) (f : NamedField) (own : List DataItem) → length own ≡ 0 → StopsAt (CanGoOn origin f) (map given own) None
at_none origin f [] none = at_end (inl refl)
at_none origin f (item ∷ own) none = absurd (omega arith)

pub all_go_on : (origin : Labels) (f : NamedField) (own : List DataItem) → CanGoOn origin f (map given own) → StopsAt (CanGoOn origin f) (map given own) None
all_go_on origin f own on = at_end (inr on)

pub all_stop : (origin : Labels) (f : NamedField) (own : List DataItem) → (CanGoOn origin f (map given own) → ⊥) → CanGoOn origin f (take (length own) (map given own)) → ⊥
all_stop origin f own none on = none (subst (CanGoOn origin f) (take_all (length own) (map given own) (omega (arith, length-map own given))) on)

-- the first items by themselves are the first of all
pub first_go : (origin : Labels) (f : NamedField) (own first : List DataItem) (n : ℕ) → first ≡ take n own → CanGoOn origin f (map given first) → CanGoOn origin f (take n (map given own))
first_go origin f own first n are on = subst (CanGoOn origin f) (ap (map given) are ∙ sym (take-map given n own)) on

pub first_stop : (origin : Labels) (f : NamedField) (own first : List DataItem) (n : ℕ) → first ≡ take n own → (CanGoOn origin f (map given first) → ⊥) → CanGoOn origin f (take n (map given own)) → ⊥
first_stop origin f own first n are none on = none (subst (CanGoOn origin f) (take-map given n own ∙ ap (map given) (sym are)) on)
