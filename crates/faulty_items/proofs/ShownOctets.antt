-- The octets of an item that are shown.
use Rattle.faulty_items.proofs.Common.{List, [], ap, arith, cases_lt, codes, inl, inr, length, min, sym, take, take_all, ℕ, ◌++◌, ◌∙◌, ◌∷◌, ◌≡◌, ◌≤◌}
use Rattle.std.specs.List.{flat_map}
use Rattle.faulty_items.specs.ShownItem.{shown_octet}

first_60 : (item : List ℕ) (n : ℕ) → n ≡ min (length item) 60 → take n item ≡ take 60 item
first_60 item n is = elim (cases_lt (length item) 60) [
  | inl few ↦ take_all n item (omega arith) ∙ sym (take_all 60 item (omega arith))
  | inr many ↦ let all : n ≡ 60 = omega arith in ap (λ k. take k item) all
]

pub shown_all : (item shown text new : List ℕ) (i n : ℕ) → shown ≡ take n item → n ≡ min (length item) 60 → length shown ≤ i → text ≡ codes ": \"" ++ flat_map shown_octet (take i shown) → new ≡ text ++ 34 ∷ [] → new ≡ 58 ∷ 32 ∷ 34 ∷ (flat_map shown_octet (take 60 item) ++ 34 ∷ [])
shown_all item shown text new i n front few past so_far pushed =
    let are : take i shown ≡ take 60 item = take_all i shown past ∙ front ∙ first_60 item n few in
    pushed ∙ ap (λ t. t ++ 34 ∷ []) (so_far ∙ ap (λ l. codes ": \"" ++ flat_map shown_octet l) are)
