-- A chunk that an element is put into, and its halves.
use Rattle.sorted_chunks.proofs.Common.{◌≡◌, ℕ, ◌+◌, ◌-◌, ◌<◌, ◌≤◌, List, ◌∷◌, length, take, drop, set, arith, rules, insert, take-append-drop, length-take-le, length-drop, All-append, All-cons, All-take, All-drop, All-set, AreChunks}
use Rattle.std.proofs.lemmas.List.Edits.{length-insert, insert-append_left, insert-append_right}
use Rattle.sorted_chunks.specs.Machine.Halves.{AreHalves}

module _ {X : Type 0} where
  pub insert_after_head : (x : X) (xs : List X) (i : ℕ) (v : X) → 0 < i → insert (x ∷ xs) i v ≡ x ∷ insert xs (i - 1) v
  insert_after_head x xs i v some = grind arith

  pub halves_lower : (c front upper lower : List X) (m j : ℕ) (v : X) → front ≡ take m c → upper ≡ drop m c → lower ≡ insert front j v → j ≤ m → 0 < m → m < length c → AreHalves lower upper c j v
  halves_lower c front upper lower m j v is_front is_upper is_lower le some lt = grind (arith, length-take-le, length-drop, length-insert, insert-append_left (take m c) (drop m c) j v, take-append-drop m c)

  pub halves_upper : (c lower back upper : List X) (m j : ℕ) (v : X) → lower ≡ take m c → back ≡ drop m c → upper ≡ insert back (j - m) v → m ≤ j → j ≤ length c → 0 < m → m < length c → AreHalves lower upper c j v
  halves_upper c lower back upper m j v is_lower is_back is_upper le within some lt = grind (arith, length-take-le, length-drop, length-insert, insert-append_right, take-append-drop)

  pub chunks_split : (cs : List (List X)) (i : ℕ) (lower upper : List X) → AreChunks cs → 0 < length lower → 0 < length upper → AreChunks (set (insert cs (i + 1) upper) i lower)
  chunks_split cs i lower upper all low up = search (rules, All-set, All-append, All-take, All-cons, All-drop)
