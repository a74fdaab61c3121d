-- What the whole list is after a chunk is set, split or appended.
use Rattle.sorted_chunks.proofs.Common.{common_steps, ◌≡◌, ℕ, ◌+◌, ◌<◌, List, [], ◌∷◌, ◌++◌, length, take, drop, set, get_or, sym, ap, ◌∙◌, arith, append_assoc, take-append-drop, drop_more, set_split, drop_at, length-take-le, insert, after, before, joined, IsPlace}
use Rattle.std.proofs.lemmas.List.Concat.{flat_map-append}

module _ {X : Type 0} where
  pub joined-append : (a b : List (List X)) → joined (a ++ b) ≡ joined a ++ joined b
  joined-append a b = flat_map-append (λ c. c) a b

  -- the whole list, about a chunk
  pub joined_about : (cs : List (List X)) (i : ℕ) → i < length cs → joined cs ≡ joined (take i cs) ++ (get_or cs i [] ++ joined (drop (i + 1) cs))
  joined_about cs i le = cc (take-append-drop i cs, joined-append (take i cs) (drop i cs), drop_more cs i [] le)

  pub joined-set : (cs : List (List X)) (i : ℕ) (c : List X) → i < length cs → joined (set cs i c) ≡ joined (take i cs) ++ (c ++ joined (drop (i + 1) cs))
  joined-set cs i c le = grind (arith, set_split, joined-append)

  -- an element between what stands before it and what stands after it, in two groupings
  regroup : (a b c d : List X) (v : X) → a ++ ((b ++ v ∷ c) ++ d) ≡ (a ++ b) ++ v ∷ (c ++ d)
  regroup a b c d v = ap (λ l. a ++ l) (append_assoc b (v ∷ c) d) ∙ sym (append_assoc a b (v ∷ (c ++ d)))

  pub joined_put : (cs : List (List X)) (i j : ℕ) (v : X) → i < length cs → joined (set cs i (insert (get_or cs i []) j v)) ≡ before cs (record { chunk = i; offset = j }) ++ v ∷ after cs (record { chunk = i; offset = j })
  joined_put cs i j v le = simp (joined-set, regroup)

  take-insert_next : (cs : List (List X)) (i : ℕ) (u : List X) → i < length cs → take i (insert cs (i + 1) u) ≡ take i cs
  take-insert_next cs i u le = grind (arith, common_steps)

  drop-insert_next : (cs : List (List X)) (i : ℕ) (u : List X) → i < length cs → drop (i + 1) (insert cs (i + 1) u) ≡ u ∷ drop (i + 1) cs
  drop-insert_next cs i u le = drop_at (take (i + 1) cs) (u ∷ drop (i + 1) cs) (i + 1) (length-take-le (i + 1) cs (omega arith))

  length-insert_next : (cs : List (List X)) (i : ℕ) (u : List X) → i < length cs → i < length (insert cs (i + 1) u)
  length-insert_next cs i u le = grind (arith, common_steps)

  pub joined_split : (cs : List (List X)) (i j : ℕ) (v : X) (lower upper : List X) → i < length cs → lower ++ upper ≡ insert (get_or cs i []) j v → joined (set (insert cs (i + 1) upper) i lower) ≡ before cs (record { chunk = i; offset = j }) ++ v ∷ after cs (record { chunk = i; offset = j })
  joined_split cs i j v lower upper le halves = grind (arith, joined-set, length-insert_next, take-insert_next, drop-insert_next, append_assoc, regroup)

  -- an element at the place after all chunks
  pub joined_past : (cs : List (List X)) (i j : ℕ) (v : X) → i ≡ length cs → IsPlace cs (record { chunk = i; offset = j }) → joined (cs ++ (v ∷ []) ∷ []) ≡ before cs (record { chunk = i; offset = j }) ++ v ∷ after cs (record { chunk = i; offset = j })
  joined_past cs i j v at place = grind (arith, common_steps)

  -- an element at the end of the last chunk
  pub joined_last : (cs : List (List X)) (i j : ℕ) (v : X) → i + 1 ≡ length cs → j ≡ length (get_or cs i []) → joined (cs ++ (v ∷ []) ∷ []) ≡ before cs (record { chunk = i; offset = j }) ++ v ∷ after cs (record { chunk = i; offset = j })
  joined_last cs i j v at end = grind (arith, common_steps)
