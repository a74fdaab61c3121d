-- What stands about a place.
use Rattle.sorted_chunks.proofs.Common.{common_steps, get_or-append-add, get_or_append_left, length-append, ◌≡◌, ℕ, ◌+◌, ◌-◌, ◌<◌, ◌≤◌, List, [], ◌∷◌, ◌++◌, length, take, drop, get_or, ap, ◌∙◌, arith, ⊎_elim, append-nil, append_assoc, take-append-drop, drop_more, drop_all, take_all, take_more, get_or_past, get_or_default, All, after, before, joined}
use Rattle.std.proofs.lemmas.Bool.{cases_eq}
use Rattle.sorted_chunks.proofs.Placing.{joined_about}

module _ {X : Type 0} where
  -- the chunk at a place, as an index lends it
  pub lent : (cs inside : List (List X)) (i : ℕ) (c : List X) → inside ≡ cs → i < length inside → c ≡ get_or inside i c → c ≡ get_or cs i []
  lent cs inside i c same within is = is ∙ get_or_default inside i c [] within ∙ ap (λ l. get_or l i []) same

  -- what stands before a place and after it is the whole
  pub whole_at : (cs : List (List X)) (i j : ℕ) → i ≤ length cs → before cs (record { chunk = i; offset = j }) ++ after cs (record { chunk = i; offset = j }) ≡ joined cs
  whole_at cs i j le = ⊎_elim (λ past. grind (arith, get_or_past cs i [], drop_all (i + 1) cs, take_all i cs, append-nil)) (λ within. grind (arith, joined_about cs i, append_assoc (joined (take i cs)) (take j (get_or cs i [])), append_assoc (take j (get_or cs i [])) (drop j (get_or cs i [])), take-append-drop j (get_or cs i []))) (cases_eq i (length cs))

  -- a place after an element of a chunk is in that chunk
  pub filled_within : (cs : List (List X)) (i j : ℕ) → 0 < j → j ≤ length (get_or cs i []) → i < length cs
  filled_within cs i j some le = grind (arith, common_steps)

  -- the element before a place in a chunk
  pub last_in : (cs : List (List X)) (i j : ℕ) (x : X) → 0 < j → j ≤ length (get_or cs i []) → x ≡ get_or (get_or cs i []) (j - 1) x → (front : List X) × (before cs (record { chunk = i; offset = j }) ≡ front ++ x ∷ [])
  last_in cs i j x some le is = (joined (take i cs) ++ take (j - 1) (get_or cs i []), grind (arith, take_more (get_or cs i []) (j - 1) x, append_assoc))

  -- the beginning of a chunk is after the end of the one before it
  before_chunk : (cs : List (List X)) (i : ℕ) → 0 < i → i ≤ length cs → before cs (record { chunk = i; offset = 0 }) ≡ before cs (record { chunk = i - 1; offset = length (get_or cs (i - 1) []) })
  before_chunk cs i some le = grind (arith, common_steps)

  pub last_of_chunk : (cs : List (List X)) (i j : ℕ) (x : X) → j ≡ 0 → 0 < i → i ≤ length cs → 0 < length (get_or cs (i - 1) []) → x ≡ get_or (get_or cs (i - 1) []) (length (get_or cs (i - 1) []) - 1) x → (front : List X) × (before cs (record { chunk = i; offset = j }) ≡ front ++ x ∷ [])
  last_of_chunk cs i j x start some le filled is = grind (arith, last_in, before_chunk)

  -- the element after a place in a chunk
  pub first_in : (cs : List (List X)) (i j : ℕ) (x : X) → j < length (get_or cs i []) → x ≡ get_or (get_or cs i []) j x → (rest : List X) × (after cs (record { chunk = i; offset = j }) ≡ x ∷ rest)
  first_in cs i j x within is = (drop (j + 1) (get_or cs i []) ++ joined (drop (i + 1) cs), grind (arith, drop_more (get_or cs i []) j x))

  -- the end of a chunk is before the next one
  pub after_end : (cs : List (List X)) (i j : ℕ) → length (get_or cs i []) ≤ j → after cs (record { chunk = i; offset = j }) ≡ joined (drop (i + 1) cs)
  after_end cs i j end = ap (λ l. l ++ joined (drop (i + 1) cs)) (drop_all j (get_or cs i []) end)

  pub first_of_chunk : (cs : List (List X)) (i j : ℕ) (x : X) (more : List X) → length (get_or cs i []) ≤ j → i + 1 < length cs → x ∷ more ≡ get_or cs (i + 1) [] → (rest : List X) × (after cs (record { chunk = i; offset = j }) ≡ x ∷ rest)
  first_of_chunk cs i j x more end within is = grind (arith, after_end cs i j end, drop_more cs (i + 1) [] within)

  pub before_all : (cs : List (List X)) → before cs (record { chunk = length cs; offset = 0 }) ≡ joined cs
  before_all cs = append-nil (joined (take (length cs) cs)) ∙ ap joined (take_all (length cs) cs (omega arith))

  -- what holds of each element holds of each of each chunk
  pub each_chunk : (P : X → Type 0) (cs : List (List X)) → All P (joined cs) → All (λ c. All P c) cs
  each_chunk P cs all = λ i e lt k d within. grind (arith, all (length (joined (take i cs)) + k) d, joined_about cs i, get_or-append-add, get_or_append_left, get_or_default, length-append)

pub ruleset last_neighbours = (last_in, last_of_chunk, lent, filled_within)
