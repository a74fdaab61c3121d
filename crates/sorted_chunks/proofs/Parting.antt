-- Where the elements that pass a test end, from where they end among the first elements of the chunks and in one chunk.
use Rattle.sorted_chunks.proofs.Common.{◌≡◌, ℕ, ◌+◌, ◌<◌, ◌≤◌, Bool, true, false, List, [], ◌∷◌, ◌++◌, length, take, drop, get_or, suc, sym, ap, ◌∙◌, refl, arith, All, AllWithin, IsPartitionedBy, append_assoc, get_or-append-add, get_or_append_left, get_or-drop, get_or-take, length-append, length-drop, length-take, length-take-le, get_or_at, get_or_default, All-append, All-cons, All-head, All-nil, after, before, joined, AreChunks, IsParting, SplitsAt, starts}
use Rattle.sorted_chunks.proofs.Placing.{joined_about}
use Rattle.sorted_chunks.proofs.Neighbours.{each_chunk}

module _ {X : Type 0} (p : X → Bool) where
  part_of : (a b c xs : List X) → xs ≡ a ++ (b ++ c) → IsPartitionedBy p xs → IsPartitionedBy p b
  part_of a b c xs is parts = λ i j d le lt passes. grind (arith, parts (length a + i) (length a + j) d, get_or-append-add, get_or_append_left, length-append)

  -- what stands before an element that passes
  passes_before : (a z : List X) (x : X) → IsPartitionedBy p (a ++ x ∷ z) → p x ≡ true → All (λ y. p y ≡ true) a
  passes_before a z x parts passes = λ k d lt. grind (arith, parts k (length a) d, length-append, get_or_at, get_or_append_left)

  -- how far a binary search has come: what passes is before `low`, and what fails from `high` on
  pub record IsNarrowed (xs : List X) (low high : ℕ) : Type 0 where
    pub parts : IsPartitionedBy p xs → AllWithin (λ y. p y ≡ true) xs 0 low × AllWithin (λ y. p y ≡ false) xs high (length xs)

  -- an element that passes tells of those before it, and one that fails of those after it
  pub narrowed_up : (xs : List X) (low high m : ℕ) (x : X) → IsNarrowed xs low high → m < length xs → x ≡ get_or xs m x → p x ≡ true → IsNarrowed xs (m + 1) high
  narrowed_up xs low high m x had within is passes = record { parts = λ parted. ((λ k d low lt. grind (arith, parted k m d, get_or_default xs m d x)), (had.parts parted).1) }

  pub narrowed_down : (xs : List X) (low high m : ℕ) (x : X) → IsNarrowed xs low high → m < length xs → x ≡ get_or xs m x → p x ≡ false → IsNarrowed xs low m
  narrowed_down xs low high m x had within is fails = record { parts = λ parted. ((had.parts parted).0, (λ k d low lt. grind (arith, parted m k d, get_or_default xs m d x))) }

  pub split_all : (xs : List X) (n : ℕ) → SplitsAt p xs n → IsPartitionedBy p xs → All (λ y. p y ≡ true) (take n xs) × All (λ y. p y ≡ false) (drop n xs)
  split_all xs n splits parts = (
    λ k d lt. grind (arith, (splits parts).0 k d, get_or-take, length-take),
    λ k d lt. grind (arith, (splits parts).1 (n + k) d, get_or-drop, length-drop),
  )

module _ {X : Type 0} (p : X → Bool) where
  -- what stands before a chunk whose first element passes
  passes_before_chunk : (a c z : List X) → 0 < length c → IsPartitionedBy p (a ++ (c ++ z)) → starts p c ≡ true → All (λ y. p y ≡ true) a
  passes_before_chunk a [] z some parts passes = absurd (omega arith)
  passes_before_chunk a (x ∷ c) z some parts passes = passes_before p a (c ++ z) x parts passes

  first_passes : (c : List X) → All (λ y. p y ≡ true) c → starts p c ≡ true
  first_passes [] all = refl
  first_passes (x ∷ c) all = All-head (λ y. p y ≡ true) x c all

  -- the chunks by their first elements
  chunks_parted : (cs : List (List X)) → AreChunks cs → IsPartitionedBy p (joined cs) → IsPartitionedBy (starts p) cs
  chunks_parted cs all parts = λ i j d le lt passes.
      let filled = all j [] lt in
      let parts_about = rw (joined_about cs j lt) at parts in
      let early = each_chunk (λ y. p y ≡ true) (take j cs) (passes_before_chunk (joined (take j cs)) (get_or cs j []) (joined (drop (j + 1) cs)) filled parts_about (ap (starts p) (get_or_default cs j [] d lt) ∙ passes)) in
      grind (arith, first_passes (get_or cs i d), early i d, get_or-take, length-take-le)

  -- all elements of chunks whose first elements fail
  fails_joined : (a : List X) (ds : List (List X)) → IsPartitionedBy p (a ++ joined ds) → All (λ c. starts p c ≡ false) ds → All (λ y. p y ≡ false) (joined ds)
  fails_joined a [] parts fails = All-nil (λ y. p y ≡ false)
  fails_joined a ([] ∷ ds) parts fails = grind (arith, All-head (λ c. starts p c ≡ false) [] ds fails)
  fails_joined a ((x ∷ c) ∷ ds) parts fails = λ k d lt. grind (arith, parts (length a) (length a + k) d, fails 0 [], get_or-append-add a (x ∷ (c ++ joined ds)) 0 d, get_or-append-add a (x ∷ (c ++ joined ds)) k d, length-append a (x ∷ (c ++ joined ds)))

  -- no chunk's first element passes, so none does
  pub parts_none : (cs : List (List X)) (passed : ℕ) → AreChunks cs → passed ≡ 0 → SplitsAt (starts p) cs passed → IsParting p (joined cs) (before cs (record { chunk = 0; offset = 0 })) (after cs (record { chunk = 0; offset = 0 }))
  parts_none cs passed all none splits parts = grind (arith, chunks_parted cs all parts)

  -- the last chunk whose first element passes, and where the elements after that which pass end in it
  pub parts_in : (cs : List (List X)) (i : ℕ) (x : X) (rest : List X) (passed k : ℕ) → AreChunks cs → x ∷ rest ≡ get_or cs i [] → i < length cs → passed ≡ i + 1 → SplitsAt (starts p) cs passed → k ≤ length rest → SplitsAt p rest k
      → IsParting p (joined cs) (before cs (record { chunk = i; offset = k + 1 })) (after cs (record { chunk = i; offset = k + 1 }))
  parts_in cs i x rest passed k all chunk within is splits le splits_rest parts =
      let front = joined (take i cs) in
      let back = joined (drop (i + 1) cs) in
      let about : joined cs ≡ front ++ (x ∷ (rest ++ back)) = joined_about cs i within ∙ ap (λ c. front ++ (c ++ back)) (sym chunk) in
      let chunks = split_all (starts p) cs passed splits (chunks_parted cs all parts) in
      let own = split_all p rest k splits_rest (part_of p (front ++ x ∷ []) rest back (joined cs) (about ∙ sym (append_assoc front (x ∷ []) (rest ++ back))) parts) in
      let first : p x ≡ true = grind (arith, chunks.0 i [], get_or-take, length-take-le) in
      let next : k + 1 ≡ suc k = omega arith in
      rw (← chunk, next) (
        All-append (λ y. p y ≡ true) front (x ∷ take k rest) (passes_before p front (rest ++ back) x (rw about at parts) first) (All-cons (λ y. p y ≡ true) x (take k rest) first own.0),
        All-append (λ y. p y ≡ false) (drop k rest) back own.1 (fails_joined (front ++ x ∷ rest) (drop (i + 1) cs) (grind (arith, about, append_assoc)) (rw is at chunks.1)),
      )
