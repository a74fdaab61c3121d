-- A list that is kept in chunks, and the places in it.
use Rattle.std.specs.Prelude.{◌≡◌, ℕ, ◌+◌, ◌<◌, ◌≤◌, Bool, true, false, List, [], ◌++◌, length, take, drop, flat_map, slice_index_or}
use Rattle.std.specs.List.{All}
use Rattle.std.specs.List.Sorted.{IsPartitionedBy}
use Rattle.sorted_chunks.specs.declared.position.Position.{Position}

-- the whole list
abbrev pub joined : {X : Type 0} → List (List X) → List X
joined chunks = flat_map (λ chunk. chunk) chunks

-- what stands before a place: the chunks before its own, and the elements of its own before it
abbrev pub before : {X : Type 0} → List (List X) → Position → List X
before chunks p = joined (take p.chunk chunks) ++ take p.offset (slice_index_or chunks p.chunk [])

-- what stands from a place on
abbrev pub after : {X : Type 0} → List (List X) → Position → List X
after chunks p = drop p.offset (slice_index_or chunks p.chunk [])
    ++ joined (drop (p.chunk + 1) chunks)

-- a place in a chunk or at its end, or the place after all chunks
abbrev pub IsPlace : {X : Type 0} → List (List X) → Position → Type 0
IsPlace chunks p = (p.chunk ≤ length chunks)
    × (p.offset ≤ length (slice_index_or chunks p.chunk []))

-- where the elements of a list that pass a test stand first, they are before a place, and none of
-- them after it
abbrev pub IsParting : {X : Type 0} → (X → Bool) → List X → List X → List X → Type 0
IsParting p whole before after = IsPartitionedBy p whole
    → All (λ x. p x ≡ true) before × All (λ x. p x ≡ false) after

-- no chunk is empty; how long one may be isn't said
abbrev pub AreChunks : {X : Type 0} → List (List X) → Type 0
AreChunks chunks = All (λ chunk. 0 < length chunk) chunks
