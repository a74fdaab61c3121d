-- Where the elements that pass a test end, as a binary search finds it.
use Rattle.std.specs.Prelude.{◌≡◌, ℕ, Bool, true, false, List, length}
use Rattle.std.specs.List.{AllWithin}
use Rattle.std.specs.List.Sorted.{IsPartitionedBy}

abbrev pub SplitsAt : {X : Type 0} → (X → Bool) → List X → ℕ → Type 0
SplitsAt p xs n = IsPartitionedBy p xs
    → AllWithin (λ x. p x ≡ true) xs 0 n × AllWithin (λ x. p x ≡ false) xs n (length xs)
