-- The names that proofs here cite most: of definitions, and of std.
pub use Rattle.sorted_chunks.specs.Chunks.{AreChunks, IsParting, IsPlace, after, before, joined}
pub use Rattle.sorted_chunks.specs.Machine.Splits.{SplitsAt}
pub use Rattle.sorted_chunks.specs.Starts.{starts}
pub use Rattle.std.proofs.Common.{Bool, List, MatchOption, [], ap, arith, drop, false, get_or, length, min, refl, rules, set, subst, suc, sym, take, true, true≢false, zero, ℕ, ⊎_elim, ◌++◌, ◌+◌, ◌-◌, ◌<◌, ◌^◌, ◌∙◌, ◌∷◌, ◌≡◌, ◌≤◌}
pub use Rattle.std.proofs.lemmas.Grind.{common_steps}
pub use Rattle.std.proofs.lemmas.List.{append-nil, append_assoc, drop_all, drop_at, drop_more, get_or-append-add, get_or-drop, get_or-take, get_or_append_left, get_or_at, get_or_default, get_or_past, length-append, length-drop, length-take, length-take-le, set_split, take-append-drop, take-append-le, take-take, take_all, take_more}
pub use Rattle.std.proofs.lemmas.List.Elements.{All-append, All-cons, All-drop, All-from_get_or, All-from_recursion, All-get_or, All-head, All-nil, All-same, All-set, All-tail, All-take, recursion_from_All}
pub use Rattle.std.specs.List.{All, AllByRecursion, AllWithin, insert}
pub use Rattle.std.specs.List.Sorted.{IsPartitionedBy}
