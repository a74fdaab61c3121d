use Rattle.std.proofs.Common.{rules, sym, tests, leb, leb-true, leb-false}
use Rattle.std.proofs.lemmas.List.Sorted.{IsPartitionPoint-from_clause, IsPartitionedBy-leb}
use Rattle.zone_files.specs.declared.places.Stretch.{Stretch}
use Rattle.zone_files.proofs.places.Places.begun.Goals as goal

pub returns-clause-begun : goal.returns-clause-begun
returns-clause-begun c =
    let point = IsPartitionPoint-from_clause (λ (s : Stretch). leb s.first c.args.line) c.deref.result.now c.partition_point.result c.partition_point.ensures.partitioned (rw c.deref.ensures.value (IsPartitionedBy-leb (λ (s : Stretch). s.first) c.args.self.now.stretches.items c.args.line c.args.self.now.ascending)) (λ a r f k. search (rules, tests)) in
    rw (sym c.deref.ensures.value) (λ k d low high. leb-true _ _ (point.0 k d low high))

pub returns-clause-later : goal.returns-clause-later
returns-clause-later c =
    let point = IsPartitionPoint-from_clause (λ (s : Stretch). leb s.first c.args.line) c.deref.result.now c.partition_point.result c.partition_point.ensures.partitioned (rw c.deref.ensures.value (IsPartitionedBy-leb (λ (s : Stretch). s.first) c.args.self.now.stretches.items c.args.line c.args.self.now.ascending)) (λ a r f k. search (rules, tests)) in
    rw (sym c.deref.ensures.value) (λ k d low high. leb-false _ _ (point.1 k d low high))
