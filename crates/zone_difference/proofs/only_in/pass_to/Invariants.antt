use Rattle.std.proofs.Common.{length, ◌≡◌, ◌↔◌}
use Rattle.std.specs.Prelude.{◌≢◌}
use Rattle.std.specs.List.{AllByRecursion}
use Rattle.std.specs.declared.cmp.Ordering.TheVariants.{Greater}
use Rattle.zone_rdata.specs.Lent.{record_of}
use Rattle.zone_rdata.specs.Record.{Record}
use Rattle.zone_set.specs.Order.{Ascends, canonical_cmp}
use Rattle.zone_set.specs.Zone.{Has}
use Rattle.zone_difference.specs.Walk.{with_taken}
use Rattle.zone_difference.proofs.only_in.pass_to.Given as goal

-- none at the record or after it was passed
abbrev pub invariant-walk : goal.invariant-walk
invariant-walk l = record {
  up : Ascends (with_taken l.other l.others);
  same : (s : Record) → canonical_cmp (record_of l.rr) s ≢ Greater → Has (with_taken l.other l.others) s ↔ Has (with_taken l.initial.other l.initial.others) s;
}

abbrev pub decreases-walk : goal.decreases-walk
decreases-walk l = length (with_taken l.other l.others)
