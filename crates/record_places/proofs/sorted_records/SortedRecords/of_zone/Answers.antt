use Rattle.std.proofs.Common.{◌≡◌, arith, subst, sym}
use Rattle.std.proofs.lemmas.Grind.{common_steps}
use Rattle.std.specs.List.{AllByRecursion}
use Rattle.zone_rdata.specs.Record.{Record}
use Rattle.zone_set.specs.Order.{Ascends}
use Rattle.record_places.specs.Machine.SoFar.{records_in}
use Rattle.record_places.proofs.sorted_records.SortedRecords.of_zone.Goals as goal

pub invariant_of-result : goal.invariant_of-result
invariant_of-result c =
    let same : records_in c.loop-rr.records.items ≡ c.args.zone.now.records = grind (arith, common_steps) in
    let zone = c.records-rr-items.ensures.zone in
    record {
      up = subst Ascends (sym same) zone.compatible.ascend;
      one_class = subst (λ rs. AllByRecursion (λ (r : Record). r.class ≡ c.class.result) rs) (sym same)
          (subst (λ k. AllByRecursion (λ (r : Record). r.class ≡ k) c.args.zone.now.records) (sym c.class.ensures) zone.class);
    }
