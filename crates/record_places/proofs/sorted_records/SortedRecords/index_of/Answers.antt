use Rattle.std.proofs.Common.{◌≡◌, subst, sym}
use Rattle.zone_rdata.specs.Lent.{record_of}
use Rattle.zone_set.specs.Zone.{Has}
use Rattle.zone_set.proofs.Holding.Together.{each_Has}
use Rattle.record_places.specs.Machine.SoFar.{records_in}
use Rattle.record_places.proofs.Sought.{other_class}
use Rattle.record_places.proofs.sorted_records.SortedRecords.index_of.Goals as goal

pub returns-then-ne-clause-none : goal.returns-then-ne-clause-none
returns-then-ne-clause-none c = λ _ has.
    let records = records_in c.self.inside.records.items in
    other_class c.ne.result c.args.rr.now.class c.self.inside.class c.ne.ensures c.if-ne.true
    (each_Has (λ r. r.class ≡ c.self.inside.class) records (record_of c.args.rr.now) c.self.invariant.one_class (subst (λ rs. Has rs (record_of c.args.rr.now)) (sym c.self.view_is) has))
