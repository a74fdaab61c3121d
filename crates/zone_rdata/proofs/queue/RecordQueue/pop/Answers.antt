use Rattle.zone_rdata.proofs.Common.{Some, ap, ◌∙◌, arith}
use Rattle.zone_rdata.proofs.Slots.{first_at}
use Rattle.zone_rdata.specs.RrSource.{first_record}
use Rattle.zone_rdata.proofs.queue.RecordQueue.pop.Goals as goal

pub returns-clause-first : goal.returns-clause-first
returns-clause-first c =
    let slots = c.self.inside.slots.items in
    let here = first_at slots c.self.inside.first c.self.inside.end c.index_mut.result.now (omega (arith, c.if-self.false)) (omega arith) in
    ap Some (c.replace-taken.ensures.value ∙ c.index_mut.ensures.value) ∙ here ∙ ap first_record c.self.view_is
