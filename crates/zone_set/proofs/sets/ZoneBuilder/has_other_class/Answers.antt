use Rattle.zone_set.proofs.Common.{sym, ◌∙◌, false≢true, joined, record_of}
use Rattle.zone_set.proofs.Holding.Adding.{other_class_told}
use Rattle.zone_set.proofs.sets.ZoneBuilder.has_other_class.Goals as goal

pub returns : goal.returns
returns c =
    rw (← c.self.view_is)
    (other_class_told c.ne.result c.self.inside.class c.self.inside.octets.items (joined c.self.inside.entries) (record_of c.args.rr.now)
    (λ none. false≢true (sym c.if-is_empty.false ∙ c.is_empty.ensures.1 none)) c.ne.ensures)
