use Rattle.zone_rdata.proofs.Common.{err_from_is_err_and}
use Rattle.zone_rdata.proofs.rdata.Rdata.from_items.Goals as goal

pub returns-in_err-set_from_items-clause-only : goal.returns-in_err-set_from_items-clause-only
returns-in_err-set_from_items-clause-only c = λ octets states.
    let p = err_from_is_err_and c.from_residual.result c.from_residual.ensures.1 in
    rw (p.1, p.2) (c.in_err-set_from_items.ensures.only octets states)
