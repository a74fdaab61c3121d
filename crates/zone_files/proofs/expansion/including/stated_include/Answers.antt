use Rattle.std.proofs.Common.{map, ap, refl}
use Rattle.zone_rdata.specs.Item.{raw}
use Rattle.zone_files.proofs.Expansions.Including.{if_none, items_left, no_include}
use Rattle.zone_files.proofs.expansion.including.stated_include.Goals as goal

pub returns-in_err-origin-clause-none : goal.returns-in_err-origin-clause-none
returns-in_err-origin-clause-none c =
    if_none c.from_residual-in_err-origin.result (no_include c.args.above.now (map raw c.args.items.now) _ c.in_ok-file.after.now c.named_origin.result (ap (map raw) c.in_ok-file.ensures.cases.0) (items_left c.in_ok-file.after.now _ c.is_empty.result refl c.is_empty.ensures c.if-is_empty.false) c.in_err-origin.was c.named_origin.ensures)
