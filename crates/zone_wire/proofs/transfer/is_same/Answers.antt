use Rattle.zone_wire.proofs.Common.{sym}
use Rattle.zone_wire.proofs.Transfers.Progress.{told_same}
use Rattle.zone_wire.proofs.transfer.is_same.Goals as goal

pub returns : goal.returns
returns c = told_same c.is_same.result _ c.args.other.now (rw (sym c.lend.ensures.record) c.is_same.ensures)
