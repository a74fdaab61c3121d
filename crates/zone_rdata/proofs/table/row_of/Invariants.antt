use Rattle.zone_rdata.proofs.Common.{◌≡◌, ◌==◌, drop, find}
use Rattle.zone_rdata.proofs.table.row_of.Given as goal

abbrev pub invariant-loop-row : goal.invariant-loop-row
invariant-loop-row g l = find (λ row. l.number == (g.R.Row.names row).number) l.rows ≡ find (λ row. l.number == (g.R.Row.names row).number) (drop l.row-index l.rows)
