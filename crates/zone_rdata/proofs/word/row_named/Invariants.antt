use Rattle.zone_rdata.proofs.Common.{◌≡◌, bytes_eq, drop, find, folded_label}
use Rattle.zone_rdata.proofs.word.row_named.Given as goal

abbrev pub invariant-loop-row : goal.invariant-loop-row
invariant-loop-row g l =
    find (λ row. bytes_eq (folded_label l.word) (folded_label (g.R.Row.names row).mnemonic)) l.rows
    ≡ find (λ row. bytes_eq (folded_label l.word) (folded_label (g.R.Row.names row).mnemonic)) (drop l.row-index l.rows)
