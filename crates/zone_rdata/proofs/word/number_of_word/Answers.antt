use Rattle.zone_rdata.proofs.Common.{◌∙◌, arith}
use Rattle.zone_rdata.proofs.Words.AnyCase.{word_of_row, no_word}
use Rattle.zone_rdata.proofs.word.number_of_word.Goals as goal

pub returns-in_err-row-clause-none : goal.returns-in_err-row-clause-none
returns-in_err-row-clause-none g c = rw c.from_residual.ensures (no_word g.R.Row.names c.args.rows.now c.args.name.now c.args.word.now c.in_err-row.ensures c.in_default.ensures.none)

pub returns-clause-found : goal.returns-clause-found
returns-clause-found g c = word_of_row g.R.Row.names c.args.rows.now c.args.name.now c.args.word.now c.in_ok-row.row.now c.from.result c.requires c.in_ok-row.ensures (c.from.ensures ∙ c.number.ensures) (omega arith)
