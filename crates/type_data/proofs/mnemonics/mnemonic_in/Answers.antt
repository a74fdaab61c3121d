use Rattle.type_data.proofs.Common.{None, Some, ap, ◌∙◌}
use Rattle.type_data.proofs.MnemonicOf.{mnemonic_of}
use Rattle.type_data.proofs.mnemonics.mnemonic_in.Goals as goal

pub returns-in-Some : goal.returns-in-Some
returns-in-Some g c = ap Some c.mnemonic.ensures ∙ mnemonic_of g.R.Row.names c.args.rows.now c.args.number (Some c.in-Some.row.now) c.in-Some.ensures

pub returns-in-None : goal.returns-in-None
returns-in-None g c = mnemonic_of g.R.Row.names c.args.rows.now c.args.number None c.in-None.ensures
