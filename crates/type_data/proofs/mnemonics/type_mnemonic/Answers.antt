use Rattle.type_data.proofs.Common.{None, Some, ap, registered_of, type_registry, ◌∙◌}
use Rattle.type_data.proofs.MnemonicOf.{mnemonic_of}
use Rattle.type_data.proofs.mnemonics.type_mnemonic.Goals as goal
use Rattle.type_data.specs.Table.{named}

pub returns-in-Some : goal.returns-in-Some
returns-in-Some c = ap Some c.mnemonic.ensures ∙ mnemonic_of named type_registry c.args.number (Some (registered_of c.in-Some.row.now)) c.in-Some.ensures

pub returns-in-None : goal.returns-in-None
returns-in-None c = mnemonic_of named type_registry c.args.number None c.in-None.ensures
