use Rattle.std.specs.Prelude.{option_copied}
use Rattle.type_data.proofs.Common.{early_types, late_types, signed_types, ◌∙◌}
use Rattle.type_data.proofs.TypeRegistry.{early_found, late_found, row_there, signed_found}
use Rattle.type_data.proofs.table.type_numbered.Goals as goal

pub returns-then-number-lt-DS : goal.returns-then-number-lt-DS
returns-then-number-lt-DS c = row_there c.early_types.result.now early_types c.early_types.ensures c.args.number (option_copied c.row_of.result) c.row_of.ensures ∙ early_found c.args.number c.if-number-lt-DS.true

pub returns-then-number-lt-SMIMEA : goal.returns-then-number-lt-SMIMEA
returns-then-number-lt-SMIMEA c =
    row_there c.signed_types.result.now signed_types c.signed_types.ensures c.args.number (option_copied c.row_of-then-number-lt-SMIMEA.result) c.row_of-then-number-lt-SMIMEA.ensures
    ∙ signed_found c.args.number c.if-number-lt-DS.false c.if-number-lt-SMIMEA.true

pub returns-else-number-lt-SMIMEA : goal.returns-else-number-lt-SMIMEA
returns-else-number-lt-SMIMEA c =
    row_there c.late_types.result.now late_types c.late_types.ensures c.args.number (option_copied c.row_of-else-number-lt-SMIMEA.result) c.row_of-else-number-lt-SMIMEA.ensures
    ∙ late_found c.args.number c.if-number-lt-SMIMEA.false
