use Rattle.std.specs.Prelude.{option_and_then}
use Rattle.type_data.proofs.Common.{ap, further_in, ◌∙◌}
use Rattle.type_data.proofs.TypeRegistry.{further_there_of}
use Rattle.type_data.proofs.table.further_type_numbered.Goals as goal

pub returns-in-Some : goal.returns-in-Some
returns-in-Some c = c.further.ensures ∙ ap (option_and_then further_in) c.in-Some.ensures ∙ further_there_of c.args.number

pub returns-in-None : goal.returns-in-None
returns-in-None c = ap (option_and_then further_in) c.in-None.ensures ∙ further_there_of c.args.number
