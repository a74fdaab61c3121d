use Rattle.type_data.proofs.Common.{drop}
use Rattle.type_data.proofs.OfParameters.PrintedKeys.{AreLeft}
use Rattle.type_data.specs.Parameters.Machine.Printed.{all_sent}
use Rattle.type_data.proofs.parameters.printing.mandatory.are_there.Given as goal

abbrev pub invariant-loop-parameter : goal.invariant-loop-parameter
invariant-loop-parameter l = AreLeft (all_sent l.parameters) (all_sent (drop l.parameter-index l.parameters)) l.keys l.wanted
