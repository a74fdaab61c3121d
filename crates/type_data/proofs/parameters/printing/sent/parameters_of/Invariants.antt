use Rattle.type_data.proofs.Common.{length, map}
use Rattle.type_data.proofs.OfParameters.SentOctets.{HasSent}
use Rattle.type_data.specs.Parameters.Machine.Printed.{sent_of}
use Rattle.type_data.proofs.parameters.printing.sent.parameters_of.Given as goal

abbrev pub invariant-loop-rest : goal.invariant-loop-rest
invariant-loop-rest l = HasSent l.octets l.rest (map sent_of l.parameters.items) l.least

abbrev pub decreases-loop-rest : goal.decreases-loop-rest
decreases-loop-rest l = length l.rest
