use Rattle.type_data.specs.Kinds.Time.{too_large}
use Rattle.type_data.proofs.Common.{arith}
use Rattle.type_data.proofs.OfKinds.Time.Once.{no_number}
use Rattle.type_data.proofs.kinds.time.seconds_in_digits.Goals as goal

pub returns-in_default-clause-fault : goal.returns-in_default-clause-fault
returns-in_default-clause-fault c = no_number c.args.text.now c.requires c.in_default.ensures.none

pub returns-then-seconds-from-clause-fault : goal.returns-then-seconds-from-clause-fault
returns-then-seconds-from-clause-fault c = too_large (c.requires, (c.in-Some.ensures.found.0, (c.in-Some.ensures.found.1.0, omega (arith, c.in-Some.ensures.found.1.1))))
