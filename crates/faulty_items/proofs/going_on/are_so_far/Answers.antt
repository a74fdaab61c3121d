use Rattle.faulty_items.proofs.Common.{ap, field_of, given, map, true}
use Rattle.std.specs.Result.{result_unwrap_or}
use Rattle.faulty_items.proofs.CanGoOn.{not_so_far}
use Rattle.faulty_items.proofs.going_on.are_so_far.Goals as goal

pub returns-in-Err-Fault-clause-no : goal.returns-in-Err-Fault-clause-no
returns-in-Err-Fault-clause-no c = λ no f one.
    not_so_far c.args.origin.now f (map field_of c.args.field.now) (map given c.args.items.now) _ _ (rw c.in-Err-Fault.field-0-is at c.in-Err-Fault.ensures.fault) (c.is_of_what_is_missing.ensures.no (ap (λ r. result_unwrap_or r true) no)) one
