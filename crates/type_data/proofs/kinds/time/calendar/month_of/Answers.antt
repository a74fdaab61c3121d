use Rattle.type_data.proofs.Common.{arith, ◌+◌, ◌-◌, ◌/◌}
use Rattle.type_data.proofs.OfKinds.Time.Years.{months_most}
use Rattle.type_data.proofs.kinds.time.calendar.month_of.Goals as goal

pub returns-else-month-lt12-clause-begun : goal.returns-else-month-lt12-clause-begun
returns-else-month-lt12-clause-begun c = omega (arith, months_most c.args.year (c.args.day / 31 + 1 - 1))
