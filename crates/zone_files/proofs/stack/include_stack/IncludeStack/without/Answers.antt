use Rattle.std.proofs.Common.{ap}
use Rattle.std.specs.Prelude.{reverse}
use Rattle.zone_files.proofs.Stacks.{stands_alone}
use Rattle.zone_files.proofs.stack.include_stack.IncludeStack.without.Goals as goal

pub returns-clause-stands : goal.returns-clause-stands
returns-clause-stands c = stands_alone _ _ c.in_ok-without.ensures.going (ap reverse c.new.ensures.items) c.in_ok-new.ensures.next c.in_ok-without.ensures.stands
