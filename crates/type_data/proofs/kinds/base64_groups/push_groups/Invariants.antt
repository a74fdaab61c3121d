use Rattle.type_data.proofs.Common.{length}
use Rattle.type_data.specs.Kinds.Base64.Machine.{HasGroups}
use Rattle.type_data.proofs.kinds.base64_groups.push_groups.Given as goal

abbrev pub invariant-loop-rest : goal.invariant-loop-rest
invariant-loop-rest l = HasGroups l.text l.rest l.fn.out.items l.out.items

abbrev pub decreases-loop-rest : goal.decreases-loop-rest
decreases-loop-rest l = length l.rest
