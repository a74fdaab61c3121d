use Rattle.type_data.proofs.OfParameters.PrintedKeys.{next_left}
use Rattle.type_data.proofs.parameters.printing.mandatory.are_there.Goals as goal

pub loop-parameter-preserved : goal.loop-parameter-preserved
loop-parameter-preserved c = next_left c.args.parameters.now c.loop-parameter.parameter-index _ c.args.keys.now c.loop-parameter.wanted.now c.after_key-wanted.result.now c.loop-parameter-test.true c.after_key-wanted.ensures c.loop-parameter.invariant
