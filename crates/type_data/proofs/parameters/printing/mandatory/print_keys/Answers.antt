use Rattle.type_data.proofs.OfParameters.PrintedKeys.{keys_more}
use Rattle.type_data.proofs.parameters.printing.mandatory.print_keys.Goals as goal

pub loop-key-preserved : goal.loop-key-preserved
loop-key-preserved c = keys_more c.args.keys.now c.loop-key.rest.now c.in-Some.after.now c.loop-key.mark.now c.args.out.now.items c.loop-key.out.items c.print_key.new.out.items c.in-Some.key c.loop-key.invariant c.in-Some.ensures.found c.in-Some.ensures.small (cc (c.in_ok-print_key.ensures, c.in_ok-extend_from_slice.ensures.items, c.usual_key.ensures))
