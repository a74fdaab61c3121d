use Rattle.type_data.proofs.Common.{arith, common_steps, drop, get_or, length, take, ◌-◌}
use Rattle.type_data.proofs.OfKinds.Eui.Printed.{eui_step}
use Rattle.type_data.proofs.kinds.eui.print_pairs.Goals as goal

pub loop-octet-preserved : goal.loop-octet-preserved
loop-octet-preserved c =
    eui_step c.args.out.now.items c.loop-octet.out.items c.push.new.self.items _ (get_or c.args.octets.now 0 0) (take (length c.args.octets.now - 1) (drop 1 c.args.octets.now)) c.loop-octet.octet-index _ c.loop-octet.invariant
    c.in_ok-push.ensures.items c.in_ok-push_hex-2.ensures.ok (grind (arith, common_steps)) c.loop-octet-test.true
