use Rattle.type_data.proofs.OfKinds.NodeId.Printed.{node_printed}
use Rattle.type_data.proofs.kinds.node_id.print_node_id.Goals as goal

pub returns-clause-printed : goal.returns-clause-printed
returns-clause-printed c =
    node_printed c.args.octets.now c.args.out.now.items _ _ _ _ _ _ _ c.in-len8-up.len_at_least (λ i. (c.type_inv.octets i).fits) c.in_ok-push_hex.ensures.ok c.in_ok-push.ensures.items c.in_ok-push_hex-2.ensures.ok
    c.in_ok-push-2.ensures.items c.in_ok-push_hex-3.ensures.ok c.in_ok-push-3.ensures.items c.in_ok-push_hex-4.ensures.ok
