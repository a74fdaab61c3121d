use Rattle.type_data.proofs.Common.{arith, nat_tests}
use Rattle.type_data.proofs.OfKinds.HostIdentity.Printed.{key_front}
use Rattle.type_data.proofs.kinds.host_identity.print_public_key.Goals as goal

pub returns-clause-printed : goal.returns-clause-printed
returns-clause-printed c =
    key_front c.args.octets.now c.in_ok-len.rest.now c.in_ok-key.key.now c.in_ok-key.rest.now c.args.out.now.items c.print_base64.new.out.items c.in_ok-len.len c.in_ok-len.ensures.whole c.in_ok-key.ensures.whole
    (omega (arith, c.in_ok-key.ensures.front, c.from.ensures)) c.in_ok-len.ensures.few (grind (arith, nat_tests, c.is_empty.ensures, c.if-is_empty.false)) (λ i. omega (arith, c.type_inv.octets i)) c.in_ok-print_base64.ensures.printed
