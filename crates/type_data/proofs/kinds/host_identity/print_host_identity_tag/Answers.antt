use Rattle.type_data.proofs.Common.{arith, nat_tests}
use Rattle.type_data.proofs.OfKinds.HostIdentity.Printed.{identity_front, no_identity}
use Rattle.type_data.proofs.kinds.host_identity.print_host_identity_tag.Goals as goal

pub returns-then-is_empty-clause-none : goal.returns-then-is_empty-clause-none
returns-then-is_empty-clause-none c = no_identity c.args.octets.now c.in_ok-tag.rest.now c.in_ok-tag.tag.now c.in_ok-tag.ensures.whole (grind (arith, nat_tests, c.is_empty.ensures, c.if-is_empty.true))

pub returns-clause-printed : goal.returns-clause-printed
returns-clause-printed c = identity_front c.args.octets.now c.in_ok-tag.rest.now c.args.out.now.items c.push_hex.new.out.items c.in_ok-tag.tag.now c.in_ok-tag.ensures.whole (grind (arith, nat_tests, c.is_empty.ensures, c.if-is_empty.false)) (λ i. omega (arith, c.type_inv.octets i)) c.in_ok-push_hex.ensures.ok
