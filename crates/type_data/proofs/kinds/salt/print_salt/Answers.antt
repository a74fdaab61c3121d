use Rattle.type_data.proofs.Common.{arith, nat_tests}
use Rattle.type_data.proofs.OfKinds.Hexadecimal.Printed.{empty_salt, salt_front}
use Rattle.type_data.proofs.kinds.salt.print_salt.Goals as goal

pub returns-then-is_empty-clause-printed : goal.returns-then-is_empty-clause-printed
returns-then-is_empty-clause-printed c = empty_salt c.args.octets.now c.in_ok-salt.rest.now c.args.out.now.items c.extend_from_slice.new.self.items c.in_ok-salt.salt.now c.in_ok-salt.ensures.whole (grind (arith, nat_tests, c.is_empty.ensures, c.if-is_empty.true)) c.in_ok-extend_from_slice.ensures.items

pub returns-clause-printed : goal.returns-clause-printed
returns-clause-printed c = salt_front c.args.octets.now c.in_ok-salt.rest.now c.args.out.now.items c.push_hex.new.out.items c.in_ok-salt.salt.now c.in_ok-salt.ensures.whole (grind (arith, nat_tests, c.is_empty.ensures, c.if-is_empty.false)) (λ i. omega (arith, c.type_inv.octets i)) c.in_ok-push_hex.ensures.ok
