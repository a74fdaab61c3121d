use Rattle.type_data.proofs.Common.{arith, nat_tests}
use Rattle.type_data.proofs.OfKinds.Hexadecimal.Printed.{hex_printed, no_hex}
use Rattle.type_data.proofs.kinds.hexadecimal.print_hex.Goals as goal

pub returns-then-is_empty-clause-none : goal.returns-then-is_empty-clause-none
returns-then-is_empty-clause-none c = no_hex c.args.octets.now (grind (arith, nat_tests, c.is_empty.ensures, c.if-is_empty.true))

pub returns-clause-printed : goal.returns-clause-printed
returns-clause-printed c = hex_printed c.args.octets.now c.args.out.now.items c.push.new.self.items c.push_hex.new.out.items (grind (arith, nat_tests, c.is_empty.ensures, c.if-is_empty.false)) (λ i. omega (arith, c.type_inv.octets i)) c.in_ok-push.ensures.items c.in_ok-push_hex.ensures.ok
