use Rattle.type_data.proofs.Common.{arith, nat_tests, on_ok_weaker}
use Rattle.type_data.proofs.OfKinds.Base64.Printed.{base64_printed}
use Rattle.type_data.proofs.kinds.base64_text.print_base64_item.Goals as goal

pub returns-clause-printed : goal.returns-clause-printed
returns-clause-printed c = on_ok_weaker c.print_base64.result (base64_printed c.args.octets.now c.args.out.now.items c.push.new.self.items c.print_base64.new.out.items (grind (arith, nat_tests, c.is_empty.ensures, c.if-is_empty.false)) (λ i. omega (arith, c.type_inv.octets i)) c.in_ok-push.ensures.items) c.print_base64.ensures.printed
