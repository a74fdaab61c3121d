use Rattle.type_data.proofs.Common.{arith, nat_tests}
use Rattle.type_data.proofs.OfKinds.Hash.Printed.{hash_front, no_hash}
use Rattle.type_data.proofs.kinds.hash.print_hash.Goals as goal

pub returns-then-is_empty-clause-none : goal.returns-then-is_empty-clause-none
returns-then-is_empty-clause-none c = no_hash c.args.octets.now c.in_ok-hash.rest.now c.in_ok-hash.hash.now c.in_ok-hash.ensures.whole (grind (arith, nat_tests, c.is_empty.ensures, c.if-is_empty.true))

pub returns-clause-printed : goal.returns-clause-printed
returns-clause-printed c = hash_front c.args.octets.now c.in_ok-hash.rest.now c.args.out.now.items c.print_base32_hex.new.out.items c.in_ok-hash.hash.now c.in_ok-hash.ensures.whole (grind (arith, nat_tests, c.is_empty.ensures, c.if-is_empty.false)) (λ i. omega (arith, c.type_inv.octets i)) c.in_ok-print_base32_hex.ensures
