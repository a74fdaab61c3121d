use Rattle.type_data.proofs.Common.{arith, nat_tests}
use Rattle.type_data.proofs.OfKinds.Prefixes.Printed.{begins_so, head_of, no_address_there, too_many_bits}
use Rattle.type_data.proofs.kinds.prefixes.take_prefix.Goals as goal

pub returns-in_default-clause-none : goal.returns-in_default-clause-none
returns-in_default-clause-none c =
    no_address_there c.args.octets.now c.in_ok-count.rest.now c.in_ok-part.part.now c.in_ok-part.rest.now c.in_ok-family.family c.in_ok-bits.bits c.in_ok-count.count c.in_ok-family.ensures.few
    (head_of c.args.octets.now _ _ c.in_ok-count.rest.now c.in_ok-family.family c.in_ok-bits.bits c.in_ok-count.count c.in_ok-family.ensures.whole c.in_ok-bits.ensures.whole c.in_ok-count.ensures.whole)
    c.in_ok-part.ensures.whole (grind (arith, c.in_ok-part.ensures.front, c.from.ensures)) c.in_default.ensures.none

pub returns-then-from-octets-clause-none : goal.returns-then-from-octets-clause-none
returns-then-from-octets-clause-none c =
    too_many_bits c.args.octets.now c.in_ok-count.rest.now c.in_ok-part.part.now c.in_ok-family.family c.in_ok-bits.bits c.in_ok-count.count c.in-Some.address c.in_ok-family.ensures.few
    (head_of c.args.octets.now _ _ c.in_ok-count.rest.now c.in_ok-family.family c.in_ok-bits.bits c.in_ok-count.count c.in_ok-family.ensures.whole c.in_ok-bits.ensures.whole c.in_ok-count.ensures.whole)
    c.in-Some.ensures.found (grind (arith, c.if-from-octets.true, c.octets.ensures.octets, c.from-2.ensures))

pub returns-clause-front : goal.returns-clause-front
returns-clause-front c =
    begins_so c.args.octets.now c.in_ok-count.rest.now c.in_ok-part.part.now c.in_ok-part.rest.now c.in_ok-family.family c.in_ok-bits.bits c.in_ok-count.count _ c.in-Some.address
    (head_of c.args.octets.now _ _ c.in_ok-count.rest.now c.in_ok-family.family c.in_ok-bits.bits c.in_ok-count.count c.in_ok-family.ensures.whole c.in_ok-bits.ensures.whole c.in_ok-count.ensures.whole)
    c.in_ok-part.ensures.whole (grind (arith, c.in_ok-part.ensures.front, c.from.ensures)) (grind (arith, nat_tests, c.in_ok-count.ensures.few)) c.in-Some.ensures.found (grind (arith, c.if-from-octets.false, c.octets.ensures.octets, c.from-2.ensures))
