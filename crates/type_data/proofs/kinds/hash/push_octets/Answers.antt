use Rattle.type_data.proofs.Common.{arith, get_or, refl}
use Rattle.type_data.proofs.OfKinds.Hash.Digits.{bad_digit, begun, is_digit, no_digit, octet_fits, reads_filled, reads_kept, reads_whole, unused_bits}
use Rattle.type_data.proofs.kinds.hash.push_octets.Goals as goal
use Rattle.type_data.proofs.kinds.hash.push_octets.Goals.{then-count-ge8+in_ok-push, else-count-ge8, then-count-ge5-via-then-count-ge5, then-count-ge5-via-else-count-ge5+then-bits-ne0}

pub loop-digit-init : goal.loop-digit-init
loop-digit-init c = begun c.args.text.now c.args.out.now.items

pub returns-in_default-clause-fault : goal.returns-in_default-clause-fault
returns-in_default-clause-fault c =
    (refl, bad_digit c.args.text.now c.loop-digit.digit-index (get_or c.args.text.now c.loop-digit.digit-index 0) 0 c.loop-digit-test.true refl (no_digit (get_or c.args.text.now c.loop-digit.digit-index 0) c.value_of.result c.value_of.ensures c.in_default.is))

pub overflow_cast-bits : goal.overflow_cast-bits
overflow_cast-bits c =
    omega (arith, octet_fits c.args.text.now c.args.out.now.items c.loop-digit.out.items c.loop-digit.digit-index (get_or c.args.text.now c.loop-digit.digit-index 0) c.from.result c.loop-digit.bits c.loop-digit.count (is_digit (get_or c.args.text.now c.loop-digit.digit-index 0) c.from.result _ c.value_of.result c.value_of.ensures c.in-Some.is c.from.ensures) c.loop-digit.invariant c.if-count-ge8.true)

pub loop-digit-preserved : goal.loop-digit-preserved
loop-digit-preserved c =
    elim c.if-count-ge8.branch [
      | then-count-ge8+in_ok-push w ↦
          reads_filled c.args.text.now c.args.out.now.items c.loop-digit.out.items c.if-count-ge8.out.items c.loop-digit.digit-index (get_or c.args.text.now c.loop-digit.digit-index 0) 0 c.from.result c.loop-digit.bits c.loop-digit.count c.if-count-ge8.bits c.if-count-ge8.count c.loop-digit-test.true refl (is_digit (get_or c.args.text.now c.loop-digit.digit-index 0) c.from.result _ c.value_of.result c.value_of.ensures c.in-Some.is c.from.ensures) c.loop-digit.invariant w.if-count-ge8.true (grind arith) w.bits-is w.count-is
      | else-count-ge8 w ↦
          reads_kept c.args.text.now c.args.out.now.items c.loop-digit.out.items c.if-count-ge8.out.items c.loop-digit.digit-index (get_or c.args.text.now c.loop-digit.digit-index 0) 0 c.from.result c.loop-digit.bits c.loop-digit.count c.if-count-ge8.bits c.if-count-ge8.count c.loop-digit-test.true refl (is_digit (get_or c.args.text.now c.loop-digit.digit-index 0) c.from.result _ c.value_of.result c.value_of.ensures c.in-Some.is c.from.ensures) c.loop-digit.invariant w.if-count-ge8.false (grind arith) w.bits-is w.count-is
    ]

pub returns-then-count-ge5-clause-fault : goal.returns-then-count-ge5-clause-fault
returns-then-count-ge5-clause-fault c =
    let unused = unused_bits c.args.text.now c.loop-digit.invariant.octets c.loop-digit.digit-index c.loop-digit.bits c.loop-digit.count c.loop-digit-test.false c.loop-digit.invariant.have in
    elim c.then-count-ge5.branch [
      | then-count-ge5-via-then-count-ge5 w ↦ (refl, λ value is. omega (arith, (unused value is).0, w.if-count-ge5.true))
      | then-count-ge5-via-else-count-ge5+then-bits-ne0 w ↦ (refl, λ value is. w.if-bits-ne0.true (unused value is).1)
    ]

pub returns-clause-states : goal.returns-clause-states
returns-clause-states c = reads_whole c.args.text.now c.args.out.now.items c.loop-digit.out.items c.loop-digit.digit-index c.loop-digit.bits c.loop-digit.count c.loop-digit-test.false c.requires c.loop-digit.invariant c.if-count-ge5.false c.if-bits-ne0.false
