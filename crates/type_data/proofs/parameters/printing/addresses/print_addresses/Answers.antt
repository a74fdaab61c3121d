use Rattle.type_data.proofs.Common.{[], append-nil, arith, nat_tests, nil_from_length, sym, take-append-drop, ◌∙◌}
use Rattle.type_data.proofs.OfParameters.PrintedAddresses.{addresses_cut_short, addresses_ended, addresses_more, addresses_some}
use Rattle.type_data.specs.Parameters.Machine.Printed.{address_text, size_of}
use Rattle.type_data.proofs.parameters.printing.addresses.print_addresses.Goals as goal

pub returns-then-is_empty-clause-none : goal.returns-then-is_empty-clause-none
returns-then-is_empty-clause-none c = record { reason = addresses_some c.args.version c.args.value.now (grind (arith, nat_tests, c.is_empty.ensures, c.if-is_empty.true)); added = []; appended = sym (append-nil c.args.out.now.items) }

pub returns-then-rest-len-clause-none : goal.returns-then-rest-len-clause-none
returns-then-rest-len-clause-none c = record {
  reason = addresses_cut_short c.args.version (address_text c.args.version) c.args.value.now c.loop-mark.rest.now c.loop-mark.mark.now c.args.out.now.items c.loop-mark.out.items c.loop-mark.invariant (grind (arith, nat_tests, c.is_empty-in-loop-mark.ensures, c.loop-mark-test.true)) (grind (arith, nat_tests, c.if-rest-len.true, c.len_of-len.ensures));
  added = _;
  appended = c.loop-mark.invariant.marked_as.written;
}

pub loop-mark-preserved : goal.loop-mark-preserved
loop-mark-preserved c =
    addresses_more (size_of c.args.version) (address_text c.args.version) c.args.value.now c.loop-mark.rest.now c.split_at.result.0.now c.split_at.result.1.now c.loop-mark.mark.now c.args.out.now.items c.loop-mark.out.items c.push_address.new.out.items c.loop-mark.invariant (cc (c.split_at.ensures.front, c.split_at.ensures.back, take-append-drop c.len_of-len.result c.loop-mark.rest.now)) (c.split_at.ensures.front_len ∙ c.len_of-len.ensures) (cc (c.in_ok-push_address.ensures, c.in_ok-extend_from_slice.ensures.items))

pub returns-clause-printed : goal.returns-clause-printed
returns-clause-printed c = addresses_ended (size_of c.args.version) (address_text c.args.version) c.args.value.now c.loop-mark.rest.now c.loop-mark.mark.now c.args.out.now.items c.loop-mark.out.items c.loop-mark.invariant (nil_from_length c.loop-mark.rest.now (grind (arith, nat_tests, c.is_empty-in-loop-mark.ensures, c.loop-mark-test.false))) (grind (arith, nat_tests, c.is_empty.ensures, c.if-is_empty.false))
