use Rattle.type_data.proofs.Common.{[], append-nil, arith, nat_tests, nil_from_length, sym}
use Rattle.type_data.proofs.OfParameters.PrintedProtocols.{protocol_short, protocols_cut_short, protocols_empty, protocols_ended, protocols_more, protocols_some}
use Rattle.type_data.proofs.OfParameters.Stops.{stops_passed}
use Rattle.type_data.proofs.parameters.printing.protocols.print_protocols.Goals as goal

pub returns-then-is_empty-clause-none : goal.returns-then-is_empty-clause-none
returns-then-is_empty-clause-none c = record { reason = protocols_some c.args.value.now (grind (arith, nat_tests, c.is_empty.ensures, c.if-is_empty.true)); added = []; appended = sym (append-nil c.args.out.now.items) }

pub returns-in_err-protocol-clause-none : goal.returns-in_err-protocol-clause-none
returns-in_err-protocol-clause-none c =
    stops_passed c.from_residual.result c.in_err-protocol.field-0.0 _ _ c.args.out.now.items c.loop-mark.out.items c.from_residual.ensures.1 (λ none. (protocols_cut_short c.args.value.now c.loop-mark.rest.now c.loop-mark.mark.now c.args.out.now.items c.loop-mark.out.items c.loop-mark.invariant (grind (arith, nat_tests, c.is_empty-in-loop-mark.ensures, c.loop-mark-test.true)) none)) _ c.loop-mark.invariant.marked_as.written c.in_err-protocol.ensures.short

pub returns-then-is_empty-2-clause-none : goal.returns-then-is_empty-2-clause-none
returns-then-is_empty-2-clause-none c = record {
  reason = protocols_empty c.args.value.now c.loop-mark.rest.now c.in_ok-protocol.protocol.now c.in_ok-protocol.after.now c.loop-mark.mark.now c.args.out.now.items c.loop-mark.out.items c.loop-mark.invariant c.in_ok-protocol.ensures.whole (grind (arith, nat_tests, c.is_empty-in-loop-mark-2.ensures, c.if-is_empty-2.true));
  added = _;
  appended = c.loop-mark.invariant.marked_as.written;
}

pub loop-mark-preserved : goal.loop-mark-preserved
loop-mark-preserved c =
    protocols_more c.args.value.now c.loop-mark.rest.now c.in_ok-protocol.protocol.now c.in_ok-protocol.after.now c.loop-mark.mark.now c.args.out.now.items c.loop-mark.out.items c.print_listed.new.out.items c.loop-mark.invariant c.in_ok-protocol.ensures.whole (grind (arith, nat_tests, c.is_empty-in-loop-mark-2.ensures, c.if-is_empty-2.false), protocol_short c.loop-mark.rest.now c.in_ok-protocol.protocol.now c.in_ok-protocol.after.now c.are_octets.ensures.each c.in_ok-protocol.ensures.whole) (cc (c.in_ok-print_listed.ensures, c.in_ok-extend_from_slice.ensures.items))

pub returns-clause-printed : goal.returns-clause-printed
returns-clause-printed c = protocols_ended c.args.value.now c.loop-mark.rest.now c.loop-mark.mark.now c.args.out.now.items c.loop-mark.out.items c.extend_from_slice-2.new.self.items c.loop-mark.invariant (nil_from_length c.loop-mark.rest.now (grind (arith, nat_tests, c.is_empty-in-loop-mark.ensures, c.loop-mark-test.false))) (grind (arith, nat_tests, c.is_empty.ensures, c.if-is_empty.false)) c.in_ok-extend_from_slice-2.ensures.items
