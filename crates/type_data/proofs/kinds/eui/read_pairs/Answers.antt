use Rattle.type_data.proofs.Common.{[], append-nil, arith, fault_answered, fault_passed, on_ok_weaker, refl, sym}
use Rattle.type_data.proofs.OfKinds.Eui.Pairs.{are_pairs, eui_length, last_unread, pair_read, pair_unread, pairs_end}
use Rattle.type_data.proofs.kinds.eui.read_pairs.Goals as goal

pub loop-pair-init : goal.loop-pair-init
loop-pair-init c = record { octets = []; grown = sym (append-nil c.args.out.now.items); goes = λ more are. are; comes = λ whole are. (whole, are, refl) }

pub returns-then-text-count-clause-fault : goal.returns-then-text-count-clause-fault
returns-then-text-count-clause-fault c = (refl, λ octets. (λ is. c.if-text-count.true (omega (arith, eui_length c.args.count c.args.text.now octets (are_pairs c.args.count c.args.text.now octets c.requires.some is), is.counted))))

pub loop-pair-preserved : goal.loop-pair-preserved
loop-pair-preserved c =
    pair_read c.args.text.now c.loop-pair.rest.now c.in-Some.pair.now c.in-Some.after.now c.args.out.now.items c.loop-pair.out.items c.push_pair.new.out.items c.in-Some.ensures.some.parted c.loop-pair.invariant c.in_ok-push_pair.ensures.states

pub returns-in_err-push_pair-clause-fault : goal.returns-in_err-push_pair-clause-fault
returns-in_err-push_pair-clause-fault c =
    fault_passed c.from_residual.result c.in_err-push_pair.field-0.0 _ _ c.from_residual.ensures.1
    (λ fault bad. (bad.0, pair_unread c.args.count c.args.text.now c.loop-pair.rest.now c.in-Some.pair.now c.in-Some.after.now c.args.out.now.items c.loop-pair.out.items c.requires.some c.in-Some.ensures.some.two c.in-Some.ensures.some.parted c.loop-pair.invariant bad.1))
    c.in_err-push_pair.ensures.fault

pub returns-clause-states : goal.returns-clause-states
returns-clause-states c =
    on_ok_weaker c.push_pair-2.result (λ more. pairs_end c.args.count c.args.text.now c.loop-pair.rest.now c.args.out.now.items c.loop-pair.out.items c.push_pair-2.new.out.items more.octet c.if-text-count.false c.loop-pair.invariant more.is more.written) c.push_pair-2.ensures.states

pub returns-clause-fault : goal.returns-clause-fault
returns-clause-fault c =
    fault_answered c.push_pair-2.result _ _
    (λ fault bad. (bad.0, last_unread c.args.count c.args.text.now c.loop-pair.rest.now c.args.out.now.items c.loop-pair.out.items c.requires.some c.in_default.ensures.none c.loop-pair.invariant bad.1))
    c.push_pair-2.ensures.fault
