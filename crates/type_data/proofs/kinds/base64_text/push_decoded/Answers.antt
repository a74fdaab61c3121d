use Rattle.type_data.proofs.Common.{arith, fault_answered, nat_tests, nil_from_length, on_ok_weaker, refl}
use Rattle.type_data.proofs.OfKinds.Base64.Groups.{all_groups, last_groups, left_encoded}
use Rattle.type_data.proofs.OfKinds.Base64.Texts.{no_base64}
use Rattle.type_data.proofs.kinds.base64_text.push_decoded.Goals as goal

pub returns-then-is_empty-clause-fault : goal.returns-then-is_empty-clause-fault
returns-then-is_empty-clause-fault c = (refl, λ octets is. no_base64 c.args.text.now octets (grind (arith, c.is_empty.ensures, c.if-is_empty.true)) is)

pub returns-then-is_empty-2-clause-states : goal.returns-then-is_empty-2-clause-states
returns-then-is_empty-2-clause-states c =
    all_groups c.args.text.now c.in_ok-rest.rest.now c.args.out.now.items c.push_groups.new.out.items (grind (arith, nat_tests, c.is_empty.ensures, c.if-is_empty.false)) (nil_from_length c.in_ok-rest.rest.now (grind (arith, nat_tests, c.is_empty-2.ensures, c.if-is_empty-2.true))) c.in_ok-rest.ensures

pub returns-clause-states : goal.returns-clause-states
returns-clause-states c =
    on_ok_weaker c.push_last.result (last_groups c.args.text.now c.in_ok-rest.rest.now c.args.out.now.items c.push_groups.new.out.items c.push_last.new.out.items c.in_ok-rest.ensures) c.push_last.ensures.states

pub returns-clause-fault : goal.returns-clause-fault
returns-clause-fault c =
    fault_answered c.push_last.result _ _
    (λ fault bad. (
      bad.0,
      λ octets is. bad.1 _ (left_encoded c.args.text.now c.in_ok-rest.rest.now c.args.out.now.items c.push_groups.new.out.items octets (grind (arith, nat_tests, c.is_empty-2.ensures, c.if-is_empty-2.false)) c.in_ok-rest.ensures is),
    ))
    c.push_last.ensures.fault
