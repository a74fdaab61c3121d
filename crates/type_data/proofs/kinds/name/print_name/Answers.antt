use Rattle.type_data.proofs.Common.{arith, nat_tests}
use Rattle.type_data.proofs.OfKinds.Name.Printed.{labels_front, root_front}
use Rattle.type_data.proofs.kinds.name.print_name.Goals as goal
use Rattle.type_data.proofs.kinds.name.print_name.Goals.{else-octets-rest-eq1, then-octets-rest-eq1+in_ok-push}

pub returns-clause-printed : goal.returns-clause-printed
returns-clause-printed c =
    elim c.if-octets-rest-eq1.branch [
      | then-octets-rest-eq1+in_ok-push w ↦ root_front c.args.octets.now c.in_ok-rest.rest.now c.args.out.now.items c.print_labels.new.out.items c.if-octets-rest-eq1.out.items c.in_ok-rest.ensures.printed (grind (arith, nat_tests, w.if-octets-rest-eq1)) (cc (w.out-is, w.in_ok-push.ensures.items))
      | else-octets-rest-eq1 w ↦ rw w.out-is (labels_front c.args.octets.now c.in_ok-rest.rest.now c.args.out.now.items c.print_labels.new.out.items c.in_ok-rest.ensures.printed (λ one. grind (arith, nat_tests, one, w.if-octets-rest-eq1)))
    ]
