use Rattle.type_data.proofs.Common.{arith, map, map_push, nat_tests, subst, sym, ◌+◌, ◌∙◌, ap}
use Rattle.type_data.proofs.OfParameters.SentOctets.{HasSent, sent_more, sent_wrong}
use Rattle.type_data.specs.Parameters.Machine.Printed.{sent_of}
use Rattle.type_data.proofs.parameters.printing.sent.parameters_of.Goals as goal
use Rattle.type_data.proofs.parameters.printing.sent.parameters_of.Goals.{then-parameter-least-via-then-parameter-least, then-parameter-least-via-else-parameter-least+then-parameter}

pub returns-then-parameter-least-clause-none : goal.returns-then-parameter-least-clause-none
returns-then-parameter-least-clause-none c =
    sent_wrong c.args.octets.now c.loop-rest.rest.now c.in_ok-parameter.after.now (map sent_of c.loop-rest.parameters.items) c.loop-rest.least (sent_of c.in_ok-parameter.parameter) c.loop-rest.invariant c.in_ok-parameter.ensures.found (λ rises valid. elim c.then-parameter-least.branch [ then-parameter-least-via-then-parameter-least w ↦ grind (arith, nat_tests, w.if-parameter-least, rises) | then-parameter-least-via-else-parameter-least+then-parameter w ↦ grind (arith, nat_tests, w.if-parameter, valid) ])

pub loop-rest-preserved : goal.loop-rest-preserved
loop-rest-preserved c =
    let s = sent_of c.in_ok-parameter.parameter in
    let grown = ap (map sent_of) c.in_ok-extend_from_slice.ensures.items ∙ map_push sent_of c.loop-rest.parameters.items c.in_ok-parameter.parameter in
    subst (λ t. HasSent c.args.octets.now c.in_ok-parameter.after.now t (s.number + 1)) (sym grown) (sent_more c.args.octets.now c.loop-rest.rest.now c.in_ok-parameter.after.now (map sent_of c.loop-rest.parameters.items) c.loop-rest.least s c.loop-rest.invariant c.in_ok-parameter.ensures.found (grind (arith, nat_tests, c.if-parameter-least.false)) (grind (arith, nat_tests, c.if-parameter.false)))
