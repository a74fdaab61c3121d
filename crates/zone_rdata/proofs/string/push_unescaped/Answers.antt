use Rattle.zone_rdata.proofs.Common.{BadEscape, StringFault, arith, bad_escape, nat_tests, raw}
use Rattle.zone_rdata.proofs.Strings.StringSteps.{read_full}
use Rattle.zone_rdata.proofs.string.push_unescaped.Goals as goal

pub returns-then-is_full-clause-fault : goal.returns-then-is_full-clause-fault
returns-then-is_full-clause-fault c = λ fault e.
    let own = read_full (raw c.args.item) c.loop-octet.octets.items c.loop-octet.rest.now c.in-Octet.after.now c.in-Octet.octet c.loop-octet.invariant c.in-Octet.ensures (grind (arith, nat_tests, c.is_full.ensures, c.if-is_full.true)) in
    grind (arith, own, e, c.of.ensures)

pub returns-in-BadEscape-clause-fault : goal.returns-in-BadEscape-clause-fault
returns-in-BadEscape-clause-fault c = λ fault e.
    let own : StringFault (raw c.args.item) BadEscape = bad_escape c.loop-octet.invariant.before c.loop-octet.rest.now c.loop-octet.invariant.reaches c.in-BadEscape.ensures in
    grind (arith, own, e, c.of-in-BadEscape.ensures)
