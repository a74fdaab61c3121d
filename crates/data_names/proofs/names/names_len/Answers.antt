use Rattle.std.proofs.Common.{refl, arith}
use Rattle.data_names.proofs.Walks.{many_more, no_more}
use Rattle.data_names.proofs.names.names_len.Goals as goal

pub returns-in_default-clause-none : goal.returns-in_default-clause-none
returns-in_default-clause-none c = no_more c.loop.counter c.args.count c.args.octets.now _ c.loop.len c.loop.invariant (omega (arith, c.loop-test.true)) c.split_at.ensures.back (grind (arith, c.in_default.ensures.none))

pub loop-preserved : goal.loop-preserved
loop-preserved c =
    let found = c.in-Some.ensures.found in
    many_more c.loop.counter c.args.octets.now _ c.loop.len c.in-Some.next _ c.loop.invariant c.split_at.ensures.back found.0 found.1 found.2 found.3 refl
