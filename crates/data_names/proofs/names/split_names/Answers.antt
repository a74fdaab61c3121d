use Rattle.std.proofs.Common.{arith}
use Rattle.data_names.proofs.Walks.{no_names, whole}
use Rattle.data_names.proofs.names.split_names.Goals as goal

pub returns-in_default-extent_len-clause-none : goal.returns-in_default-extent_len-clause-none
returns-in_default-extent_len-clause-none c = no_names c.in-Some.at _ c.args.octets.now c.split_at.result.1.now (grind (arith, c.names_at.ensures, c.in-Some.is)) c.split_at.ensures.back (grind (arith, c.in_default-extent_len.ensures.none))

pub returns-clause-found : goal.returns-clause-found
returns-clause-found c =
    let p = c.in-Some-extent_len.ensures.found in
    let all = whole c.in-Some.at c.args.octets.now c.split_at.result.0.now c.split_at.result.1.now c.split_at-2.result.0.now c.split_at-2.result.1.now c.in-Some-extent_len.len c.split_at.ensures.front c.split_at.ensures.back (omega (arith, c.if-octets-at.false)) p c.split_at-2.ensures.front c.split_at-2.ensures.back in
    (c.in-Some.at, p.names, grind (arith, c.names_at.ensures, c.in-Some.is), all.0, all.1)
