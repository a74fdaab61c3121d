use Rattle.zone_rdata.proofs.Common.{refl, ◌∷◌, ◌+◌, sym, ap, ◌∙◌, arith}
use Rattle.data_names.proofs.Walks.{passed_more, found, no_first, next_fits}
use Rattle.data_names.proofs.names.name_len.Goals as goal

pub returns-in_default-clause-none : goal.returns-in_default-clause-none
returns-in_default-clause-none c = no_first c.args.octets.now c.loop-first.rest.now c.loop-first.len c.loop-first.invariant.0 (grind (arith, c.in_default.ensures.cases))

pub returns-then-count-eq0-clause-found : goal.returns-then-count-eq0-clause-found
returns-then-count-eq0-clause-found c =
    let p = c.loop-first.invariant.0 in
    (p.labels, c.in-Some.following.now, found c.args.octets.now c.loop-first.rest.now c.loop-first.len c.in-Some.following.now p (grind (arith, c.in-Some.ensures.cases, c.from-count.ensures, c.if-count-eq0.true)) c.loop-first.invariant.1, p.len)

pub returns-then-count-gt63-clause-none : goal.returns-then-count-gt63-clause-none
returns-then-count-gt63-clause-none c name tail b = let fits = next_fits c.args.octets.now c.loop-first.rest.now c.loop-first.len c.from-count.result c.in-Some.following.now c.loop-first.invariant.0 (c.in-Some.ensures.cases.0 ∙ ap (λ n. n ∷ c.in-Some.following.now) (sym c.from-count.ensures)) (omega (arith, c.if-count-eq0.false)) name tail b in omega (arith, fits.0, c.if-count-gt63.true)

pub returns-then-following-count-clause-none : goal.returns-then-following-count-clause-none
returns-then-following-count-clause-none c name tail b = let fits = next_fits c.args.octets.now c.loop-first.rest.now c.loop-first.len c.from-count.result c.in-Some.following.now c.loop-first.invariant.0 (c.in-Some.ensures.cases.0 ∙ ap (λ n. n ∷ c.in-Some.following.now) (sym c.from-count.ensures)) (omega (arith, c.if-count-eq0.false)) name tail b in omega (arith, fits.2, c.if-following-count.true)

pub returns-then-len-count-gt255-clause-none : goal.returns-then-len-count-gt255-clause-none
returns-then-len-count-gt255-clause-none c name tail b = let fits = next_fits c.args.octets.now c.loop-first.rest.now c.loop-first.len c.from-count.result c.in-Some.following.now c.loop-first.invariant.0 (c.in-Some.ensures.cases.0 ∙ ap (λ n. n ∷ c.in-Some.following.now) (sym c.from-count.ensures)) (omega (arith, c.if-count-eq0.false)) name tail b in omega (arith, fits.1, c.if-len-count-gt255.true)

pub loop-first-preserved : goal.loop-first-preserved
loop-first-preserved c =
    (passed_more c.args.octets.now c.loop-first.rest.now c.loop-first.len (c.loop-first.len + (c.from-count.result + 1)) c.from-count.result c.in-Some.following.now c.split_at.result.1.now c.loop-first.invariant.0 (c.in-Some.ensures.cases.0 ∙ ap (λ n. n ∷ c.in-Some.following.now) (sym c.from-count.ensures)) (omega (arith, c.if-count-eq0.false)) (omega (arith, c.if-count-gt63.false)) (omega (arith, c.if-following-count.false)) c.are_octets.ensures.each c.split_at.ensures.back refl, omega (arith, c.if-len-count-gt255.false))
