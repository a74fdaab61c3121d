-- The next record that comes is taken.
use Rattle.std.proofs.Common.{arith, refl, sym, ◌≡◌}
use Rattle.std.proofs.lemmas.Result.{err_from_is_err_and}
use Rattle.zone_difference.proofs.Taking.{addition_taken, following, left_more, none_following, none_goes}
use Rattle.zone_difference.proofs.changes.Changes.take_addition.Goals as goal

pub next-requires : goal.next-requires
next-requires c =
    let (case, records, others, gone, come, left) = c.requires.left in
    let n = following case records come c.args.self.now.added c.args.self.now.addition c.in-Some.come (sym c.in-Some.ensures.value) left.additions in
    (case, records, n.0, n.2)

pub returns-clause-taken : goal.returns-clause-taken
returns-clause-taken c case records others gone come left =
    addition_taken case records others gone come c.args.self.now _ c.in-Some.come left (sym c.in-Some.ensures.value) c.requires.first (λ more lacking. c.in_ok-self.ensures.taken case records more lacking) refl refl

pub returns-clause-fewer : goal.returns-clause-fewer
returns-clause-fewer c = omega (arith, c.in_ok-self.ensures.fewer, left_more c.args.self.now.added c.args.self.now.addition c.in-Some.come (sym c.in-Some.ensures.value))

pub returns-in_err-self-clause-fails : goal.returns-in_err-self-clause-fails
returns-in_err-self-clause-fails c =
    let p = err_from_is_err_and c.from_residual.result c.from_residual.ensures.1 in
    rw p.1 (λ case records others gone come left.
    let n = following case records come c.args.self.now.added c.args.self.now.addition c.in-Some.come (sym c.in-Some.ensures.value) left.additions in
    c.in_err-self.ensures.fails case records n.0 n.2)
