-- The next record that goes is taken.
use Rattle.std.proofs.Common.{arith, refl, sym, ◌≡◌}
use Rattle.std.proofs.lemmas.Result.{err_from_is_err_and}
use Rattle.zone_difference.proofs.Taking.{following, left_more, removal_taken, some_goes}
use Rattle.zone_difference.proofs.changes.Changes.take_removal.Goals as goal

pub next-requires : goal.next-requires
next-requires c =
    let (case, records, others, gone, come, left) = c.requires.left in
    let n = following case others gone c.args.self.now.removed c.args.self.now.removal c.in-Some.gone (sym c.in-Some.ensures.value) left.removals in
    (case, others, n.0, n.2)

pub returns-clause-taken : goal.returns-clause-taken
returns-clause-taken c case records others gone come left =
    removal_taken case records others gone come c.args.self.now _ c.in-Some.gone left (sym c.in-Some.ensures.value) c.requires.first (λ more lacking. c.in_ok-self.ensures.taken case others more lacking) refl refl

pub returns-clause-fewer : goal.returns-clause-fewer
returns-clause-fewer c = omega (arith, c.in_ok-self.ensures.fewer, left_more c.args.self.now.removed c.args.self.now.removal c.in-Some.gone (sym c.in-Some.ensures.value))

pub returns-in_err-self-clause-fails : goal.returns-in_err-self-clause-fails
returns-in_err-self-clause-fails c =
    let p = err_from_is_err_and c.from_residual.result c.from_residual.ensures.1 in
    rw p.1 (λ case records others gone come left.
    let n = following case others gone c.args.self.now.removed c.args.self.now.removal c.in-Some.gone (sym c.in-Some.ensures.value) left.removals in
    c.in_err-self.ensures.fails case others n.0 n.2)
