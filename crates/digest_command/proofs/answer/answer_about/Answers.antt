use Rattle.std.proofs.Common.{ℕ, List, subst, sym}
use Rattle.digest_command.specs.Run.{IsAnswer, digest}
use Rattle.digest_command.specs.declared.order.Order.TheVariants.{Digest}
use Rattle.digest_command.proofs.answer.answer_about.Goals as goal

pub returns-in_ok-record_line-in-Digest-clause-answered : goal.returns-in_ok-record_line-in-Digest-clause-answered
returns-in_ok-record_line-in-Digest-clause-answered c =
    rw c.in-Digest.is (subst (λ (t : List ℕ). IsAnswer c.args.zone.now (Digest c.in-Digest.field-0 c.in-Digest.algorithm c.in-Digest.notation) t 0) (sym c.in_ok-record_line-in-Digest.ensures)
    (digest c.in-Digest.field-0 c.in-Digest.algorithm c.in-Digest.notation c.in_ok-rr-in-Digest.rr c.in_ok-rr-in-Digest.ensures.wanted))
