use Rattle.std.proofs.Common.{◌∙◌}
use Rattle.std.proofs.lemmas.Result.{MatchResult-weaker}
use Rattle.zonenorm_c.proofs.Reports.{from_nothing}
use Rattle.zonenorm_c.proofs.files.expansion_reply.Goals as goal

pub returns : goal.returns
returns c =
    rw c.reply_with.ensures.answer (
      c.args.place,
      c.refused_at.ensures.status,
      c.refused_at.ensures.fault ∙ c.number.ensures,
      c.refused_at.ensures.at,
      c.reply_with.ensures.text _ (MatchResult-weaker c.write_expansion_fault-told.result c.write_expansion_fault-told.ensures.written (λ x h. from_nothing _ _ _ c.new-writer.ensures h) (λ e h. h)),
    )
