use Rattle.std.proofs.Common.{◌∙◌}
use Rattle.std.proofs.lemmas.Result.{MatchResult-weaker}
use Rattle.zonenorm_c.proofs.Reports.{from_nothing}
use Rattle.zonenorm_c.proofs.files.fault_reply.Goals as goal

pub returns-in-Some : goal.returns-in-Some
returns-in-Some c =
    rw (c.in-Some.is, c.reply_with.ensures.answer) (
      c.args.place,
      c.refused_at-answer.ensures.status,
      c.refused_at-answer.ensures.fault ∙ c.number.ensures,
      c.refused_at-answer.ensures.at,
      c.reply_with.ensures.text _ (MatchResult-weaker c.write_data_fault-told.result c.write_data_fault-told.ensures.written (λ x h. from_nothing _ _ _ c.new-writer.ensures h) (λ e h. h)),
    )

pub returns-in-None : goal.returns-in-None
returns-in-None c =
    rw (c.in-None.is, c.reply_with-in-None.ensures.answer) (
      c.args.place,
      c.refused_at.ensures.status,
      c.refused_at.ensures.fault ∙ c.number-in-None.ensures,
      c.refused_at.ensures.at,
      c.reply_with-in-None.ensures.text _ (MatchResult-weaker c.write_fault-told.result c.write_fault-told.ensures.written (λ x h. from_nothing _ _ _ c.new-writer.ensures h) (λ e h. h)),
    )
