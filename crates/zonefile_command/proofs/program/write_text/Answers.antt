use Rattle.std.proofs.lemmas.Result.{MatchResult-weaker}
use Rattle.zonefile_command.proofs.Shown.{appended}
use Rattle.zonefile_command.proofs.program.write_text.Goals as goal

pub returns-in-Presentation-clause-text : goal.returns-in-Presentation-clause-text
returns-in-Presentation-clause-text g c =
    MatchResult-weaker c.write_presented.result c.write_presented.ensures.text
    (λ x (text, is, written). appended c.args.notation c.args.zone.now _ _ c.in-Presentation.is text is written) (λ e h. h)
