use Rattle.std.proofs.lemmas.Result.{MatchResult-weaker}
use Rattle.zonefile_command.proofs.Running.{by_name, of_innermost}
use Rattle.zonefile_command.proofs.telling.write_unread.Goals as goal

pub returns-in-Some-clause-written : goal.returns-in-Some-clause-written
returns-in-Some-clause-written g c =
    MatchResult-weaker c.write_unread_at.result c.write_unread_at.ensures.written (λ x h. by_name _ _ _ c.in-Some.ensures h) (λ e h. h)

pub returns-in-Some-clause-part : goal.returns-in-Some-clause-part
returns-in-Some-clause-part g c =
    MatchResult-weaker c.write_unread_at.result c.write_unread_at.ensures.part (λ x h. h) (λ e h. by_name _ _ _ c.in-Some.ensures h)

pub returns-in-None-clause-part : goal.returns-in-None-clause-part
returns-in-None-clause-part g c =
    MatchResult-weaker c.write_unread_at-in-None.result c.write_unread_at-in-None.ensures.part (λ x h. h) (λ e h. of_innermost _ _ _ c.in-None.ensures h)
