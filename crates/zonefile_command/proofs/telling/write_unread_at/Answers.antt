use Rattle.std.proofs.Common.{refl}
use Rattle.std.proofs.lemmas.Result.{MatchResult-weaker}
use Rattle.zonefile_command.specs.Told.{included, main}
use Rattle.zonefile_command.proofs.telling.write_unread_at.Goals as goal

pub returns-in-Some-clause-written : goal.returns-in-Some-clause-written
returns-in-Some-clause-written g c =
    MatchResult-weaker c.write_unreadable.result c.write_unreadable.ensures.written (λ x w. (_, included c.in-Some.place refl, w)) (λ e h. h)

pub returns-in-Some-clause-part : goal.returns-in-Some-clause-part
returns-in-Some-clause-part g c =
    MatchResult-weaker c.write_unreadable.result c.write_unreadable.ensures.part (λ x h. h) (λ e w. (_, included c.in-Some.place refl, w))

pub returns-in-None-clause-written : goal.returns-in-None-clause-written
returns-in-None-clause-written g c =
    MatchResult-weaker c.write_unreadable_main.result c.write_unreadable_main.ensures.written (λ x w. (_, main refl, w)) (λ e h. h)

pub returns-in-None-clause-part : goal.returns-in-None-clause-part
returns-in-None-clause-part g c =
    MatchResult-weaker c.write_unreadable_main.result c.write_unreadable_main.ensures.part (λ x h. h) (λ e w. (_, main refl, w))
