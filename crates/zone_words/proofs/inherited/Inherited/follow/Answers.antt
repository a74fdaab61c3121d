use Rattle.zone_words.proofs.Common.{statement_of, subst}
use Rattle.zone_words.specs.Machine.Further.{IsForm}
use Rattle.zone_words.proofs.inherited.Inherited.follow.Goals as goal

pub returns-in-Directive : goal.returns-in-Directive
returns-in-Directive c origin before entry has is =
    c.follow_directive.ensures origin before entry has (subst (IsForm (statement_of entry)) c.in-Directive.is is)

pub returns-in-Record : goal.returns-in-Record
returns-in-Record c origin before entry has is =
    c.follow_record.ensures origin before entry has (subst (IsForm (statement_of entry)) c.in-Record.is is)
