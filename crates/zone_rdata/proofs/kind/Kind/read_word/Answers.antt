use Rattle.zone_rdata.proofs.Common.{IfErr-weaker, fault_for, nameless}
use Rattle.zone_rdata.proofs.Words.AnyCase.{kind_refused}
use Rattle.zone_rdata.proofs.kind.Kind.read_word.Goals as goal

pub returns-in-Some-clause-err : goal.returns-in-Some-clause-err
returns-in-Some-clause-err c = IfErr-weaker c.admitted.result _ _ (λ cause. kind_refused c.args.word.now c.in-Some.number c.in-Some.ensures.found (fault_for cause)) c.admitted.ensures.err

pub returns-in-None-clause-err : goal.returns-in-None-clause-err
returns-in-None-clause-err c = nameless c.in-None.ensures.none
