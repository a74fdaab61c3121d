use Rattle.type_data.proofs.Common.{IsDateTime, false, subst, sym, true, ◌≡◌}
use Rattle.type_data.proofs.OfKinds.Time.Once.{no_date}
use Rattle.type_data.proofs.kinds.time.seconds_of_date.Goals as goal

pub returns-in_default-clause-fault : goal.returns-in_default-clause-fault
returns-in_default-clause-fault c = no_date c.args.text.now c.requires (λ digits date. let h : false ≡ true = c.if-exists.ensures.1 (subst IsDateTime (sym c.in-Some.ensures.found.1) date) in cc)

pub returns-in_default-2-clause-fault : goal.returns-in_default-2-clause-fault
returns-in_default-2-clause-fault c = no_date c.args.text.now c.requires (λ digits date. c.in_default.ensures.none digits)
