use Rattle.type_data.proofs.Common.{IfNone, IfSome, IsScaled, List, NothingIs, UpTo, subst, ℕ}
use Rattle.type_data.proofs.kinds.location.metres.centimetres.Goals as goal

pub returns-clause-found : goal.returns-clause-found
returns-clause-found c = subst (λ (t : List ℕ). IfSome c.scaled.result (UpTo c.args.most (IsScaled 2 t))) c.before_m.ensures c.scaled.ensures.found

pub returns-clause-none : goal.returns-clause-none
returns-clause-none c = subst (λ (t : List ℕ). IfNone c.scaled.result (NothingIs (UpTo c.args.most (IsScaled 2 t)))) c.before_m.ensures c.scaled.ensures.none
