use Rattle.zone_name.proofs.Common.{subst, sym, Spells}
use Rattle.zone_name.proofs.name.Name.set_from_text.Goals as goal

pub returns-clause-only : goal.returns-clause-only
returns-clause-only c = λ name spells.
    c.read_name.ensures.only name (subst (λ o. Spells o c.args.text.now name) (sym c.octets_of-above.ensures.labels) spells)
