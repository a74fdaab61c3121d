use Rattle.zone_text.proofs.Common.{on_ok_weaker, refl}
use Rattle.zone_text.proofs.parser_state.ParserState.set_owner.Goals as goal

pub returns-in-Some-clause-found : goal.returns-in-Some-clause-found
returns-in-Some-clause-found c =
    on_ok_weaker c.set_from_text.result (λ spells. record { name = c.set_from_text.new.self; spelled = spells; others = refl }) c.set_from_text.ensures.found
