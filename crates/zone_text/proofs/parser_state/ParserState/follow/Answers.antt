use Rattle.zone_text.proofs.Common.{ap, directive_in, err_from_is_err_and, ◌∙◌}
use Rattle.zone_text.proofs.Entries.RecordsRead.{origin_set, ttl_refused, ttl_set}
use Rattle.zone_text.proofs.parser_state.ParserState.follow.Goals as goal

pub returns-in_err-ttl_in-in-Ttl-clause-fault : goal.returns-in_err-ttl_in-in-Ttl-clause-fault
returns-in_err-ttl_in-in-Ttl-clause-fault c origin before entry so_far is =
    let p = err_from_is_err_and c.from_residual-in_err-ttl_in-in-Ttl.result c.from_residual-in_err-ttl_in-in-Ttl.ensures.1 in
    rw (p.1, p.2) (ttl_refused origin before entry _ _ _ (is ∙ ap directive_in c.in-Ttl.is) c.in_ok-text-in-Ttl.ensures.found c.in_err-ttl_in-in-Ttl.ensures.fault)

pub returns-in_ok-self-in-Origin-clause-found : goal.returns-in_ok-self-in-Origin-clause-found
returns-in_ok-self-in-Origin-clause-found c origin before entry so_far is =
    origin_set origin before entry c.args.self.now _ _ _ so_far (is ∙ ap directive_in c.in-Origin.is) c.in_ok-text-in-Origin.ensures.found c.in_ok-self-in-Origin.ensures.found

pub returns-in_ok-ttl_in-in-Ttl-clause-found : goal.returns-in_ok-ttl_in-in-Ttl-clause-found
returns-in_ok-ttl_in-in-Ttl-clause-found c origin before entry so_far is =
    ttl_set origin before entry c.args.self.now _ _ _ so_far (is ∙ ap directive_in c.in-Ttl.is) c.in_ok-text-in-Ttl.ensures.found c.in_ok-ttl_in-in-Ttl.ensures.found
