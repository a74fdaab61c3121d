use Rattle.zone_text.proofs.Heads.WordsLeft.{after_words, has_head, kind_missing, kind_unknown}
use Rattle.zone_text.proofs.Common.{of_parts, err_from_is_err_and, refl, rules, sym, ◌∙◌}
use Rattle.zone_text.proofs.parser_state.ParserState.head_of.Goals as goal

pub returns-in_err-words-clause-fault : goal.returns-in_err-words-clause-fault
returns-in_err-words-clause-fault c origin before entry owner is =
    let p = err_from_is_err_and c.from_residual.result c.from_residual.ensures.1 in
    rw (p.1, p.2) (of_parts owner _ is.owner is.parts c.in_err-words.ensures.fault)

pub returns-in_default-clause-fault : goal.returns-in_default-clause-fault
returns-in_default-clause-fault c origin before entry owner is =
    kind_missing origin before entry _ owner _ _ _ is c.in_ok-words.ensures.found
    (λ text more e. c.in_default.ensures.none text more (sym (after_words c.args.items.now c.split_at.result.1.now c.in_ok-words.count _ c.split_at.ensures.back refl) ∙ e))

pub returns-in_err-kind-clause-fault : goal.returns-in_err-kind-clause-fault
returns-in_err-kind-clause-fault c origin before entry owner is =
    let p = err_from_is_err_and c.from_residual-in_err-kind.result c.from_residual-in_err-kind.ensures.1 in
    rw (p.1, p.2)
    (kind_unknown origin before entry _ owner _ _ _ _ _ _ is c.in_ok-words.ensures.found (after_words c.args.items.now c.split_at.result.1.now c.in_ok-words.count _ c.split_at.ensures.back c.in-Some.ensures.found) c.in_err-kind.ensures.err)

pub returns-clause-found : goal.returns-clause-found
returns-clause-found c origin before entry owner is =
    let after = after_words c.args.items.now c.split_at.result.1.now c.in_ok-words.count _ c.split_at.ensures.back c.in-Some.ensures.found in (
      has_head origin before entry _ owner _ _ _ _ _ _ _ is c.in_ok-words.ensures.found after c.in_ok-kind.ensures.found c.known.ensures c.unwrap_or.ensures,
      (search rules),
    )
