use Rattle.type_data.proofs.Common.{AllByRecursion, IsShort, ap, append-nil, flat_map, map, sent_octets, subst, sym, ◌++◌, ◌∙◌}
use Rattle.type_data.proofs.OfParameters.Reading.{entry_sent, sorted_by}
use Rattle.type_data.proofs.parameters.stated.push_sent.Goals as goal

pub returns-clause-sent : goal.returns-clause-sent
returns-clause-sent c = record {
  ascend = sorted_by c.args.values.now.entries c.iter-number-items.ensures.ordered;
  short = c.loop-number.invariant.short (subst (λ t. AllByRecursion IsShort (map entry_sent t)) (sym c.in-None.ensures.steps.0) tt);
  written = sym (append-nil c.loop-number.out.items) ∙ ap (λ t. c.loop-number.out.items ++ flat_map sent_octets (map entry_sent t)) (sym c.in-None.ensures.steps.0) ∙ c.loop-number.invariant.written;
}
