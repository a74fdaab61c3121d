use Rattle.zone_wire.proofs.Common.{ap, raw_from, sym, ◌-◌, ◌∙◌, ◌∷◌}
use Rattle.zone_wire.proofs.Records.Pending.{one_more, one_more_is}
use Rattle.zone_wire.proofs.answers.Answers.next_in.Goals as goal

pub record_at-answer-requires : goal.record_at-answer-requires
record_at-answer-requires c = let more = one_more c.self.inside.message.now c.self.inside.left c.self.inside.offset c.self.invariant c.if-self-eq0.false in (more.first, more.is)

pub invariant_of-self : goal.invariant_of-self
invariant_of-self c = (one_more_is c.self.inside.message.now c.self.inside.left c.self.inside.offset c.self.invariant c.if-self-eq0.false c.record_at-answer.result.at c.record_at-answer.ensures.at c.answer.inside.fields.end (ap (λ r. r.at.end) (sym c.answer.view_is))).0

pub returns-clause-some : goal.returns-clause-some
returns-clause-some c = sym c.self.view_is ∙ (one_more_is c.self.inside.message.now c.self.inside.left c.self.inside.offset c.self.invariant c.if-self-eq0.false c.record_at-answer.result.at c.record_at-answer.ensures.at c.answer.inside.fields.end (ap (λ r. r.at.end) (sym c.answer.view_is))).1 ∙ ap (λ octets. record { octets = octets; at = c.record_at-answer.result.at } ∷ raw_from c.self.inside.message.now (c.self.inside.left - 1) c.answer.inside.fields.end) (sym c.record_at-answer.ensures.octets)
