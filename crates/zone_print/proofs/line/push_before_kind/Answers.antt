-- The parts that are pushed join to what stands before the type.
use Rattle.zone_print.proofs.Common.{◌∙◌, subst, MatchResult-weaker}
use Rattle.zone_print.proofs.line.push_before_kind.Goals as goal

pub returns : goal.returns
returns g c =
    let joins = g.met.S.Sink.joins in
    let digits = subst (λ text. g.S.Sink.takes c.push.new.self text c.push-2.new.self) (c.as_bytes.ensures.value ∙ c.format.ensures.text) c.in_ok-push-2.ensures.ok in
    let ttl = joins _ _ _ _ _ c.in_ok-push.ensures.ok digits in
    let class = joins _ _ _ _ _ ttl (joins _ _ _ _ _ c.in_ok-push-3.ensures.ok c.in_ok-push_word.ensures.ok) in
    MatchResult-weaker c.push-4.result c.push-4.ensures.ok (λ x space. joins _ _ _ _ _ class space) (λ error nothing. nothing)
