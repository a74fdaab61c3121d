use Rattle.zone_words.proofs.Common.{ap, arith, length, length-append, refl, ◌+◌, ◌∙◌, ◌≡◌}
use Rattle.zone_words.proofs.FedTexts.{fed_in_part, fed_on, on_err, rest_follows}
use Rattle.zone_words.proofs.fed_writer.FedWriter.feed.Goals as goal

pub returns-in_err-rest-clause-in_part : goal.returns-in_err-rest-clause-in_part
returns-in_err-rest-clause-in_part c = on_err c.from_residual.result (fed_in_part _ _ _ _ _ c.loop-self.invariant.fed c.in_err-rest.ensures.told c.in_err-rest.ensures.written)

pub loop-self-preserved : goal.loop-self-preserved
loop-self-preserved c =
    let front = c.in_ok-rest.ensures.front in
    let parts : length c.loop-self.rest.now ≡ length front.part + length c.in_ok-rest.rest.now = ap length front.whole ∙ length-append front.part c.in_ok-rest.rest.now in
    record {
      is = c.in_ok-rest.ensures.is;
      lines = omega (arith, parts, front.lines, c.loop-self.invariant.lines);
      counts = omega (arith, parts, front.counts, c.loop-self.invariant.counts);
      fed = fed_on _ _ _ _ _ _ c.loop-self.invariant.fed front;
    }

pub returns-in_err-push_as_it_is-clause-in_part : goal.returns-in_err-push_as_it_is-clause-in_part
returns-in_err-push_as_it_is-clause-in_part c = on_err c.from_residual-in_err-push_as_it_is.result (fed_in_part _ _ _ _ _ c.loop-self.invariant.fed c.in_err-push_as_it_is.ensures.refusals c.in_err-push_as_it_is.ensures.written)

pub returns-clause-follow : goal.returns-clause-follow
returns-clause-follow c = rest_follows _ _ _ _ _ c.loop-self.invariant.fed (c.is_settled.ensures.yes c.loop-self-test.false) refl refl c.push_as_it_is.ensures.line c.push_as_it_is.ensures.inherited c.push_as_it_is.ensures.refusals c.in_ok-push_as_it_is.ensures.pushed
