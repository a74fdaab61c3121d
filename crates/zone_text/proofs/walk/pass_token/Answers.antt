use Rattle.zone_text.proofs.Common.{ap, arith, length, length-drop, refl}
use Rattle.zone_text.proofs.Scanning.Walking.{stands, walked_lost, walked_token}
use Rattle.zone_text.proofs.Tokens.Spans.{token_within}
use Rattle.zone_text.proofs.walk.pass_token.Goals as goal

pub returns-in_ok-keep_token-in-Whole : goal.returns-in_ok-keep_token-in-Whole
returns-in_ok-keep_token-in-Whole c =
    let ends = (rw c.in-Whole.is at c.token_span.ensures) c.requires.begins in
    let fits = token_within c.args.token.now c.in-Whole.len ends in
    record {
      walked = walked_token c.args.octets.now c.args.token.now c.split_at.result.0.now c.split_at.result.1.now c.args.after.depth c.args.after.feeds c.in_ok-keep_token-in-Whole.field-0 c.in-Whole.len c.args.keeps _ _ c.requires.begun.walked ends c.split_at.ensures.front c.split_at.ensures.back c.in_ok-keep_token-in-Whole.ensures.kept;
      tells = c.past.ensures;
      shorter = omega (arith, fits.0, fits.1, ap length c.split_at.ensures.back, length-drop c.in-Whole.len c.args.token.now);
    }

pub returns-in-Open : goal.returns-in-Open
returns-in-Open c =
    let token = rw c.in-Open.is at c.token_span.ensures in
    (stands c.args.octets.now c.args.token.now c.args.after.depth c.args.after.feeds c.in-Open.seen c.args.keeps _ _ c.requires.begun.walked token refl (omega arith) (omega arith) refl refl, tt)

pub returns-in-Lost : goal.returns-in-Lost
returns-in-Lost c =
    (walked_lost c.args.octets.now c.args.token.now c.args.after.depth c.args.after.feeds c.in-Lost.len _ c.args.keeps _ c.requires.begun.walked (rw c.in-Lost.is at c.token_span.ensures) refl, tt)
