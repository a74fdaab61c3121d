use Rattle.zone_text.proofs.Common.{length, refl, ◌-◌}
use Rattle.zone_text.proofs.Scanning.StopMarks.{known_len, known_rest, unknown_len, unknown_rest}
use Rattle.zone_text.proofs.stops.Stops.bare_len.Goals as goal

pub returns-then-self-eq0-clause-len : goal.returns-then-self-eq0-clause-len
returns-then-self-eq0-clause-len c = cc (unknown_len c.args.self c.args.octets.now c.split_at.result.1.now (length c.args.octets.now - c.args.self.unseen) c.bare_len-more.result.0 c.requires.tells c.if-self-eq0.true refl c.split_at.ensures.back c.bare_len-more.ensures.len)

pub returns-then-self-eq0-clause-tells : goal.returns-then-self-eq0-clause-tells
returns-then-self-eq0-clause-tells c =
    unknown_rest c.bare_len-more.result.1 c.args.octets.now c.split_at.result.1.now (length c.args.octets.now - c.args.self.unseen) c.bare_len-more.result.0 c.split_at.ensures.back c.bare_len-more.ensures.tells

pub returns-clause-tells : goal.returns-clause-tells
returns-clause-tells c =
    known_rest c.args.self _ c.args.octets.now _ c.requires.tells c.if-self-eq0.false (known_len c.args.self c.args.octets.now c.requires.tells c.if-self-eq0.false) refl refl
