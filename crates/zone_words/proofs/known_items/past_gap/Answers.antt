use Rattle.zone_words.proofs.KnownItems.{come_past, gap_come}
use Rattle.zone_words.proofs.known_items.past_gap.Goals as goal

pub loop-after-preserved : goal.loop-after-preserved
loop-after-preserved c = come_past c.args.octets.now c.loop-after.rest.now c.in-Some-past_token.after.now c.in-Some-past_token.ensures.shorter c.in-Some-past_token.ensures.found c.loop-after.invariant

pub returns : goal.returns
returns c = gap_come c.args.octets.now c.loop-after.rest.now c.in_default-past_token.ensures.none c.loop-after.invariant
