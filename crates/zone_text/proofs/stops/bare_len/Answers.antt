use Rattle.std.proofs.Common.{◌/◌}
use Rattle.std.specs.Int.Count.{count_trailing_zeros}
use Rattle.zone_text.proofs.Common.{arith, length, refl, ◌-◌, ◌^◌}
use Rattle.zone_text.proofs.Scanning.StopMarks.{goes_on_64, last_found, stop_found}
use Rattle.zone_text.proofs.stops.bare_len.Goals as goal

pub returns-then-bits-ne0 : goal.returns-then-bits-ne0
returns-then-bits-ne0 c =
    let found = stop_found (record { bits = c.stop_bits-bits.result / 2 ^ count_trailing_zeros 64 c.stop_bits-bits.result / 2; unseen = length c.split_at.result.1.now - 64 }) c.args.octets.now c.split_at.result.1.now c.loop-seen.seen c.stop_bits-bits.result _ (omega (arith, c.split_at.ensures.back_len, c.loop-seen-test.true)) c.split_at.ensures.back c.stop_bits-bits.ensures c.if-bits-ne0.true refl refl refl c.loop-seen.invariant.so_far in record { len = found.0; tells = found.1 }

pub loop-seen-preserved : goal.loop-seen-preserved
loop-seen-preserved c = grind (arith, goes_on_64 c.args.octets.now c.split_at.result.1.now c.loop-seen.seen c.stop_bits-bits.result c.loop-seen.invariant.within c.loop-seen-test.true c.split_at.ensures.back c.stop_bits-bits.ensures c.if-bits-ne0.false c.loop-seen.invariant.so_far)

pub returns : goal.returns
returns c = grind (arith, last_found (record { bits = 0; unseen = length c.split_at-2.result.1.now - c.min.result }) c.args.octets.now c.split_at-2.result.1.now c.loop-seen.seen c.plain_bare_len-more.result c.split_at-2.ensures.back c.plain_bare_len-more.ensures.within c.plain_bare_len-more.ensures.len refl)
