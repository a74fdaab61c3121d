use Rattle.std.proofs.lemmas.Simd.{length-chunk}
use Rattle.zone_text.proofs.Common.{arith}
use Rattle.zone_text.proofs.Scanning.StopMarks.{either_mask, first_seen, is_either, none_past}
use Rattle.zone_text.proofs.until.len_until.Goals as goal
use lib.Lanes.{chunk}

pub returns-then-bits-ne0 : goal.returns-then-bits-ne0
returns-then-bits-ne0 c =
    let long = length-chunk c.loop-len.len 16 c.args.octets.now (omega (arith, c.loop-len.invariant.within, c.loop-len-test.true)) in
    let found = first_seen (is_either c.args.one c.args.other) c.args.octets.now c.loop-len.len 16 _ _ (omega arith) c.loop-len-test.true
    (either_mask 16 c.args.one c.args.other (chunk c.loop-len.len 16 c.args.octets.now) (omega arith) long)
    c.if-bits-ne0.true c.loop-len.invariant.so_far in
    record { len = found.0; within = found.1 }

pub loop-len-preserved : goal.loop-len-preserved
loop-len-preserved c =
    let long = length-chunk c.loop-len.len 16 c.args.octets.now (omega (arith, c.loop-len.invariant.within, c.loop-len-test.true)) in
    record {
      within = omega (arith, c.loop-len.invariant.within, c.loop-len-test.true);
      so_far = none_past (is_either c.args.one c.args.other) c.args.octets.now c.loop-len.len 16 _ _ c.loop-len-test.true
          (either_mask 16 c.args.one c.args.other (chunk c.loop-len.len 16 c.args.octets.now) (omega arith) long)
          c.if-bits-ne0.false c.loop-len.invariant.so_far;
    }
