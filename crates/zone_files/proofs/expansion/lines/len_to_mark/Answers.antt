use Rattle.std.proofs.Common.{ap, arith, map, take, ◌∙◌}
use Rattle.std.specs.Simd.Lanes.{mask_l}
use Rattle.zone_text.proofs.Scanning.StopMarks.{first_seen, len_to, none_past}
use Rattle.zone_files.specs.Machine.Lines.{is_mark}
use Rattle.zone_files.proofs.expansion.lines.len_to_mark.Goals as goal

pub returns-then-bits-ne0 : goal.returns-then-bits-ne0
returns-then-bits-ne0 c =
    let found = first_seen is_mark c.args.octets.now c.loop-seen.seen 64 _ _ (omega arith) c.loop-seen-test.true
    (c.mark_bits-bits.ensures ∙ ap (λ t. mask_l (map is_mark (take 64 t))) c.split_at.ensures.back)
    c.if-bits-ne0.true c.loop-seen.invariant.so_far in
    record { len = found.0; within = found.1 }

pub loop-seen-preserved : goal.loop-seen-preserved
loop-seen-preserved c = record {
  within = omega (arith, c.loop-seen.invariant.within, c.loop-seen-test.true);
  so_far = none_past is_mark c.args.octets.now c.loop-seen.seen 64 _ _ c.loop-seen-test.true
      (c.mark_bits-bits.ensures ∙ ap (λ t. mask_l (map is_mark (take 64 t))) c.split_at.ensures.back)
      c.if-bits-ne0.false c.loop-seen.invariant.so_far;
}

pub returns-clause-len : goal.returns-clause-len
returns-clause-len c = omega (arith, c.loop-seen.invariant.so_far, c.len_in_few.ensures.len, ap (len_to is_mark) c.split_at-2.ensures.back)
