use Rattle.zone_name.proofs.Common.{arith, refl, ◌+◌}
use Rattle.zone_name.proofs.Spelling.Marks.{all_plain, looked, next_mark, no_octets, seen_within}
use Rattle.zone_name.proofs.reading.label_end.Goals as goal

pub loop-marks-init : goal.loop-marks-init
loop-marks-init c = grind (arith, no_octets)

pub returns-then-octets-end-lt-LANES-clause-each : goal.returns-then-octets-end-lt-LANES-clause-each
returns-then-octets-end-lt-LANES-clause-each c =
    all_plain c.loop-marks.marks c.args.octets.now c.args.start c.loop-marks.end c.loop-marks.invariant c.loop-marks-test.true

pub loop-marks-preserved : goal.loop-marks-preserved
loop-marks-preserved c =
    let marks = c.loop-marks.marks in
    let octets = c.args.octets.now in
    let within = seen_within marks octets c.args.start c.loop-marks.end c.loop-marks.invariant in
    record {
      front = omega (arith, c.loop-marks.invariant.front, c.loop-marks.invariant.tells.front);
      within = within;
      each = all_plain marks octets c.args.start c.loop-marks.end c.loop-marks.invariant c.loop-marks-test.true;
      tells = looked (record { bits = c.mark_bits.result; seen = marks.seen + 16 }) octets marks.seen (omega (arith, within, c.if-octets-end-lt-LANES.false)) c.mark_bits.ensures refl;
    }

pub returns : goal.returns
returns c =
    let next = next_mark c.loop-marks.marks c.args.octets.now c.args.start c.loop-marks.end c.loop-marks.invariant c.loop-marks-test.false in
    record { front = omega (arith, c.loop-marks.invariant.front); back = omega (arith, next.within); each = next.each; ends = λ room. next.stops; tells = next.tells }
