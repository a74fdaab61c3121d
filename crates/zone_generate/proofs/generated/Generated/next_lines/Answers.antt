use Rattle.std.proofs.Common.{◌-◌, ◌<◌, arith, length}
use Rattle.zone_generate.proofs.ValueLines.{one_taken, taken_within}
use Rattle.zone_generate.specs.Steps.{TakesValue}
use Rattle.zone_generate.proofs.generated.Generated.next_lines.Goals as goal

pub lines-preserved : goal.lines-preserved
lines-preserved c =
    let takes : TakesValue c.lines.self c.in-Ok-Some.field-0-0 c.next_line.new.self c.lines.out.items c.next_line.new.out.items = rw c.in-Ok-Some.field-0-is at c.in-Ok-Some.ensures.line in
    let few : length c.lines.out.items - length c.args.out.now.items < c.args.most = omega (arith, c.lines-test.true, c.len.ensures, c.lines.invariant.begun) in
    record {
      taken = one_taken c.args.self.now c.lines.self c.next_line.new.self c.in-Ok-Some.field-0-0 c.args.out.now.items c.lines.out.items c.next_line.new.out.items c.lines.invariant.taken takes;
      within = taken_within c.args.self.now c.lines.self c.next_line.new.self c.args.most c.in-Ok-Some.field-0-0 c.args.out.now.items c.lines.out.items c.next_line.new.out.items c.lines.invariant.taken takes few;
      begun = c.lines.invariant.begun;
    }
