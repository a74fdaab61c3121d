use Rattle.std.proofs.Common.{ap}
use Rattle.zone_files.specs.IncludeStack.{stop_line}
use Rattle.zone_files.proofs.Stacks.{holds_or_shorter, makes_lines}
use Rattle.zone_files.specs.Turns.{GoesAfterLines}
use Rattle.zone_files.proofs.stack.include_stack.IncludeStack.generate_innermost.Goals as goal

pub returns : goal.returns
returns c =
    record {
      makes = makes_lines c.args.self.now c.push_lines.new.self c.go_on_outward.new.self c.push_stop_line.new.self c.args.out.now.items c.go_on_outward.new.out.items c.push_stop_line.new.out.items
          (ap stop_line (c.is_generating.ensures.yes c.if-not-is_generating.false))
          (c.in_ok-push_lines.ensures.fewer (c.is_generating.ensures.yes c.if-not-is_generating.false))
          (c.in_ok-go_on_outward.ensures.ends c.args.self.now c.args.out.now.items c.in_ok-push_lines.ensures.outer c.in_ok-push_lines.ensures.gives)
          c.in_ok-go_on_outward.ensures.main c.in_ok-push_stop_line.ensures;
      after = λ generating. holds_or_shorter (GoesAfterLines c.args.self.now.innermost) c.args.self.now c.push_lines.new.self c.go_on_outward.new.self c.push_stop_line.new.self c.go_on_outward.new.out.items c.push_stop_line.new.out.items
          c.in_ok-push_lines.ensures.outer (c.in_ok-push_lines.ensures.after generating) c.in_ok-go_on_outward.ensures.same c.in_ok-push_stop_line.ensures;
    }
