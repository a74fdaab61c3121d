use Rattle.zone_files.proofs.Stacks.{ends_innermost, holds_or_shorter}
use Rattle.zone_files.specs.Turns.{EndsFile}
use Rattle.zone_files.proofs.stack.include_stack.IncludeStack.finish_innermost.Goals as goal

pub returns : goal.returns
returns c =
    record {
      ends = ends_innermost c.args.self.now c.end_innermost.new.self c.go_on_outward.new.self c.push_stop_line.new.self c.args.out.now.items c.go_on_outward.new.out.items c.push_stop_line.new.out.items
          (c.is_faulty.ensures.no c.if-is_faulty.false) c.in_ok-end_innermost.ensures.over
          (c.in_ok-go_on_outward.ensures.ends c.args.self.now c.args.out.now.items c.in_ok-end_innermost.ensures.outer c.in_ok-end_innermost.ensures.gives)
          c.in_ok-go_on_outward.ensures.main c.in_ok-push_stop_line.ensures;
      last = holds_or_shorter (EndsFile c.args.self.now.innermost) c.args.self.now c.end_innermost.new.self c.go_on_outward.new.self c.push_stop_line.new.self c.go_on_outward.new.out.items c.push_stop_line.new.out.items
          c.in_ok-end_innermost.ensures.outer c.in_ok-end_innermost.ensures.last c.in_ok-go_on_outward.ensures.same c.in_ok-push_stop_line.ensures;
    }
