use Rattle.zone_files.proofs.Stacks.{feeds_none, feeds_part}
use Rattle.zone_files.proofs.stack.include_stack.IncludeStack.feed_innermost.Goals as goal

pub returns-then-is_faulty-clause-feeds : goal.returns-then-is_faulty-clause-feeds
returns-then-is_faulty-clause-feeds c = feeds_none c.args.self.now c.args.piece.now c.args.out.now.items

pub returns-clause-feeds : goal.returns-clause-feeds
returns-clause-feeds c =
    feeds_part c.args.self.now c.take_front.new.self c.push_stop_line.new.self c.args.piece.now c.in_ok-left.left.now c.args.out.now.items c.take_front.new.out.items c.push_stop_line.new.out.items
    (c.is_faulty.ensures.no c.if-is_faulty.false) c.in_ok-left.ensures.takes c.in_ok-push_stop_line.ensures
