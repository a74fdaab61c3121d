use Rattle.zone_files.proofs.Stacks.{none_so_far, one_so_far, shorter_more}
use Rattle.zone_files.proofs.stack.include_stack.IncludeStack.go_on_outward.Goals as goal

pub ended-preserved : goal.ended-preserved
ended-preserved c = record {
  ends = λ start first outer gives.
      one_so_far start c.args.self.now c.ended.self c.go_on.new.self first c.ended.out.items c.go_on.new.out.items (c.ended.invariant.ends start first outer gives) c.in_ok-go_on.ensures.outer c.in_ok-go_on.ensures.gives;
  same = shorter_more c.args.self.now c.ended.self c.go_on.new.self c.ended.invariant.same c.in_ok-go_on.ensures.outer;
}
