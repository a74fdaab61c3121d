use Rattle.zone_files.proofs.Expansions.Following.{front_broken, front_more}
use Rattle.zone_files.proofs.Expansions.Turning.{some_more}
use Rattle.zone_files.proofs.expansion.file_expansion.FileExpansion.feed.Goals as goal

pub entries-preserved : goal.entries-preserved
entries-preserved c = record {
  is = c.in_ok-rest.ensures.is;
  front = front_more c.args.self.now c.entries.self c.take_front.new.self c.args.piece.now c.entries.rest.now c.in_ok-rest.rest.now c.args.out.now.items c.entries.out.items c.take_front.new.out.items c.entries.invariant.front c.in_ok-rest.ensures.front;
  some = some_more c.args.piece.now c.entries.rest.now c.in_ok-rest.rest.now c.args.self.now c.entries.self c.take_front.new.self c.entries.invariant.some c.in_ok-rest.ensures.shorter;
}

pub returns-then-is_broken-clause-front : goal.returns-then-is_broken-clause-front
returns-then-is_broken-clause-front c = front_broken c.args.self.now c.entries.self c.args.piece.now c.entries.rest.now c.args.out.now.items c.entries.out.items c.extend_from_slice.new.self.items c.entries.invariant.front (c.is_broken.ensures.yes c.if-is_broken.true) c.in_ok-extend_from_slice.ensures.items
