use Rattle.zone_files.proofs.Expansions.Lines.{parted_at, parted_none}
use Rattle.zone_files.proofs.expansion.lines.split_after_feed.Goals as goal

pub returns-in-Some : goal.returns-in-Some
returns-in-Some c = parted_at c.args.octets.now _ _ c.in-Some.feed c.split_at.ensures.front c.split_at.ensures.back c.in-Some.ensures.0.high c.in-Some.ensures.0.after c.in-Some.ensures.1

pub returns-in-None : goal.returns-in-None
returns-in-None c = parted_none c.args.octets.now _ _ c.split_at-in-None.ensures.front c.split_at-in-None.ensures.back c.in-None.ensures
