use Rattle.zone_files.proofs.Expansions.Lines.{lines_front}
use Rattle.zone_files.proofs.expansion.lines.lines_in_front.Goals as goal

pub returns-clause-lines : goal.returns-clause-lines
returns-clause-lines c = lines_front c.args.octets.now c.split_at.result.0.now c.split_after_feed.result.0.now c.split_after_feed.result.1.now _ c.len_to_mark.result c.len_to_mark.ensures.len c.split_at.ensures.front c.split_after_feed.ensures c.split_at-2.ensures.front
