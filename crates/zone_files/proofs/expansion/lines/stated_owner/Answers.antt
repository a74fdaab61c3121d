use Rattle.zone_files.proofs.Expansions.Lines.{owner_stated}
use Rattle.zone_files.proofs.expansion.lines.stated_owner.Goals as goal

pub returns-clause-some : goal.returns-clause-some
returns-clause-some c = owner_stated c.args.line.now _ _ c.owner_len-len.ensures.len c.if-len-eq0.false c.split_at.ensures.front
