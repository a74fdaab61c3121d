use Rattle.zone_text.proofs.Common.{map, raw}
use Rattle.zone_text.proofs.Scanning.Walking.{comment_kept}
use Rattle.zone_text.proofs.walk.keep_token.Goals as goal

pub returns-in_default-clause-kept : goal.returns-in_default-clause-kept
returns-in_default-clause-kept c = comment_kept c.args.token.now c.args.keeps (map raw c.args.items.now.items) (rw c.in_default.is at c.item_of.ensures)
