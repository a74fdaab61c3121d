use Rattle.zone_words.proofs.RewrittenCut.{lines_kept}
use Rattle.zone_words.proofs.laws.entries_keep_their_lines.Goals as goal

pub returns : goal.returns
returns c = lines_kept
