use Rattle.zone_text.proofs.Files.DecidedOnce.{nothing_only}
use Rattle.zone_text.proofs.Entries.Begun.{nothing_decided}
use Rattle.zone_text.proofs.laws.file.of_nothing_nothing_is_decided.Goals as goal

pub returns : goal.returns
returns c = λ origin placed ending. (nothing_only origin placed ending, λ is. rw (is.0, is.1) (nothing_decided origin))
