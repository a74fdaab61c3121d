use Rattle.zone_text.proofs.Common.{refl}
use Rattle.zone_text.proofs.Entries.Begun.{nothing_follows}
use Rattle.zone_text.proofs.splitter.EntrySplitter.new.Goals as goal

pub returns-clause-follow : goal.returns-clause-follow
returns-clause-follow c = nothing_follows c.args.origin.now _ c.new-3.result.octets c.new-3.ensures.octets c.new.ensures.records c.new.ensures.ending c.new-2.ensures refl
