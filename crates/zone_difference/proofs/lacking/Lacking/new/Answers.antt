-- The records that the other zone lacks are found, and of these the ones of which it has no equal.
use Rattle.zone_difference.proofs.LackingRecords.{lacking_from}
use Rattle.zone_difference.proofs.lacking.Lacking.new.Goals as goal

pub returns : goal.returns
returns c = lacking_from c.args.case c.args.zone.now c.args.other.now _ c.new-only.ensures.zone c.new-only.ensures.other c.new-only.ensures.records c.new-only.ensures.others c.new-only.ensures.sides c.sets_of-folded.ensures
