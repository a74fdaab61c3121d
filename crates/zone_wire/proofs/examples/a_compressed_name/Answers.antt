use Rattle.zone_wire.proofs.Common.{outcome, refl, standing_in, walk, walk_by}
use Rattle.zone_wire.proofs.Names.Computing.{name_computes}
use Rattle.zone_wire.proofs.examples.a_compressed_name.Goals as goal

pub returns : goal.returns
unfolding outcome standing_in walk_by walk
returns c = name_computes _ _ _ refl refl
