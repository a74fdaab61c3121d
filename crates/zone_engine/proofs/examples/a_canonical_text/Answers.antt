use Rattle.zone_engine.proofs.Common.{refl}
use Rattle.std.specs.Fmt.{digits}
use Rattle.zone_name.specs.Name.{labels_of}
use Rattle.zone_engine.proofs.examples.a_canonical_text.Goals as goal

pub returns : goal.returns
unfolding labels_of digits
returns c = refl
