use Rattle.zone_text.proofs.Common.{refl}
use Rattle.zone_text.proofs.examples.entries.words_before_the_type.Goals as goal

pub returns : goal.returns
returns c = record { class_first = refl; second_ttl = refl; second_class = refl }
