use Rattle.zone_name.proofs.Common.{length, HoldsLabelsBy, labels_of}
use Rattle.zone_name.proofs.Spelling.Steps.{Reads}
use Rattle.zone_name.proofs.reading.read_labels.Given as goal

abbrev pub invariant-loop-rest : goal.invariant-loop-rest
invariant-loop-rest l = HoldsLabelsBy l.letters l.octets.items × Reads l.letters l.text (labels_of l.octets.items) l.is_too_long l.label.items l.rest

abbrev pub decreases-loop-rest : goal.decreases-loop-rest
decreases-loop-rest l = length l.rest
