-- The failings of strings in the words of this crate.
use Rattle.zone_rdata.specs.declared.fault.Failing.{Failing}
use Rattle.zone_rdata.specs.declared.fault.Failing.TheVariants as failings
use Rattle.type_data.specs.declared.fault.WordsFailing.{WordsFailing}
use Rattle.type_data.specs.declared.fault.WordsFailing.TheVariants.{Fault, OutOfMemory}
use Rattle.type_data.specs.Kinds.Strings.{of_string}

abbrev pub failing_of_string : Failing → WordsFailing
failing_of_string (failings.Fault fault) = Fault (of_string fault)
failing_of_string failings.Memory = OutOfMemory
