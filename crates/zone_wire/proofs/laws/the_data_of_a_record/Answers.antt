use Rattle.zone_wire.proofs.Common.{DataFault, IsDataAt, data_at}
use Rattle.zone_wire.proofs.Fields.DataFaults.{data_one, data_not_both, data_told, one_data}
use Rattle.zone_wire.proofs.Messages.MessageFaults.{either}
use Rattle.zone_wire.proofs.laws.the_data_of_a_record.Goals as goal

pub returns : goal.returns
returns c octets a each within = record {
  one_of = either (IsDataAt octets a) (DataFault octets a) (data_at octets a) (data_told octets a each within);
  never_both = λ canonical fault is bad. data_not_both octets a fault canonical within bad is;
  one_value = λ x y is too. one_data octets a x y within is too;
  one_fault = λ f g is too. data_one octets a f g within is too;
}
