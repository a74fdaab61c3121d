use Rattle.zone_wire.proofs.Common.{AnswerStates, OwnFault, own_record}
use Rattle.zone_wire.proofs.Records.Answering.{own_told}
use Rattle.zone_wire.proofs.Fields.DataFaults.{own_one, own_not_both, record_unique}
use Rattle.zone_wire.proofs.Messages.MessageFaults.{either}
use Rattle.zone_wire.proofs.laws.record.a_record_or_a_fault.Goals as goal

pub returns : goal.returns
returns c octets offset a each short at = record {
  one_of = either (AnswerStates octets a) (OwnFault octets a) (own_record octets a) (own_told octets each short offset a at);
  never_both = λ r fault is bad. own_not_both octets a fault r at.inside bad is;
  one_value = λ r s is too. record_unique octets a r s at.inside is too;
  one_fault = λ f g is too. own_one octets a f g at.inside is too;
}
