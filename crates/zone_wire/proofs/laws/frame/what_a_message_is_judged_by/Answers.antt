use Rattle.zone_wire.proofs.Messages.AlikeMessages.{read_alike, fault_alike, alike_grows}
use Rattle.zone_wire.proofs.laws.frame.what_a_message_is_judged_by.Goals as goal

pub returns : goal.returns
returns c = record {
  read = λ before other p is. read_alike before other is p;
  refused = fault_alike;
  stays = alike_grows;
}
