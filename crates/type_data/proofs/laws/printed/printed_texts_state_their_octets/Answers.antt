use Rattle.type_data.proofs.OfKinds.Address.Printed.{ipv4_printed_states, ipv6_printed_states}
use Rattle.type_data.proofs.OfKinds.Number.Printed.{algorithm_printed_states, certificate_printed_states, notify_scheme_printed_states, type_printed_states, u16_printed_states, u32_printed_states, u8_printed_states}
use Rattle.type_data.proofs.OfKinds.Eui.ReadAgain.{eui_printed_states}
use Rattle.type_data.proofs.OfKinds.NodeId.ReadAgain.{node_id_printed_states}
use Rattle.type_data.proofs.OfKinds.Salt.ReadAgain.{salt_printed_states}
use Rattle.type_data.proofs.OfKinds.Name.ReadAgain.{name_printed_states}
use Rattle.type_data.proofs.OfKinds.Tag.Printed.{tag_printed_states}
use Rattle.type_data.proofs.OfKinds.Time.Printed.{time_printed_states}
use Rattle.type_data.proofs.laws.printed.printed_texts_state_their_octets.Goals as goal

pub returns-clause-u8 : goal.returns-clause-u8
returns-clause-u8 c = u8_printed_states

pub returns-clause-u16 : goal.returns-clause-u16
returns-clause-u16 c = u16_printed_states

pub returns-clause-u32 : goal.returns-clause-u32
returns-clause-u32 c = u32_printed_states

pub returns-clause-algorithm : goal.returns-clause-algorithm
returns-clause-algorithm c = algorithm_printed_states

pub returns-clause-certificate : goal.returns-clause-certificate
returns-clause-certificate c = certificate_printed_states

pub returns-clause-notify_scheme : goal.returns-clause-notify_scheme
returns-clause-notify_scheme c = notify_scheme_printed_states

pub returns-clause-record_type : goal.returns-clause-record_type
returns-clause-record_type c = type_printed_states

pub returns-clause-time : goal.returns-clause-time
returns-clause-time c = time_printed_states

pub returns-clause-salt : goal.returns-clause-salt
returns-clause-salt c = salt_printed_states

pub returns-clause-tag : goal.returns-clause-tag
returns-clause-tag c = tag_printed_states

pub returns-clause-ipv4 : goal.returns-clause-ipv4
returns-clause-ipv4 c = ipv4_printed_states

pub returns-clause-ipv6 : goal.returns-clause-ipv6
returns-clause-ipv6 c = ipv6_printed_states

pub returns-clause-node_id : goal.returns-clause-node_id
returns-clause-node_id c = node_id_printed_states

pub returns-clause-name : goal.returns-clause-name
returns-clause-name c = name_printed_states

pub returns-clause-eui : goal.returns-clause-eui
returns-clause-eui c = eui_printed_states
