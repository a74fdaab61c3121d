use Rattle.words_print.proofs.OneText.{public_key, name, node_id, address_type, by_kind, by_length, by_u16, by_u32, by_u8, eui, ipv4, ipv6, lower_hex, no_address, printed_salt, tag}
use Rattle.std.specs.Prelude.{decimal}
use Rattle.zone_rdata.specs.Words.{IsKind}
use Rattle.type_data.specs.Kinds.Hexadecimal.{IsLowerHex}
use Rattle.type_data.specs.Kinds.Salt.{IsPrintedSalt}
use Rattle.type_data.specs.Kinds.Word.{certificate_word, notify_scheme_word, type_word}
use Rattle.words_print.proofs.laws.printed.one_text_of_octets.Goals as goal

pub returns-clause-u8 : goal.returns-clause-u8
returns-clause-u8 c = by_u8 decimal

pub returns-clause-u16 : goal.returns-clause-u16
returns-clause-u16 c = by_u16 decimal

pub returns-clause-u32 : goal.returns-clause-u32
returns-clause-u32 c = by_u32 decimal

pub returns-clause-algorithm : goal.returns-clause-algorithm
returns-clause-algorithm c = by_u8 decimal

pub returns-clause-certificate : goal.returns-clause-certificate
returns-clause-certificate c = by_u16 certificate_word

pub returns-clause-notify_scheme : goal.returns-clause-notify_scheme
returns-clause-notify_scheme c = by_u8 notify_scheme_word

pub returns-clause-record_type : goal.returns-clause-record_type
returns-clause-record_type c = by_kind type_word IsKind

pub returns-clause-salt : goal.returns-clause-salt
returns-clause-salt c = by_length IsPrintedSalt printed_salt

pub returns-clause-tag : goal.returns-clause-tag
returns-clause-tag c = tag

pub returns-clause-ipv4 : goal.returns-clause-ipv4
returns-clause-ipv4 c = ipv4

pub returns-clause-ipv6 : goal.returns-clause-ipv6
returns-clause-ipv6 c = ipv6

pub returns-clause-eui : goal.returns-clause-eui
returns-clause-eui c = eui

pub returns-clause-address_type : goal.returns-clause-address_type
returns-clause-address_type c = address_type

pub returns-clause-no_address : goal.returns-clause-no_address
returns-clause-no_address c = no_address

pub returns-clause-identity : goal.returns-clause-identity
returns-clause-identity c = by_length IsLowerHex lower_hex

pub returns-clause-name : goal.returns-clause-name
returns-clause-name c = name

pub returns-clause-node_id : goal.returns-clause-node_id
returns-clause-node_id c = node_id

pub returns-clause-public_key : goal.returns-clause-public_key
returns-clause-public_key c = public_key
