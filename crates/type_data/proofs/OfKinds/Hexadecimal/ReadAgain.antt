-- Hexadecimal digits that are printed state their octets.
use Rattle.hex.proofs.HexLemmas.{decode_of-encode_lower}
use Rattle.type_data.proofs.Common.{IsHex, List, RawItem, each_below, lit<, ℕ}
use Rattle.type_data.specs.Kinds.Hexadecimal.{IsLowerHex, PrintsHex, StatesHex}
use Rattle.type_data.specs.Kinds.Salt.{digits, some}
use Rattle.type_data.proofs.OfKinds.Joined.ReadAgain.{one_item_states}

pub lower_is_hex : (text octets : List ℕ) → IsLowerHex text octets → IsHex text octets
lower_is_hex text octets is = record {
  some = is.some;
  digits = rw is.digits (decode_of-encode_lower octets (each_below 256 octets (lit< tt) is.each));
}

pub hex_printed_states : (items : List RawItem) (octets : List ℕ) → PrintsHex items octets → StatesHex items octets
hex_printed_states items octets printed = one_item_states IsLowerHex IsHex lower_is_hex items octets printed
