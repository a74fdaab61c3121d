-- Identifiers of hardware that are printed state their octets.
use Rattle.hex.proofs.HexLemmas.{decode_sized-encode_lower}
use Rattle.type_data.proofs.Common.{AllZip, AreOctets, List, [], arith, each_below, encode_lower, map, refl, ℕ, ◌-◌, ◌∷◌}
use Rattle.type_data.specs.Kinds.Eui.{IsPair, PrintsEui, StatesEui}

each_pair : (octets : List ℕ) → AreOctets octets → AllZip IsPair (map (λ c. encode_lower (c ∷ [])) octets) octets
each_pair [] each = tt
each_pair (c ∷ octets) each = (decode_sized-encode_lower (c ∷ []) 1 refl (each_below 256 (c ∷ []) (omega arith) (each.0, tt)), each_pair octets each.1)

pub eui_printed_states : (count : ℕ) (text octets : List ℕ) → PrintsEui count text octets → StatesEui count text octets
eui_printed_states count text octets p = record {
  pairs = map (λ c. encode_lower (c ∷ [])) octets;
  each = each_pair octets p.each;
  parted = p.printed;
  counted = p.counted;
}
