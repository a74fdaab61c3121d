-- Base64 as it is printed.
use Rattle.base64.specs.Engines.{standard}
use Rattle.base64.specs.GeneralPurpose.{encode_of}
use Rattle.type_data.proofs.Common.{List, [], ap, append-nil, append_assoc, arith, bytes_each, length, refl, slice_index, sym, ℕ, ◌++◌, ◌<◌, ◌∙◌, ◌∷◌, ◌≡◌}
use Rattle.zone_rdata.specs.Item.{bare}
use Rattle.type_data.specs.Kinds.Base64.{PrintsBase64, StatesBase64}
use Rattle.type_data.specs.Printed.{NoItems, PrintsAll}

pub base64_printed : (octets old mid new : List ℕ) → 0 < length octets → ((i : ℕ) → slice_index octets i < 256) → mid ≡ old ++ 32 ∷ [] → new ≡ mid ++ encode_of standard octets → PrintsAll PrintsBase64 octets old new
base64_printed octets old mid new some low blank more = record {
  items = bare (encode_of standard octets) ∷ [];
  printed = (encode_of standard octets, record { some = some; each = bytes_each octets low; encoded = refl }, refl);
  appended = more ∙ ap (λ m. m ++ encode_of standard octets) blank ∙ append_assoc old (32 ∷ []) (encode_of standard octets) ∙ ap (λ t. old ++ 32 ∷ t) (sym (append-nil (encode_of standard octets)));
}

pub no_base64_items : (octets : List ℕ) → length octets ≡ 0 → NoItems StatesBase64 octets
no_base64_items octets empty items states = let some = states.stands.some in omega (arith, some, empty)
