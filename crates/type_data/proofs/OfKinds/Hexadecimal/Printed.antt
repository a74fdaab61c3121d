-- Hexadecimal digits as they are printed.
use Rattle.type_data.proofs.Common.{List, [], ap, append-nil, append_assoc, arith, codes, length, nil_from_length, refl, slice_index, sym, with_length, ℕ, ◌++◌, ◌<◌, ◌∙◌, ◌∷◌, ◌≡◌, bytes_each, encode_lower}
use Rattle.zone_rdata.specs.Item.{bare}
use Rattle.type_data.proofs.OfKinds.AfterLength.Printed.{AfterLength, counted_front, counted_octets, counted_small}
use Rattle.type_data.specs.Kinds.Hexadecimal.{IsLowerHex, PrintsHex, StatesHex}
use Rattle.type_data.specs.Kinds.Salt.{PrintsSalt, StatesSalt, digits, no_octets}
use Rattle.type_data.specs.Printed.{NoItems, PrintsAll, PrintsFront}

-- ---- all octets

pub hex_printed : (octets old mid new : List ℕ) → 0 < length octets → ((i : ℕ) → slice_index octets i < 256) → mid ≡ old ++ 32 ∷ [] → new ≡ mid ++ encode_lower octets → PrintsAll PrintsHex octets old new
hex_printed octets old mid new some low blank more = record {
  items = bare (encode_lower octets) ∷ [];
  printed = (encode_lower octets, record { some = some; each = bytes_each octets low; digits = refl }, refl);
  appended = more ∙ ap (λ m. m ++ encode_lower octets) blank ∙ append_assoc old (32 ∷ []) (encode_lower octets) ∙ ap (λ t. old ++ 32 ∷ t) (sym (append-nil (encode_lower octets)));
}

pub no_hex : (octets : List ℕ) → length octets ≡ 0 → NoItems StatesHex octets
no_hex octets empty items states = let some = states.stands.some in omega (arith, some, empty)

-- ---- after their length

salt_after : AfterLength StatesSalt
salt_after words part states = (states.value, states.written)

pub empty_salt : (octets rest old new value : List ℕ) → octets ≡ with_length value ++ rest → length value ≡ 0 → new ≡ old ++ codes "-" → PrintsFront PrintsSalt StatesSalt octets rest old new
empty_salt octets rest old new value whole empty appended =
    counted_front PrintsSalt StatesSalt octets rest old new value (codes "-") salt_after whole (record { value = value; stands = no_octets refl (nil_from_length value empty); short = omega (arith, empty); written = refl }) appended

pub salt_front : (octets rest old new value : List ℕ) → octets ≡ with_length value ++ rest → 0 < length value → ((i : ℕ) → slice_index octets i < 256) → new ≡ old ++ encode_lower value → PrintsFront PrintsSalt StatesSalt octets rest old new
salt_front octets rest old new value whole some low appended =
    let is : IsLowerHex (encode_lower value) value = record { some = some; each = counted_octets octets value rest whole low; digits = refl } in
    counted_front PrintsSalt StatesSalt octets rest old new value (encode_lower value) salt_after whole (record { value = value; stands = digits is; short = counted_small octets value rest whole low; written = refl }) appended
