-- Hexadecimal digits stand for one list of octets.
use Rattle.hex.specs.Hex.{decode_of}
use Rattle.zone_rdata.specs.Appended.{Appends}
use Rattle.type_data.proofs.Common.{AppendsStated, IsHex, List, NothingStated, Ok, TooLong, WordsFault, [], arith, decode_of-ok, decode_of-same, length, ℕ, ◌*◌, ◌++◌, ◌/◌, ◌<◌, ◌∷◌, ◌≡◌, ◌≤◌}
use Rattle.type_data.proofs.OfKinds.AfterLength.Lengths.{appended_after_length}
use Rattle.type_data.specs.Kinds.AfterLength.{FailsAfterLength, StatesAfterLength, of_no_octets, of_too_many}
use Rattle.type_data.specs.declared.fault.WordsFault.TheVariants.{NoHexadecimal}

-- two digits for each octet
pub twice : (text octets : List ℕ) → IsHex text octets → length text ≡ 2 * length octets
twice text octets is = (decode_of-ok text octets is.digits).2

-- no digits stand for no octet
pub no_digits : (text octets : List ℕ) → length text ≡ 0 → IsHex text octets → ⊥
no_digits text octets none is = omega (arith, is.some, twice text octets is)

pub one_hex : (text a b : List ℕ) → IsHex text a → IsHex text b → a ≡ b
one_hex text a b x y = decode_of-same text a b x.digits y.digits

-- the octets of some digits
pub digits_appended : (text old new : List ℕ) → 0 < length text → Appends (λ octets. decode_of text ≡ Ok octets) (λ octets. octets) old new → AppendsStated (IsHex text) old new
digits_appended text old new some grown = record {
  octets = grown.value;
  stated = record { some = omega (arith, some, (decode_of-ok text grown.value grown.stated).2); digits = grown.stated };
  written = grown.written;
}

-- ---- after their length

pub counted_appended : (text old mid new : List ℕ) → length text ≤ 510 → mid ≡ old ++ (length text / 2) ∷ [] → AppendsStated (IsHex text) mid new → AppendsStated (StatesAfterLength IsHex text) old new
counted_appended text old mid new few grown more =
    let count : length text ≡ 2 * length more.octets = twice text more.octets more.stated in
    let half : length text / 2 ≡ length more.octets = omega (arith, count) in
    let short : length more.octets ≤ 255 = omega (arith, count) in
    appended_after_length IsHex text old mid new (length text / 2) grown more half short

-- more digits than a length tells
pub long_counted : (text old new : List ℕ) → 510 < length text → AppendsStated (IsHex text) old new → FailsAfterLength NoHexadecimal IsHex text TooLong
long_counted text old new long more = of_too_many more.octets more.stated (omega (arith, twice text more.octets more.stated))

pub no_counted : (text : List ℕ) (fault : WordsFault) → NothingStated NoHexadecimal (IsHex text) fault → FailsAfterLength NoHexadecimal IsHex text fault
no_counted text fault nothing = rw nothing.0 (of_no_octets nothing.1)
