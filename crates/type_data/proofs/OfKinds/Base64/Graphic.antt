-- Base64 that are printed stand on a line as they are, of octets that a
-- terminal shows.
use Rattle.base64.specs.Engines.{standard}
use Rattle.base64.specs.GeneralPurpose.{encode_of}
use Rattle.base64.specs.Rfc4648.{padding_len}
unfoldable use Rattle.base64.specs.Rfc4648.{encode_symbols}
use Rattle.zone_name.proofs.Texts.Bare.{is_bare}
use Rattle.type_data.proofs.Common.{All-from_recursion, AllByRecursion-append, AreOctets, List, [], arith, length, refl, replicate, subst, suc, sym, true, zero, ℕ, ◌%◌, ◌*◌, ◌+◌, ◌/◌, ◌<◌, ◌∷◌, ◌≡◌}
use Rattle.type_data.proofs.Printed.Graphic.{IsGraphicText, graphic_octets}
use Rattle.type_data.specs.Kinds.Base64.{IsBase64}
use Rattle.zone_rdata.proofs.Texts.Standing.{AreBare, tested_each}

symbols_bare : (octets : List ℕ) → AreOctets octets → AreBare (encode_symbols standard.encode_table octets)
unfolding encode_symbols
symbols_bare [] low = tt
symbols_bare (a ∷ []) low =
    let a_low : a < 256 = low.0 in
    let symbol = All-from_recursion (λ c. is_bare c ≡ true) standard.encode_table (tested_each standard.encode_table refl) in
    (symbol (a / 4) 0 (omega arith), (symbol (a % 4 * 16) 0 (omega arith), tt))
symbols_bare (a ∷ b ∷ []) low =
    let a_low : a < 256 = low.0 in
    let b_low : b < 256 = low.1.0 in
    let symbol = All-from_recursion (λ c. is_bare c ≡ true) standard.encode_table (tested_each standard.encode_table refl) in
    (symbol (a / 4) 0 (omega arith), (symbol (a % 4 * 16 + b / 16) 0 (omega arith), (symbol (b % 16 * 4) 0 (omega arith), tt)))
symbols_bare (a ∷ b ∷ c ∷ octets) low =
    let a_low : a < 256 = low.0 in
    let b_low : b < 256 = low.1.0 in
    let c_low : c < 256 = low.1.1.0 in
    let symbol = All-from_recursion (λ c. is_bare c ≡ true) standard.encode_table (tested_each standard.encode_table refl) in
    (symbol (a / 4) 0 (omega arith), (symbol (a % 4 * 16 + b / 16) 0 (omega arith), (symbol (b % 16 * 4 + c / 64) 0 (omega arith), (symbol (c % 64) 0 (omega arith), symbols_bare octets low.1.1.1))))

equals_bare : (n : ℕ) → AreBare (replicate n 61)
equals_bare zero = tt
equals_bare (suc n) = (refl, equals_bare n)

some_symbols : (octets : List ℕ) → 0 < length octets → 0 < length (encode_of standard octets)
unfolding encode_symbols
some_symbols [] some = absurd (omega arith)
some_symbols (a ∷ []) some = omega arith
some_symbols (a ∷ b ∷ []) some = omega arith
some_symbols (a ∷ b ∷ c ∷ octets) some = omega arith

pub encoded_graphic : (octets : List ℕ) → 0 < length octets → AreOctets octets → IsGraphicText (encode_of standard octets)
encoded_graphic octets some low =
    graphic_octets (encode_of standard octets) (some_symbols octets some)
    (AllByRecursion-append (λ c. is_bare c ≡ true) (encode_symbols standard.encode_table octets) (replicate (padding_len (length octets)) 61) (symbols_bare octets low) (equals_bare (padding_len (length octets))))

pub base64_graphic : (text octets : List ℕ) → IsBase64 text octets → IsGraphicText text
base64_graphic text octets is = subst IsGraphicText (sym is.encoded) (encoded_graphic octets is.some is.each)
