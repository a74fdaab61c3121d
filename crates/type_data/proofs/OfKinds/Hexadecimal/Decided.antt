-- Hexadecimal digits are stated or have a fault.
use Rattle.std.specs.declared.result.Result.TheVariants.{Err, Ok}
use Rattle.hex.specs.Hex.{decode_of}
use Rattle.hex.specs.declared.error.FromHexError.{FromHexError}
use Rattle.zone_rdata.proofs.Choices.{Choice}
use Rattle.type_data.proofs.Common.{IsHex, List, Result, ap, arith, cases_lt, inl, inr, length, refl, sym, ℕ, ◌<◌, ◌∙◌, ◌≡◌, ◌≤◌, ◌⊎◌}

hex_some : (text octets : List ℕ) → decode_of text ≡ Ok octets → (0 < length octets) ⊎ (length octets ≤ 0) → Choice (IsHex text)
hex_some text octets e (inl some) = inl (octets, record { some = some; digits = e })
hex_some text octets e (inr none) = inr (λ others is. let same : octets ≡ others = (let both = sym e ∙ is.digits in cc) in omega (arith, is.some, none, ap length same))

hex_by : (text : List ℕ) (found : Result (List ℕ) FromHexError) → decode_of text ≡ found → Choice (IsHex text)
hex_by text (Ok octets) e = hex_some text octets e (cases_lt 0 (length octets))
hex_by text (Err wrong) e = inr (λ others is. absurd (let both = sym e ∙ is.digits in cc))

pub hex_or_not : (text : List ℕ) → Choice (IsHex text)
hex_or_not text = hex_by text (decode_of text) refl
