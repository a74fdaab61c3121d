-- Digits of base32hex that are printed.
use Rattle.std.specs.Prelude.{◌≡◌, ℕ, ◌+◌, ◌*◌, ◌^◌, ◌/◌, ◌%◌, ◌<◌, List, [], ◌∷◌, ◌++◌, length, fold, Some}
use Rattle.std.specs.List.{AllZip}
use Rattle.zone_name.specs.Name.{folded_octet}
use Rattle.type_data.specs.Kinds.Hash.{base32_digit}

-- the digit of a value, in lower case
pub record IsLowerDigit (digit value : ℕ) : Type 0 where
  pub stands : base32_digit digit ≡ Some value
  pub lower : folded_octet digit ≡ digit

-- the bits of five octets, five by five (RFC 4648 7)
abbrev pub block_values : List ℕ → List ℕ
block_values (a ∷ b ∷ c ∷ d ∷ e ∷ []) =
    (a / 8) ∷ (a % 8 * 4 + b / 64) ∷ (b / 2 % 32) ∷ (b % 2 * 16 + c / 16)
    ∷ (c % 16 * 2 + d / 128) ∷ (d / 4 % 32) ∷ (d % 4 * 8 + e / 32) ∷ (e % 32) ∷ []
block_values octets = []

-- numbers below a base as the digits of one number, after those that were there
abbrev pub number_from : ℕ → ℕ → List ℕ → ℕ
number_from base n digits = fold (λ n d. n * base + d) n digits

-- digits whose bits are those of the octets, whatever stands before both, are appended
pub record AppendsDigits (octets old new : List ℕ) : Type 0 where
  pub text : List ℕ
  pub digits : List ℕ
  pub spelt : AllZip IsLowerDigit text digits
  pub unused : ℕ
  pub few : unused < 5
  pub count : 5 * length digits ≡ 8 * length octets + unused
  pub bits : (n : ℕ) → number_from 32 n digits ≡ number_from 256 n octets * 2 ^ unused
  pub appended : new ≡ old ++ text
