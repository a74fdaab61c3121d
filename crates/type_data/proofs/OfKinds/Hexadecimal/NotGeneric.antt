-- Hexadecimal digits that are printed aren't the mark of the generic form.
unfoldable use Rattle.hex.specs.Hex.{decode_pairs}
use Rattle.type_data.proofs.Common.{List, ℕ}
use Rattle.type_data.proofs.OfKinds.Hexadecimal.ReadAgain.{lower_is_hex}
use Rattle.type_data.proofs.Printed.Marks.{marked}
use Rattle.type_data.specs.Kinds.Hexadecimal.{IsLowerHex}

pub hex_alone : (octets : List ℕ) → IsLowerHex marked octets → ⊥
unfolding decode_pairs
hex_alone octets is = let digits = (lower_is_hex marked octets is).digits in cc digits
