-- Salts that are printed stand on a line as they are, of octets that a
-- terminal shows.
unfoldable use Rattle.base64.specs.Rfc4648.{encode_symbols}
use Rattle.zone_name.proofs.Texts.Bare.{is_bare}
use Rattle.type_data.proofs.Common.{List, Some, arith, codes, nat_tests, refl, subst, sym, true, ℕ, ◌≡◌}
use Rattle.type_data.proofs.Printed.Graphic.{IsGraphicText, graphic_tested}
use Rattle.type_data.specs.Kinds.Hash.{base32_digit}
use Rattle.type_data.specs.Kinds.Salt.{IsPrintedSalt, digits, no_octets}
use Rattle.type_data.proofs.OfKinds.Hexadecimal.Graphic.{lower_graphic}

pub salt_value : (text octets : List ℕ) → IsPrintedSalt text octets → IsGraphicText text
salt_value text octets (no_octets is none) = subst IsGraphicText (sym is) (graphic_tested (codes "-") refl)
salt_value text octets (digits is) = lower_graphic text octets is

pub base32_bare : (c d : ℕ) → base32_digit c ≡ Some d → is_bare c ≡ true
base32_bare c d e = grind (arith, nat_tests)
