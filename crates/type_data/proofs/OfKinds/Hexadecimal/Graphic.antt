-- Hexadecimal digits that are printed stand on a line as they are, of octets that a
-- terminal shows.
unfoldable use Rattle.base64.specs.Rfc4648.{encode_symbols}
use Rattle.type_data.proofs.Common.{List, subst, sym, ℕ}
use Rattle.type_data.proofs.Printed.Graphic.{IsGraphicText, graphic_hex}
use Rattle.type_data.specs.Kinds.Hexadecimal.{IsLowerHex}
use Rattle.type_data.specs.Kinds.Salt.{digits}

pub lower_graphic : (text octets : List ℕ) → IsLowerHex text octets → IsGraphicText text
lower_graphic text octets is = subst IsGraphicText (sym is.digits) (graphic_hex octets is.some is.each)
