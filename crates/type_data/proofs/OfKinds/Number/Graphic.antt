-- Numbers that are printed stand on a line as they are, of octets that a
-- terminal shows.
unfoldable use Rattle.base64.specs.Rfc4648.{encode_symbols}
use Rattle.type_data.proofs.Common.{List, Width, byte_len, subst, sym, ℕ, ◌^◌, ◌≤◌}
use Rattle.type_data.proofs.Printed.Graphic.{IsGraphicText, graphic_decimal}
use Rattle.type_data.proofs.OfKinds.Number.Printed.{short}
use Rattle.type_data.specs.Kinds.Number.{PrintsNumber}

pub number_graphic : (w : Width) (text octets : List ℕ) → 256 ^ byte_len w ≤ 2 ^ 64 → PrintsNumber w text octets → IsGraphicText text
number_graphic w text octets small p = subst IsGraphicText (sym p.stated) (graphic_decimal p.number (short w p.number small p.fits))
