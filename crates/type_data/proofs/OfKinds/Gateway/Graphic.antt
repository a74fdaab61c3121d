-- Gateways and relays that are printed stand on a line as they are, of octets that a
-- terminal shows.
unfoldable use Rattle.base64.specs.Rfc4648.{encode_symbols}
use Rattle.type_data.proofs.Common.{List, arith, subst, sym, ℕ, ◌<◌, ◌^◌}
use Rattle.type_data.proofs.Printed.Graphic.{IsGraphicText, graphic_decimal}
use Rattle.type_data.specs.Kinds.Gateway.{PrintsUpTo}

pub up_to_graphic : (most : ℕ) (octets_of : ℕ → List ℕ) (text octets : List ℕ) → most < 2 ^ 64 → PrintsUpTo most octets_of text octets → IsGraphicText text
up_to_graphic most octets_of text octets small p = let few = p.few in subst IsGraphicText (sym p.printed) (graphic_decimal p.number (omega (arith, few, small)))
