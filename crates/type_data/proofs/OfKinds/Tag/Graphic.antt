-- Tags that are printed stand on a line as they are, of octets that a
-- terminal shows.
unfoldable use Rattle.base64.specs.Rfc4648.{encode_symbols}
use Rattle.zone_name.proofs.Texts.Bare.{is_bare}
use Rattle.zone_rdata.proofs.Common.{each_weaker}
use Rattle.type_data.proofs.Common.{List, arith, nat_tests, true, ℕ, ◌≡◌}
use Rattle.type_data.proofs.Printed.Graphic.{IsGraphicText, graphic_octets}
use Rattle.type_data.specs.Kinds.Tag.{PrintsTag}

pub tag_graphic : (text octets : List ℕ) → PrintsTag text octets → IsGraphicText text
tag_graphic text octets p =
    graphic_octets text p.0.some (each_weaker (λ c. is_bare c ≡ true) (λ c letter. grind (arith, nat_tests)) text p.0.each)
