-- Hashes in base32hex that are printed stand on a line as they are, of octets that a
-- terminal shows.
unfoldable use Rattle.base64.specs.Rfc4648.{encode_symbols}
use Rattle.type_data.proofs.Common.{AllZip, List, Some, [], arith, length_all_zip, ℕ, ◌∷◌, ◌≡◌}
use Rattle.type_data.proofs.Printed.Graphic.{IsGraphicText, graphic_octets}
use Rattle.type_data.specs.Kinds.Hash.{PrintsHash, base32_digit}
use Rattle.type_data.specs.Kinds.Salt.{digits}
use Rattle.zone_rdata.proofs.Texts.Standing.{AreBare}
use Rattle.type_data.proofs.OfKinds.Salt.Graphic.{base32_bare}

digits_bare : (text values : List ℕ) → AllZip (λ c d. base32_digit c ≡ Some d) text values → AreBare text
digits_bare [] [] spelt = tt
digits_bare (c ∷ text) (d ∷ values) spelt = (base32_bare c d spelt.0, digits_bare text values spelt.1)
digits_bare [] (d ∷ values) spelt = tt
digits_bare (c ∷ text) [] spelt = absurd spelt

pub hash_graphic : (text octets : List ℕ) → PrintsHash text octets → IsGraphicText text
hash_graphic text octets p =
    let is = p.stands.is in
    let some = is.some in
    let count = is.count in
    let long = length_all_zip (λ c d. base32_digit c ≡ Some d) text is.digits is.spelt in
    graphic_octets text (omega (arith, some, count, long)) (digits_bare text is.digits is.spelt)
