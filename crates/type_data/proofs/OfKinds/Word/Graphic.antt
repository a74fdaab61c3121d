-- Numbers and types by their mnemonics that are printed stand on a line as they are, of octets that a
-- terminal shows.
unfoldable use Rattle.base64.specs.Rfc4648.{encode_symbols}
use Rattle.std.specs.Prelude.{decimal}
use Rattle.type_data.proofs.Common.{List, [], arith, certificate_types, codes, early_types, late_types, list_all, mnemonic_among, Named, notify_schemes, refl, registered_types, signed_types, subst, sym, true, w16, w8, ℕ, ◌<◌, ◌^◌, ◌≡◌}
use Rattle.type_data.proofs.Printed.Graphic.{IsGraphicText, graphic_append, graphic_decimal, graphic_tested, graphic_word}
use Rattle.zone_rdata.proofs.Texts.Standing.{are_bare}
use Rattle.type_data.proofs.OfKinds.Number.Printed.{short}
use Rattle.type_data.specs.Kinds.Word.{PrintsCertificateType, PrintsNotifyScheme, PrintsType, type_word}

pub certificate_graphic : (text octets : List ℕ) → PrintsCertificateType text octets → IsGraphicText text
certificate_graphic text octets p =
    subst IsGraphicText (sym p.stated) (graphic_word certificate_types [] (mnemonic_among certificate_types p.number) p.number refl (graphic_decimal p.number (short w16 p.number (omega arith) p.fits)) refl)

pub notify_scheme_graphic : (text octets : List ℕ) → PrintsNotifyScheme text octets → IsGraphicText text
notify_scheme_graphic text octets p =
    subst IsGraphicText (sym p.stated) (graphic_word notify_schemes [] (mnemonic_among notify_schemes p.number) p.number refl (graphic_decimal p.number (short w8 p.number (omega arith) p.fits)) refl)

all_bare : list_all (λ (row : Named). are_bare row.mnemonic) registered_types ≡ true
unfolding early_types late_types signed_types
all_bare = refl

-- the word of any type, as a bitmap's too
pub type_graphic : (n : ℕ) → n < 2 ^ 64 → IsGraphicText (type_word n)
type_graphic n few =
    graphic_word registered_types (codes "TYPE") (mnemonic_among registered_types n) n all_bare (graphic_append (codes "TYPE") (decimal n) (graphic_tested (codes "TYPE") refl) (graphic_decimal n few)) refl

pub record_type_graphic : (text octets : List ℕ) → PrintsType text octets → IsGraphicText text
record_type_graphic text octets p = subst IsGraphicText (sym p.stated.0) (type_graphic p.number (short w16 p.number (omega arith) p.fits))
