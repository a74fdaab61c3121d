-- The texts of each kind that are printed stand outside quotes, of octets that a terminal shows.
unfoldable use Rattle.base64.specs.Rfc4648.{encode_symbols}
use Rattle.type_data.proofs.Common.{List, arith, codes, refl, subst, sym, w16, w32, w8, ℕ}
use Rattle.type_data.proofs.Printed.Graphic.{IsGraphicText, graphic_tested}
use Rattle.type_data.specs.PrintedData.{PrintsBare}
use Rattle.type_data.specs.declared.field.BareKind.{BareKind}
use Rattle.type_data.specs.declared.field.BareKind.TheVariants.{AddressType, Algorithm, CertificateType, Discovery, Eui48, Eui64, Hash, HostIdentityTag, Ipv4, Ipv6, Name, NoAddress, NodeId, NotifyScheme, PublicKey, RecordType, Salt, Tag, Time, U16, U32, U8}
use Rattle.type_data.proofs.OfKinds.Number.Graphic.{number_graphic}
use Rattle.type_data.proofs.OfKinds.Gateway.Graphic.{up_to_graphic}
use Rattle.type_data.proofs.OfKinds.Time.Graphic.{time_graphic}
use Rattle.type_data.proofs.OfKinds.Word.Graphic.{certificate_graphic, notify_scheme_graphic, record_type_graphic}
use Rattle.type_data.proofs.OfKinds.Tag.Graphic.{tag_graphic}
use Rattle.type_data.proofs.OfKinds.Hexadecimal.Graphic.{lower_graphic}
use Rattle.type_data.proofs.OfKinds.Salt.Graphic.{salt_value}
use Rattle.type_data.proofs.OfKinds.Hash.Graphic.{hash_graphic}
use Rattle.type_data.proofs.OfKinds.Base64.Graphic.{base64_graphic}
use Rattle.type_data.proofs.OfKinds.Address.Graphic.{ipv4_graphic, ipv6_graphic}
use Rattle.type_data.proofs.OfKinds.Eui.Graphic.{eui_graphic}
use Rattle.type_data.proofs.OfKinds.NodeId.Graphic.{node_id_graphic}
use Rattle.type_data.proofs.OfKinds.Name.Graphic.{name_graphic}

-- ---- each kind

pub bare_text_graphic : (kind : BareKind) (text octets : List ℕ) → PrintsBare kind text octets → IsGraphicText text
bare_text_graphic U8 text octets p = number_graphic w8 text octets (omega arith) p
bare_text_graphic U16 text octets p = number_graphic w16 text octets (omega arith) p
bare_text_graphic U32 text octets p = number_graphic w32 text octets (omega arith) p
bare_text_graphic Algorithm text octets p = number_graphic w8 text octets (omega arith) p
bare_text_graphic CertificateType text octets p = certificate_graphic text octets p
bare_text_graphic NotifyScheme text octets p = notify_scheme_graphic text octets p
bare_text_graphic RecordType text octets p = record_type_graphic text octets p
bare_text_graphic Time text octets p = time_graphic text octets p
bare_text_graphic Name text octets p = name_graphic text octets p
bare_text_graphic Salt text octets p = salt_value text p.value p.stands
bare_text_graphic Hash text octets p = hash_graphic text octets p
bare_text_graphic Tag text octets p = tag_graphic text octets p
bare_text_graphic Ipv4 text octets p = subst IsGraphicText (sym p.canonical) (ipv4_graphic octets p.four p.each)
bare_text_graphic Ipv6 text octets p = subst IsGraphicText (sym p.canonical) (ipv6_graphic octets p.sixteen p.each)
bare_text_graphic (AddressType optional) text octets p = up_to_graphic 3 _ text octets (omega arith) p
bare_text_graphic Discovery text octets p = up_to_graphic 1 _ text octets (omega arith) p
bare_text_graphic NoAddress text octets p = subst IsGraphicText (sym p.0) (graphic_tested (codes ".") refl)
bare_text_graphic NodeId text octets p = node_id_graphic text octets p
bare_text_graphic Eui48 text octets p = eui_graphic 6 text octets (omega arith) p
bare_text_graphic Eui64 text octets p = eui_graphic 8 text octets (omega arith) p
bare_text_graphic HostIdentityTag text octets p = lower_graphic text p.value p.stands
bare_text_graphic PublicKey text octets p = base64_graphic text p.key p.stands
