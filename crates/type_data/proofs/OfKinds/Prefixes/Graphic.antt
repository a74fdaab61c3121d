-- Prefixes that are printed stand outside quotes, of octets that a terminal shows.
use Rattle.std.proofs.Common.{decimal}
use Rattle.zone_rdata.specs.Item.{bare, quoted}
use Rattle.type_data.proofs.Common.{AllByRecursion, Bool, List, RawItem, [], false, refl, subst, sym, true, ℕ, ◌++◌, ◌∷◌}
use Rattle.type_data.proofs.Printed.Graphic.{IsGraphicItem, IsGraphicText, graphic_append, graphic_decimal, graphic_tested}
use Rattle.type_data.proofs.OfKinds.Address.Graphic.{ipv4_graphic, ipv6_graphic}
use Rattle.type_data.proofs.OfKinds.Prefixes.Printed.{short_bits, short_family}
use Rattle.type_data.specs.Kinds.Prefixes.{IsAddress, PrintsPrefix, PrintsPrefixItem, PrintsPrefixes, address_text, family_of, mark}
use Rattle.type_data.specs.declared.kinds.prefixes.Address.{Address}
use Rattle.type_data.specs.declared.kinds.prefixes.Address.TheVariants.{Ipv4, Ipv6}

address_graphic : (a : Address) → IsAddress a → IsGraphicText (address_text a)
address_graphic (Ipv4 octets) is = ipv4_graphic octets is.0 is.1
address_graphic (Ipv6 octets) is = ipv6_graphic octets is.0 is.1

marked_graphic : (negated : Bool) (text : List ℕ) → IsGraphicText text → IsGraphicText (mark negated ++ text)
marked_graphic true text is = graphic_append (mark true) text (graphic_tested (mark true) refl) is
marked_graphic false text is = is

pub prefix_graphic : (text octets : List ℕ) → PrintsPrefix text octets → IsGraphicText text
prefix_graphic text octets p =
    let a : Address = p.prefix.address in
    let address = graphic_append (58 ∷ []) (address_text a) (graphic_tested (58 ∷ []) refl) (address_graphic a p.address) in
    let len = graphic_append (47 ∷ []) (decimal p.prefix.bits) (graphic_tested (47 ∷ []) refl) (graphic_decimal p.prefix.bits (short_bits p.prefix.bits a p.address p.few)) in
    let front = graphic_append (decimal (family_of a)) (58 ∷ address_text a) (graphic_decimal (family_of a) (short_family a)) address in
    subst IsGraphicText (sym p.printed) (graphic_append (mark p.prefix.negated ++ (decimal (family_of a) ++ 58 ∷ address_text a)) (47 ∷ decimal p.prefix.bits) (marked_graphic p.prefix.negated (decimal (family_of a) ++ 58 ∷ address_text a) front) len)

item_graphic : (item : RawItem) (octets : List ℕ) → PrintsPrefixItem item octets → IsGraphicItem item
item_graphic (bare text) octets is = prefix_graphic text octets is
item_graphic (quoted text) octets is = absurd is

pub prefixes_graphic : (items : List RawItem) (octets : List ℕ) → PrintsPrefixes items octets → AllByRecursion IsGraphicItem items
prefixes_graphic [] octets are = tt
prefixes_graphic (item ∷ items) octets are = (item_graphic item are.0 are.2.0, prefixes_graphic items are.1 are.2.1.0)
