-- Parameters that are printed stand on a line as they are, of octets that a terminal shows.
use Rattle.std.proofs.lemmas.List.{length-map}
use Rattle.std.specs.Prelude.{decimal}
use Rattle.zone_rdata.specs.Address.{ipv4_text, ipv6_text}
use Rattle.type_data.proofs.Common.{AllByRecursion, AllByRecursion-append, AllByRecursion-back, AllByRecursion-front, AllZip, Alpn, AreOctets, DohPath, Ech, Ipv4Hint, Ipv6Hint, Key, List, Mandatory, Numbered, Port, Sent, TouchingItem, [], arith, codes, flat_map, inl, inr, join_with_byte, key_text, length, map, refl, subst, suc, sym, true, zero, ℕ, ◌<◌, ◌∷◌, ◌≡◌}
use Rattle.type_data.proofs.OfParameters.PrintedTexts.{protocols_low}
use Rattle.type_data.proofs.Printed.Graphic.{IsGraphicInside, IsGraphicItem, IsGraphicText, graphic_append, graphic_decimal, graphic_inside, graphic_join, graphic_tested}
use Rattle.type_data.proofs.OfKinds.Base64.Graphic.{encoded_graphic}
use Rattle.type_data.proofs.OfKinds.Address.Graphic.{ipv4_graphic, ipv6_graphic}
use Rattle.type_data.specs.Parameters.Printed.{IsAmong, IsSendable, PrintsAddresses, PrintsKeys, PrintsParameter, PrintsParameters, PrintsPort, PrintsProtocols, PrintsValue, ValueText, by_name, by_number, in_quotes, left_out, parameter_items, unquoted, usual_key}
use Rattle.type_data.specs.Parameters.Value.{escaped_item}
use Rattle.type_data.specs.StandingItem.{IsQuoted}

-- such an item, which is in quotes if it touches the one before it
pub record IsGraphicBehind (i : TouchingItem) : Type 0 where
  pub item : IsGraphicItem i.item
  pub parted : i.touches ≡ true → IsQuoted i.item

-- ---- keys

numbered_key : (n : ℕ) → n < 65535 → IsGraphicText (key_text (Numbered n))
numbered_key n few = graphic_append (codes "key") (decimal n) (graphic_tested (codes "key") refl) (graphic_decimal n (omega arith))

usual_graphic : (n : ℕ) → n < 65535 → IsGraphicText (key_text (usual_key n))
usual_graphic zero few = graphic_tested (codes "mandatory") refl
usual_graphic (suc zero) few = graphic_tested (codes "alpn") refl
usual_graphic (suc (suc zero)) few = graphic_tested (codes "no-default-alpn") refl
usual_graphic (suc (suc (suc zero))) few = graphic_tested (codes "port") refl
usual_graphic (suc (suc (suc (suc zero)))) few = graphic_tested (codes "ipv4hint") refl
usual_graphic (suc (suc (suc (suc (suc zero))))) few = graphic_tested (codes "ech") refl
usual_graphic (suc (suc (suc (suc (suc (suc zero)))))) few = graphic_tested (codes "ipv6hint") refl
usual_graphic (suc (suc (suc (suc (suc (suc (suc zero))))))) few = graphic_tested (codes "dohpath") refl
usual_graphic (suc (suc (suc (suc (suc (suc (suc (suc zero)))))))) few = graphic_tested (codes "ohttp") refl
usual_graphic (suc (suc (suc (suc (suc (suc (suc (suc (suc n))))))))) few = numbered_key (suc (suc (suc (suc (suc (suc (suc (suc (suc n))))))))) few

among_short : (parameters : List Sent) (n : ℕ) → AllByRecursion IsSendable parameters → IsAmong parameters n → n < 65535
among_short [] n each among = absurd among
among_short (s ∷ parameters) n each among = elim among [
  | inl here ↦ omega (arith, here, each.0.valid)
  | inr rest ↦ among_short parameters n each.1 rest
]

keys_graphic : (parameters : List Sent) (numbers : List ℕ) → AllByRecursion IsSendable parameters → AllByRecursion (IsAmong parameters) numbers → AllByRecursion IsGraphicText (map (λ number. key_text (usual_key number)) numbers)
keys_graphic parameters [] each there = tt
keys_graphic parameters (n ∷ numbers) each there = (usual_graphic n (among_short parameters n each there.0), keys_graphic parameters numbers each there.1)

mandatory_graphic : (parameters : List Sent) (text octets : List ℕ) → AllByRecursion IsSendable parameters → PrintsKeys parameters text octets → IsGraphicText text
mandatory_graphic parameters text octets each p =
    subst IsGraphicText (sym p.printed) (graphic_join 44 (map (λ number. key_text (usual_key number)) p.numbers) refl (omega (arith, length-map p.numbers (λ number. key_text (usual_key number)), p.some)) (keys_graphic parameters p.numbers each p.there))

-- ---- addresses

addresses_graphic : (size : ℕ) (address_text : List ℕ → List ℕ) → ((octets : List ℕ) → length octets ≡ size → AreOctets octets → IsGraphicText (address_text octets)) → (addresses : List (List ℕ)) → AllByRecursion (λ address. length address ≡ size) addresses → AreOctets (flat_map (λ address. address) addresses) → AllByRecursion IsGraphicText (map address_text addresses)
addresses_graphic size address_text goes [] each low = tt
addresses_graphic size address_text goes (address ∷ addresses) each low = (
  goes address each.0 (AllByRecursion-front (λ c. c < 256) address (flat_map (λ a. a) addresses) low),
  addresses_graphic size address_text goes addresses each.1 (AllByRecursion-back (λ c. c < 256) address (flat_map (λ a. a) addresses) low),
)

hint_graphic : (size : ℕ) (address_text : List ℕ → List ℕ) → ((octets : List ℕ) → length octets ≡ size → AreOctets octets → IsGraphicText (address_text octets)) → (text octets : List ℕ) → AreOctets octets → PrintsAddresses size address_text text octets → IsGraphicText text
hint_graphic size address_text goes text octets low p =
    subst IsGraphicText (sym p.printed) (graphic_join 44 (map address_text p.addresses) refl (omega (arith, length-map p.addresses address_text, p.some)) (addresses_graphic size address_text goes p.addresses p.each (subst AreOctets p.value low)))

-- ---- protocols

protocols_graphic : (text octets : List ℕ) → AreOctets octets → PrintsProtocols text octets → IsGraphicInside text
protocols_graphic text octets low p =
    subst IsGraphicInside (sym p.printed) (graphic_inside (join_with_byte 44 (map escaped_item p.protocols)) (protocols_low p.protocols (subst AreOctets p.value low)))

-- ---- values

port_graphic : (text octets : List ℕ) → PrintsPort text octets → IsGraphicText text
port_graphic text octets p = let few : p.0 < 65536 = p.1 in subst IsGraphicText (sym p.3) (graphic_decimal p.0 (omega arith))

abbrev IsGraphicValue : ValueText → Type 0
IsGraphicValue left_out = Unit {0}
IsGraphicValue (unquoted text) = IsGraphicText text
IsGraphicValue (in_quotes text) = IsGraphicInside text

value_graphic : (parameters : List Sent) (key : Key) (text : ValueText) (octets : List ℕ) → AllByRecursion IsSendable parameters → AreOctets octets → PrintsValue parameters key text octets → IsGraphicValue text
value_graphic parameters key left_out octets each low p = tt
value_graphic parameters Mandatory (unquoted text) octets each low p = mandatory_graphic parameters text octets each p
value_graphic parameters Port (unquoted text) octets each low p = port_graphic text octets p
value_graphic parameters Ipv4Hint (unquoted text) octets each low p = hint_graphic 4 ipv4_text ipv4_graphic text octets low p
value_graphic parameters Ech (unquoted text) octets each low p = subst IsGraphicText (sym p.1) (encoded_graphic octets p.0 low)
value_graphic parameters Ipv6Hint (unquoted text) octets each low p = hint_graphic 16 ipv6_text ipv6_graphic text octets low p
value_graphic parameters key (unquoted text) octets each low p = absurd p
value_graphic parameters Alpn (in_quotes text) octets each low p = protocols_graphic text octets low p
value_graphic parameters DohPath (in_quotes text) octets each low p = subst IsGraphicInside (sym p.1) (graphic_inside octets low)
value_graphic parameters (Numbered number) (in_quotes text) octets each low p = subst IsGraphicInside (sym p.1) (graphic_inside octets low)
value_graphic parameters key (in_quotes text) octets each low p = absurd p

-- ---- parameters

items_graphic : (key : Key) (text : ValueText) → IsGraphicText (key_text key) → IsGraphicValue text → AllByRecursion IsGraphicBehind (parameter_items key text)
items_graphic key left_out name value = (record { item = name; parted = λ e. absurd cc }, tt)
items_graphic key (unquoted text) name value = (
  record {
    item = graphic_append (key_text key) (61 ∷ text) name (graphic_append (61 ∷ []) text (graphic_tested (61 ∷ []) refl) value);
    parted = λ e. absurd cc;
  },
  tt,
)
items_graphic key (in_quotes text) name value = (
  record { item = graphic_append (key_text key) (61 ∷ []) name (graphic_tested (61 ∷ []) refl); parted = λ e. absurd cc },
  (record { item = value; parted = λ e. tt }, tt),
)

parameter_graphic : (parameters : List Sent) (s : Sent) (items : List TouchingItem) → AllByRecursion IsSendable parameters → IsSendable s → PrintsParameter parameters s items → AllByRecursion IsGraphicBehind items
parameter_graphic parameters s _ each own (by_name text value) =
    items_graphic (usual_key s.number) text (usual_graphic s.number own.valid) (value_graphic parameters (usual_key s.number) text s.octets each own.each value)
parameter_graphic parameters s _ each own (by_number text none value) =
    items_graphic (Numbered s.number) text (numbered_key s.number own.valid) (value_graphic parameters (Numbered s.number) text s.octets each own.each value)

each_graphic : (parameters rest : List Sent) (parts : List (List TouchingItem)) → AllByRecursion IsSendable parameters → AllByRecursion IsSendable rest → AllZip (PrintsParameter parameters) rest parts → AllByRecursion IsGraphicBehind (flat_map (λ part. part) parts)
each_graphic parameters rest [] each own zip = tt
each_graphic parameters [] (part ∷ parts) each own zip = absurd zip
each_graphic parameters (s ∷ rest) (part ∷ parts) each own zip =
    AllByRecursion-append IsGraphicBehind part (flat_map (λ p. p) parts) (parameter_graphic parameters s part each own.0 zip.0) (each_graphic parameters rest parts each own.1 zip.1)

pub parameters_graphic : (items : List TouchingItem) (octets : List ℕ) → PrintsParameters items octets → AllByRecursion IsGraphicBehind items
parameters_graphic items octets p =
    subst (AllByRecursion IsGraphicBehind) (sym p.whole) (each_graphic p.parameters p.parameters p.parts p.sent.each p.sent.each p.each)
