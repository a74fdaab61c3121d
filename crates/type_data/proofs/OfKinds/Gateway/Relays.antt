-- AMTRELAY data, whose discovery's bit is in the octet of its type.
use Rattle.std.specs.Prelude.{decimal, suc, zero}
use Rattle.zone_rdata.proofs.Items.GenericLaws.{decimal-is}
use Rattle.zone_rdata.proofs.Octets.Sent.{append_same}
use Rattle.zone_rdata.specs.Limits.{longest_data}
use Rattle.zone_rdata.specs.Spelling.{bare}
use Rattle.type_data.proofs.Common.{Bool, Labels, List, NamedField, Option, Some, StateParts, TouchingItem, [], address_kind, ap, append_assoc, ap₂, arith, codes, drop, false, is_one, items_after, length, map, number_at, refl, slice_index, subst, sym, take, true, ℕ, ◌%◌, ◌+◌, ◌++◌, ◌/◌, ◌<◌, ◌==◌, ◌∙◌, ◌∷◌, ◌≡◌, ◌≤◌}
use Rattle.type_data.proofs.OfKinds.Gateway.Fields.{of_digits}
use Rattle.type_data.proofs.OfKinds.Gateway.Printed.{gateway_states}
use Rattle.type_data.proofs.Printed.OwnFields.{one_printed, one_stated}
use Rattle.type_data.specs.Data.{joined, left_over}
use Rattle.type_data.specs.Kinds.Gateway.{StatesDiscovery, discovery_bit}
use Rattle.type_data.specs.Kinds.Number.{PrintsU8, StatesU8, stated_number}
use Rattle.type_data.specs.Machine.PrintedFields.{OnlyLastPrintsAll}
use Rattle.type_data.specs.Parameters.Printed.{PrintsTouching, written_touching}
use Rattle.type_data.specs.Parameters.Text.{placed}
use Rattle.type_data.specs.Printed.{NoFront, PrintsFront}
use Rattle.type_data.specs.PrintedData.{HasNoWords, NoItemsOf, PrintParts, PrintsData, PrintsFields}
use Rattle.type_data.specs.Table.{amtrelay_by, amtrelay_fields, field, field_of, of_amtrelay}
use Rattle.type_data.specs.declared.field.Field.{Field}
use Rattle.type_data.specs.declared.field.BareKind.TheVariants.{AddressType, Discovery, U8}
use Rattle.type_data.specs.declared.field.FieldKind.TheVariants.{Bare}

-- ---- the fields of the relay

abbrev relay_fields : Option ℕ → Option ℕ → List NamedField
relay_fields discovery relay =
    field (codes "type") (Bare (AddressType (is_one discovery))) ∷ field (codes "relay") (Bare (address_kind relay)) ∷ []

-- those after the first two
pub last_two : (fields later : List Field) (discovery relay : ℕ) (d r : ℕ) → later ≡ take 2 (drop 2 fields) → map field_of fields ≡ amtrelay_by (Some d) (Some r) → d ≡ discovery → r ≡ relay → map field_of later ≡ relay_fields (Some discovery) (Some relay)
last_two [] later discovery relay d r are whole d_is r_is = absurd (cc whole)
last_two (a ∷ []) later discovery relay d r are whole d_is r_is = absurd (cc whole)
last_two (a ∷ b ∷ []) later discovery relay d r are whole d_is r_is = absurd (cc whole)
last_two (a ∷ b ∷ x ∷ []) later discovery relay d r are whole d_is r_is = absurd (cc whole)
last_two (a ∷ b ∷ x ∷ y ∷ z ∷ more) later discovery relay d r are whole d_is r_is = absurd (cc whole)
last_two (a ∷ b ∷ x ∷ y ∷ []) later discovery relay d r are whole d_is r_is =
    let rest : map field_of (x ∷ y ∷ []) ≡ relay_fields (Some d) (Some r) = cc whole in
    ap (map field_of) are ∙ rest ∙ ap₂ (λ x y. relay_fields (Some x) (Some y)) d_is r_is

-- ---- the octet of the type

-- what the octet is of
bits : (one : Bool) (octet number : ℕ) → number ≤ 3 → octet ≡ discovery_bit one + number → octet % 128 ≡ number
bits true octet number few is = omega (arith, few, is)
bits false octet number few is = omega (arith, few, is)

highest : (discovery octet number : ℕ) → discovery ≤ 1 → number ≤ 3 → octet ≡ discovery_bit (discovery == 1) + number → octet / 128 ≡ discovery
highest zero octet number least few is = omega (arith, few, is)
highest (suc zero) octet number least few is = omega (arith, few, is)
highest (suc (suc n)) octet number least few is = absurd (omega (arith, least))

first_octet : (rest after parts : List ℕ) (octet other : ℕ) → rest ≡ octet ∷ after → rest ≡ (other ∷ []) ++ parts → octet ≡ other
first_octet rest after parts octet other a b = cc (sym a ∙ b)

-- ---- the words

-- the two items before those of the relay
abbrev with_two : List ℕ → ℕ → List TouchingItem → List TouchingItem
with_two text discovery items = placed (bare text) false ∷ placed (bare (decimal discovery)) false ∷ items

-- what the octet of the type is printed as
type_number : (octet : ℕ) (rest after : List ℕ) (items : List TouchingItem) (parts : List (List ℕ)) (relay : Option ℕ) → rest ≡ octet ∷ after → rest ≡ joined parts → PrintParts (relay_fields (Some (octet / 128)) relay) items parts → number_at items 0 ≡ Some (octet % 128)
type_number octet rest after items [] relay is value p = absurd p
type_number octet rest after items (part ∷ parts) relay is value p =
    let x = one_printed (AddressType (is_one (Some (octet / 128)))) p.0 p.1 items part p.2 p.3 in
    let s = gateway_states (is_one (Some (octet / 128))) x.text part x.printed in
    let same : octet ≡ discovery_bit (is_one (Some (octet / 128))) + s.number = first_octet rest after (joined parts) octet (discovery_bit (is_one (Some (octet / 128))) + s.number) is (value ∙ ap (λ q. q ++ joined parts) s.value) in
    ap (λ is. number_at is 0) x.are ∙ of_digits x.text s.number s.stated ∙ ap Some (sym (bits (is_one (Some (octet / 128))) octet s.number s.few same))

discovery_number : (octet : ℕ) → octet < 256 → stated_number (bare (decimal (octet / 128))) ≡ Some (octet / 128)
discovery_number octet few = of_digits (decimal (octet / 128)) (octet / 128) (decimal-is (octet / 128) (omega arith))

all_words : (text digits : List ℕ) (items : List TouchingItem) (old o1 o2 o3 o4 new : List ℕ) → o1 ≡ old ++ 32 ∷ [] → o2 ≡ o1 ++ text → o3 ≡ o2 ++ 32 ∷ [] → o4 ≡ o3 ++ digits → new ≡ o4 ++ written_touching items → new ≡ old ++ (32 ∷ (text ++ (32 ∷ (digits ++ written_touching items))))
all_words text digits items old o1 o2 o3 o4 new e1 e2 e3 e4 e5 =
    let all : new ≡ ((((old ++ 32 ∷ []) ++ text) ++ 32 ∷ []) ++ digits) ++ written_touching items = cc in
    all ∙ simp append_assoc

pub amtrelay_printed : (fields : List NamedField) (octets rest after old o1 o2 o3 o4 new : List ℕ) (octet : ℕ) → o1 ≡ old ++ 32 ∷ [] → PrintsFront PrintsU8 StatesU8 octets rest o1 o2 → o3 ≡ o2 ++ 32 ∷ [] → o4 ≡ o3 ++ decimal (slice_index rest 0 / 128) → rest ≡ octet ∷ after → octet < 256 → fields ≡ relay_fields (Some (octet / 128)) (Some (octet % 128)) → length octets ≤ longest_data → PrintsTouching (PrintsFields fields) rest o4 new → PrintsTouching (PrintsData of_amtrelay) octets old new
amtrelay_printed fields octets rest after old o1 o2 o3 o4 new octet e1 front e3 e4 is few fields_are short p =
    let each : PrintParts (relay_fields (Some (octet / 128)) (Some (octet % 128))) p.items p.printed.parts = subst (λ fs. PrintParts fs p.items p.printed.parts) fields_are p.printed.each in
    let items = with_two front.text (octet / 128) p.items in
    let first : number_at items 1 ≡ Some (octet / 128) = discovery_number octet few in
    let second : number_at items 2 ≡ Some (octet % 128) = type_number octet rest after p.items p.printed.parts (Some (octet % 128)) is p.printed.value each in
    let fields_same : amtrelay_by (Some (octet / 128)) (Some (octet % 128)) ≡ amtrelay_fields items = ap₂ (λ d r. amtrelay_by d r) (sym first) (sym second) in
    let discovery : slice_index rest 0 / 128 ≡ octet / 128 = ap (λ o. slice_index o 0 / 128) is in
    let parts = front.part ∷ [] ∷ p.printed.parts in
    let all : PrintParts (amtrelay_by (Some (octet / 128)) (Some (octet % 128))) items parts = (
      placed (bare front.text) false ∷ [],
      placed (bare (decimal (octet / 128))) false ∷ p.items,
      refl,
      record { alone = bare front.text ∷ []; printed = (front.text, front.printed, refl); are_apart = refl },
      (
        placed (bare (decimal (octet / 128))) false ∷ [],
        p.items,
        refl,
        record {
          alone = bare (decimal (octet / 128)) ∷ [];
          printed = (decimal (octet / 128), record { number = octet / 128; few = omega arith; printed = refl; value = refl }, refl);
          are_apart = refl;
        },
        each,
      ),
    ) in
    record {
      items = items;
      printed = record {
        parts = parts;
        each = subst (λ fs. PrintParts fs items parts) fields_same all;
        value = front.whole ∙ ap (λ r. front.part ++ r) p.printed.value;
        short = short;
      };
      appended = all_words front.text (decimal (octet / 128)) p.items old o1 o2 o3 o4 new e1 front.appended e3 (e4 ∙ ap (λ n. o3 ++ decimal n) discovery) p.appended;
    }

-- ---- data without words

-- the parts that items state
record RelayParts (origin : Labels) (items : List TouchingItem) (octets : List ℕ) : Type 0 where
  text : List ℕ
  precedence : List ℕ
  discovery : ℕ
  number : ℕ
  parts : List (List ℕ)
  stated : StatesU8 text precedence
  whole : octets ≡ precedence ++ joined parts
  least : discovery ≤ 1
  few : number ≤ 3
  first : number_at items 1 ≡ Some discovery
  second : number_at items 2 ≡ Some number
  later : List ℕ
  octet : joined parts ≡ (discovery_bit (discovery == 1) + number) ∷ later
  each : StateParts origin (relay_fields (number_at items 1) (number_at items 2)) (items_after (Bare Discovery) (items_after (Bare U8) items)) parts

relay_parts : (origin : Labels) (items : List TouchingItem) (parts : List (List ℕ)) (octets : List ℕ) → StateParts origin (amtrelay_fields items) items parts → octets ≡ joined parts → RelayParts origin items octets
relay_parts origin items [] octets p value = absurd p
relay_parts origin items (p0 ∷ []) octets p value = absurd p.1
relay_parts origin items (p0 ∷ p1 ∷ []) octets p value = absurd p.1.1
relay_parts origin items (p0 ∷ p1 ∷ p2 ∷ later) octets p value =
    let after = items_after (Bare U8) items in
    let last = items_after (Bare Discovery) after in
    let x = one_stated origin U8 items p0 p.0 in
    let y = one_stated origin Discovery after p1 p.1.0 in
    let z = one_stated origin (AddressType (is_one (number_at items 1))) last p2 p.1.1.0 in
    let are : items ≡ x.first ∷ y.first ∷ last = x.are ∙ ap (λ is. x.first ∷ is) y.are in
    let first : number_at items 1 ≡ Some y.stated.number = ap (λ is. number_at is 1) are ∙ ap stated_number y.is ∙ of_digits y.text y.stated.number y.stated.stated in
    let second : number_at items 2 ≡ Some z.stated.number = ap (λ is. number_at is 2) (are ∙ ap (λ is. x.first ∷ y.first ∷ is) z.are) ∙ ap stated_number z.is ∙ of_digits z.text z.stated.number z.stated.stated in
    let type_is : p2 ≡ (discovery_bit (y.stated.number == 1) + z.stated.number) ∷ [] = z.stated.value ∙ ap (λ d. (discovery_bit (is_one d) + z.stated.number) ∷ []) first in
    record {
      text = x.text;
      precedence = p0;
      discovery = y.stated.number;
      number = z.stated.number;
      parts = p2 ∷ later;
      stated = x.stated;
      whole = value ∙ ap (λ q. p0 ++ (q ++ joined (p2 ∷ later))) y.stated.value;
      least = y.stated.few;
      few = z.stated.few;
      first = first;
      second = second;
      later = joined later;
      octet = ap (λ q. q ++ joined later) type_is;
      each = p.1.1;
    }

-- what is left after the precedence is of the later parts
later_is : (origin : Labels) (items : List TouchingItem) (octets rest old new : List ℕ) (p : RelayParts origin items octets) → PrintsFront PrintsU8 StatesU8 octets rest old new → rest ≡ joined p.parts
later_is origin items octets rest old new p front =
    let same : p.precedence ≡ front.part = front.alone p.precedence (joined p.parts) p.text p.whole p.stated in
    (append_same front.part p.precedence rest (joined p.parts) (ap length (sym same)) (sym front.whole ∙ p.whole)).1

pub amtrelay_none : (fields : List NamedField) (octets rest after old new : List ℕ) (octet : ℕ) → PrintsFront PrintsU8 StatesU8 octets rest old new → rest ≡ octet ∷ after → fields ≡ relay_fields (Some (octet / 128)) (Some (octet % 128)) → (OnlyLastPrintsAll fields → NoItemsOf fields rest) → HasNoWords of_amtrelay octets
amtrelay_none fields octets rest after old new octet front is fields_are none origin items states =
    let p = relay_parts origin items states.parts octets states.each states.value in
    let left = later_is origin items octets rest old new p front in
    let value : octet ≡ discovery_bit (p.discovery == 1) + p.number = cc (sym is ∙ left ∙ p.octet) in
    let first : octet / 128 ≡ p.discovery = highest p.discovery octet p.number p.least p.few value in
    let second : octet % 128 ≡ p.number = bits (p.discovery == 1) octet p.number p.few value in
    let same : relay_fields (number_at items 1) (number_at items 2) ≡ fields = ap₂ (λ d r. relay_fields d r) (p.first ∙ ap Some (sym first)) (p.second ∙ ap Some (sym second)) ∙ sym fields_are in
    let last = items_after (Bare Discovery) (items_after (Bare U8) items) in
    none (subst OnlyLastPrintsAll (sym fields_are) (refl, tt)) origin last p.parts (subst (λ fs. StateParts origin fs last p.parts) same p.each) (subst (λ fs. left_over fs last ≡ []) same states.whole) left

pub amtrelay_short : (octets rest old new : List ℕ) → PrintsFront PrintsU8 StatesU8 octets rest old new → length rest < 1 → HasNoWords of_amtrelay octets
amtrelay_short octets rest old new front short origin items states =
    let p = relay_parts origin items states.parts octets states.each states.value in
    omega (arith, short, ap length (later_is origin items octets rest old new p front ∙ p.octet))

pub amtrelay_empty : (octets : List ℕ) → NoFront StatesU8 octets → HasNoWords of_amtrelay octets
amtrelay_empty octets none origin items states =
    let p = relay_parts origin items states.parts octets states.each states.value in
    none p.precedence (joined p.parts) p.text p.whole p.stated

-- a text states the bit of any octets
pub amtrelay_always : (octets rest : List ℕ) → NoFront StatesDiscovery rest → HasNoWords of_amtrelay octets
amtrelay_always octets rest none origin items states =
    none [] rest (decimal 0) refl (record { number = 0; stated = decimal-is 0 (omega arith); few = omega arith; value = refl })
