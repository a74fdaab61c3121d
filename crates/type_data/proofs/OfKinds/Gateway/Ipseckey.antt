-- IPSECKEY, whose fields depend on octets or on items before them.
use Rattle.zone_rdata.specs.Limits.{longest_data}
use Rattle.zone_rdata.specs.Spelling.{bare}
use Rattle.type_data.proofs.Common.{Labels, List, NamedField, Option, Some, StateParts, TouchingItem, [], ap, ap₂, arith, false, get_or, items_after, length, number_at, refl, subst, sym, ℕ, ◌%◌, ◌<◌, ◌∙◌, ◌∷◌, ◌≡◌, ◌≤◌}
use Rattle.type_data.proofs.OfKinds.Gateway.Fields.{of_digits}
use Rattle.type_data.proofs.OfKinds.Gateway.Printed.{gateway_states}
use Rattle.type_data.proofs.OfKinds.Number.Printed.{u8_printed_states}
use Rattle.type_data.specs.Data.{joined, left_over}
use Rattle.type_data.specs.Kinds.Gateway.{StatesAddressType}
use Rattle.type_data.specs.Kinds.Number.{StatesU8, stated_number}
use Rattle.type_data.specs.Machine.PrintedFields.{OnlyLastPrintsAll}
use Rattle.type_data.specs.Parameters.Printed.{PrintsTouching}
use Rattle.type_data.specs.Parameters.Text.{placed}
use Rattle.type_data.specs.PrintedData.{HasNoWords, NoItemsOf, PrintParts, PrintsData, PrintsFields}
use Rattle.type_data.specs.Table.{ipseckey_by, ipseckey_fields, of_ipseckey}
use Rattle.type_data.specs.declared.field.BareKind.TheVariants.{AddressType, U8}
use Rattle.type_data.specs.declared.field.FieldKind.TheVariants.{Bare}
use Rattle.type_data.proofs.Printed.OwnFields.{one_printed, one_stated}

-- the first three items are in three octets, and state the second and the third
pub record Begins (items : List TouchingItem) (parts : List (List ℕ)) : Type 0 where
  pub zeroth : TouchingItem
  pub first : TouchingItem
  pub second : TouchingItem
  pub more : List TouchingItem
  pub precedence : ℕ
  pub gateway : ℕ
  pub algorithm : ℕ
  pub later : List (List ℕ)
  pub items_are : items ≡ zeroth ∷ first ∷ second ∷ more
  pub parts_are : parts ≡ (precedence ∷ []) ∷ (gateway ∷ []) ∷ (algorithm ∷ []) ∷ later
  pub first_is : stated_number first.item ≡ Some gateway
  pub second_is : stated_number second.item ≡ Some algorithm

same_fields : (items : List TouchingItem) (parts : List (List ℕ)) (octets : List ℕ) → Begins items parts → octets ≡ joined parts → ipseckey_fields items ≡ ipseckey_by (Some (get_or octets 1 0)) (Some (get_or octets 2 0))
same_fields items parts octets b value =
    let first : number_at items 1 ≡ Some b.gateway = ap (λ is. number_at is 1) b.items_are ∙ b.first_is in
    let second : number_at items 2 ≡ Some b.algorithm = ap (λ is. number_at is 2) b.items_are ∙ b.second_is in
    let gateway : get_or octets 1 0 ≡ b.gateway = ap (λ o. get_or o 1 0) (value ∙ ap joined b.parts_are) in
    let algorithm : get_or octets 2 0 ≡ b.algorithm = ap (λ o. get_or o 2 0) (value ∙ ap joined b.parts_are) in
    rw (first, second, gateway, algorithm) refl

pub u8_octet : (text part : List ℕ) (s : StatesU8 text part) → part ≡ s.number ∷ []
u8_octet text part s =
    let fits = s.fits in
    let same : s.number % 256 ≡ s.number = omega arith in
    s.value ∙ ap (λ n. n ∷ []) same

type_octet : (text part : List ℕ) (s : StatesAddressType false text part) → part ≡ s.number ∷ []
type_octet text part s = s.value ∙ ap (λ n. n ∷ []) (omega arith)

begins_with : (items after later_items more : List TouchingItem) (p0 p1 p2 : List ℕ) (later : List (List ℕ)) (zeroth first second : TouchingItem) (t0 t1 t2 : List ℕ) → items ≡ zeroth ∷ after → after ≡ first ∷ later_items → later_items ≡ second ∷ more → first.item ≡ bare t1 → second.item ≡ bare t2 → StatesU8 t0 p0 → StatesAddressType false t1 p1 → StatesU8 t2 p2 → Begins items (p0 ∷ p1 ∷ p2 ∷ later)
begins_with items after later_items more p0 p1 p2 later zeroth first second t0 t1 t2 e0 e1 e2 first_bare second_bare s0 s1 s2 = record {
  zeroth = zeroth;
  first = first;
  second = second;
  more = more;
  precedence = s0.number;
  gateway = s1.number;
  algorithm = s2.number;
  later = later;
  items_are = e0 ∙ ap (λ is. zeroth ∷ is) (e1 ∙ ap (λ is. first ∷ is) e2);
  parts_are = cc (u8_octet t0 p0 s0, type_octet t1 p1 s1, u8_octet t2 p2 s2);
  first_is = ap stated_number first_bare ∙ of_digits t1 s1.number s1.stated;
  second_is = ap stated_number second_bare ∙ of_digits t2 s2.number s2.stated;
}

printed_begins : (gateway algorithm : Option ℕ) (items : List TouchingItem) (parts : List (List ℕ)) → PrintParts (ipseckey_by gateway algorithm) items parts → Begins items parts
printed_begins gateway algorithm items [] p = absurd p
printed_begins gateway algorithm items (p0 ∷ []) p = absurd p.4
printed_begins gateway algorithm items (p0 ∷ p1 ∷ []) p = absurd p.4.4
printed_begins gateway algorithm items (p0 ∷ p1 ∷ p2 ∷ later) p =
    let x = one_printed U8 p.0 p.1 items p0 p.2 p.3 in
    let y = one_printed (AddressType false) p.4.0 p.4.1 p.1 p1 p.4.2 p.4.3 in
    let z = one_printed U8 p.4.4.0 p.4.4.1 p.4.1 p2 p.4.4.2 p.4.4.3 in
    begins_with items p.1 p.4.1 p.4.4.1 p0 p1 p2 later (placed (bare x.text) false) (placed (bare y.text) false) (placed (bare z.text) false) x.text y.text z.text x.are y.are z.are refl refl
    (u8_printed_states x.text p0 x.printed) (gateway_states false y.text p1 y.printed) (u8_printed_states z.text p2 z.printed)

stated_begins : (origin : Labels) (gateway algorithm : Option ℕ) (items : List TouchingItem) (parts : List (List ℕ)) → StateParts origin (ipseckey_by gateway algorithm) items parts → Begins items parts
stated_begins origin gateway algorithm items [] p = absurd p
stated_begins origin gateway algorithm items (p0 ∷ []) p = absurd p.1
stated_begins origin gateway algorithm items (p0 ∷ p1 ∷ []) p = absurd p.1.1
stated_begins origin gateway algorithm items (p0 ∷ p1 ∷ p2 ∷ later) p =
    let after = items_after (Bare U8) items in
    let later_items = items_after (Bare (AddressType false)) after in
    let x = one_stated origin U8 items p0 p.0 in
    let y = one_stated origin (AddressType false) after p1 p.1.0 in
    let z = one_stated origin U8 later_items p2 p.1.1.0 in
    begins_with items after later_items (items_after (Bare U8) later_items) p0 p1 p2 later x.first y.first z.first x.text y.text z.text x.are y.are z.are y.is z.is x.stated y.stated z.stated

-- the fields by the octets themselves
abbrev by_octets : List ℕ → List NamedField
by_octets octets = ipseckey_by (Some (get_or octets 1 0)) (Some (get_or octets 2 0))

are_by_octets : (fields : List NamedField) (octets : List ℕ) (gateway algorithm : ℕ) → fields ≡ ipseckey_by (Some gateway) (Some algorithm) → gateway ≡ get_or octets 1 0 → algorithm ≡ get_or octets 2 0 → fields ≡ by_octets octets
are_by_octets fields octets gateway algorithm are gateway_is algorithm_is = are ∙ ap₂ (λ g a. ipseckey_by (Some g) (Some a)) gateway_is algorithm_is

pub ipseckey_printed : (fields : List NamedField) (octets old new : List ℕ) (gateway algorithm : ℕ) → fields ≡ ipseckey_by (Some gateway) (Some algorithm) → gateway ≡ get_or octets 1 0 → algorithm ≡ get_or octets 2 0 → length octets ≤ longest_data → PrintsTouching (PrintsFields fields) octets old new → PrintsTouching (PrintsData of_ipseckey) octets old new
ipseckey_printed fields octets old new gateway algorithm are gateway_is algorithm_is short p =
    let f = are_by_octets fields octets gateway algorithm are gateway_is algorithm_is in
    let items = p.items in
    let parts = p.printed.parts in
    let each : PrintParts (by_octets octets) items parts = subst (λ fs. PrintParts fs items parts) f p.printed.each in
    let same = same_fields items parts octets (printed_begins (Some (get_or octets 1 0)) (Some (get_or octets 2 0)) items parts each) p.printed.value in
    record {
      items = items;
      printed = record { parts = parts; each = subst (λ fs. PrintParts fs items parts) (sym same) each; value = p.printed.value; short = short };
      appended = p.appended;
    }

only_last_key : (gateway algorithm : Option ℕ) → OnlyLastPrintsAll (ipseckey_by gateway algorithm)
only_last_key gateway algorithm = (refl, (refl, (refl, (refl, tt))))

pub ipseckey_none : (fields : List NamedField) (octets : List ℕ) (gateway algorithm : ℕ) → fields ≡ ipseckey_by (Some gateway) (Some algorithm) → gateway ≡ get_or octets 1 0 → algorithm ≡ get_or octets 2 0 → (OnlyLastPrintsAll fields → NoItemsOf fields octets) → HasNoWords of_ipseckey octets
ipseckey_none fields octets gateway algorithm are gateway_is algorithm_is none origin items states =
    let f = are_by_octets fields octets gateway algorithm are gateway_is algorithm_is in
    let begins = stated_begins origin (number_at items 1) (number_at items 2) items states.parts states.each in
    let same : ipseckey_fields items ≡ fields = same_fields items states.parts octets begins states.value ∙ sym f in
    none (subst OnlyLastPrintsAll (sym f) (only_last_key (Some (get_or octets 1 0)) (Some (get_or octets 2 0)))) origin items states.parts
    (subst (λ fs. StateParts origin fs items states.parts) same states.each) (subst (λ fs. left_over fs items ≡ []) same states.whole) states.value

pub ipseckey_short : (octets : List ℕ) → length octets < 3 → HasNoWords of_ipseckey octets
ipseckey_short octets short origin items states =
    let begins = stated_begins origin (number_at items 1) (number_at items 2) items states.parts states.each in
    omega (arith, short, ap length (states.value ∙ ap joined begins.parts_are))
