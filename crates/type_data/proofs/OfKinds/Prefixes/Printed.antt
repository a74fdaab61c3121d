-- Prefixes of addresses as they are printed.
use Rattle.std.proofs.Common.{decimal}
use Rattle.zone_rdata.proofs.Addresses.AddressLaws.{ipv4_printed, ipv6_printed}
use Rattle.zone_rdata.proofs.Addresses.AddressOctets.{ipv4_bytes, ipv4_count, ipv6_bytes, ipv6_count}
use Rattle.zone_rdata.proofs.Items.GenericLaws.{decimal-is}
use Rattle.zone_rdata.proofs.Octets.Sent.{append_same}
use Rattle.zone_rdata.specs.Item.{bare, quoted}
use Rattle.zone_rdata.specs.Text.{written_item}
use Rattle.type_data.proofs.Common.{Bool, List, NothingIs, RawItem, [], ap, append-nil, append_assoc, arith, false, flat_map-append, get_or, get_or_append_left, length, length-append, nil_from_length, refl, replicate, subst, sym, to_be_bytes, true, w16, ℕ, ◌%◌, ◌*◌, ◌++◌, ◌+◌, ◌<◌, ◌^◌, ◌∙◌, ◌∷◌, ◌≡◌, ◌≤◌}
use Rattle.type_data.specs.Kinds.Prefixes.{IsAPrefix, IsAddress, IsAddressText, IsPrefixOctets, IsTrimmed, PrintsPrefix, PrintsPrefixItem, PrintsPrefixes, StatesPrefix, StatesPrefixes, address_text, family_of, octets_of, prefix_text, sign}
use Rattle.type_data.specs.Kinds.Prefixes.Machine.{BeginsWithPrefix, IsAddressIn}
use Rattle.type_data.specs.Printed.{NoFront, NoItems, PrintsAll, PrintsFront, after_blanks}
use Rattle.type_data.specs.declared.kinds.prefixes.Address.{Address}
use Rattle.type_data.specs.declared.kinds.prefixes.Address.TheVariants.{Ipv4, Ipv6}
use Rattle.type_data.specs.declared.kinds.prefixes.Prefix.{Prefix}
use Rattle.type_data.proofs.OfKinds.Number.Read.{number_once}

-- ---- addresses

address_small : (a : Address) → IsAddress a → length (octets_of a) ≤ 16
address_small (Ipv4 octets) is = omega (arith, is.0)
address_small (Ipv6 octets) is = omega (arith, is.0)

family_small : (a : Address) → family_of a < 2 ^ 16
family_small (Ipv4 octets) = omega arith
family_small (Ipv6 octets) = omega arith

-- addresses of one family have as many octets
same_count : (a b : Address) → IsAddress a → IsAddress b → family_of a ≡ family_of b → length (octets_of a) ≡ length (octets_of b)
same_count (Ipv4 x) (Ipv4 y) these those e = these.0 ∙ sym those.0
same_count (Ipv4 x) (Ipv6 y) these those e = absurd (omega arith)
same_count (Ipv6 x) (Ipv4 y) these those e = absurd (omega arith)
same_count (Ipv6 x) (Ipv6 y) these those e = these.0 ∙ sym those.0

spelt_address : (text : List ℕ) (a : Address) → IsAddressText text a → IsAddress a
spelt_address text (Ipv4 octets) is = (ipv4_count text octets is, ipv4_bytes text octets is)
spelt_address text (Ipv6 octets) is = (ipv6_count text octets is, ipv6_bytes text octets is)

printed_address : (a : Address) → IsAddress a → IsAddressText (address_text a) a
printed_address (Ipv4 octets) is = ipv4_printed octets is.0 is.1
printed_address (Ipv6 octets) is = ipv6_printed octets is.0 is.1

-- ---- what is printed states the octets

pub short_family : (a : Address) → family_of a < 2 ^ 64
short_family a = omega (arith, family_small a)

pub short_bits : (n : ℕ) (a : Address) → IsAddress a → n ≤ 8 * length (octets_of a) → n < 2 ^ 64
short_bits n a is few = omega (arith, address_small a is)

pub prefix_printed_states : (text octets : List ℕ) → PrintsPrefix text octets → IsAPrefix text octets
prefix_printed_states text octets p =
    let a : Address = p.prefix.address in (
      p.prefix,
      (
        record {
          family = decimal (family_of a);
          address = address_text a;
          len = decimal p.prefix.bits;
          parts = p.printed;
          number = decimal-is (family_of a) (short_family a);
          is = printed_address a p.address;
          bits = decimal-is p.prefix.bits (short_bits p.prefix.bits a p.address p.few);
          few = p.few;
        },
        p.value,
      ),
    )

item_printed_states : (item : RawItem) (octets : List ℕ) → PrintsPrefixItem item octets → StatesPrefix item octets
item_printed_states (bare text) octets is = prefix_printed_states text octets is
item_printed_states (quoted text) octets is = absurd is

pub prefixes_printed_state : (items : List RawItem) (octets : List ℕ) → PrintsPrefixes items octets → StatesPrefixes items octets
prefixes_printed_state [] octets are = are
prefixes_printed_state (item ∷ items) octets are =
    (are.0, are.1, (item_printed_states item are.0 are.2.0, (prefixes_printed_state items are.1 are.2.1.0, are.2.1.1)))

-- ---- how many there are

octets_count : (p : Prefix) (octets : List ℕ) (is : IsPrefixOctets p octets) → length octets ≡ 4 + length is.part
octets_count p octets is = let e = ap length is.value in omega (arith, e)

item_count : (item : RawItem) (octets : List ℕ) → PrintsPrefixItem item octets → 4 ≤ length octets
item_count (bare text) octets is = omega (arith, octets_count is.prefix octets is.value)
item_count (quoted text) octets is = absurd is

-- each has four octets or more
pub four_octets_each : (items : List RawItem) (octets : List ℕ) → PrintsPrefixes items octets → 4 * length items ≤ length octets
four_octets_each [] octets are = omega arith
four_octets_each (item ∷ items) octets are =
    omega (arith, item_count item are.0 are.2.0, four_octets_each items are.1 are.2.1.0, ap length are.2.1.1, length-append are.0 are.1)

pub prefixes_few : (items : List RawItem) (octets : List ℕ) → PrintsPrefixes items octets → length items ≤ length octets
prefixes_few items octets are = omega (arith, four_octets_each items octets are)

-- ---- a prefix's octets say where they end

sign_dropped : (negated : Bool) (n : ℕ) → n ≤ 16 → (sign negated + n) % 128 ≡ n
sign_dropped true n few = omega arith
sign_dropped false n few = omega arith

part_small : (a : Address) (part : List ℕ) → IsAddress a → IsTrimmed (octets_of a) part → length part ≤ 16
part_small a part is trimmed = omega (arith, address_small a is, ap length trimmed.whole, length-append part (replicate trimmed.zeros 0))

record IsFramed (octets : List ℕ) : Type 0 where
  pub count : length octets ≡ 4 + get_or octets 3 0 % 128

framed : (p : Prefix) (octets : List ℕ) → IsAddress p.address → IsPrefixOctets p octets → IsFramed octets
framed p octets address is =
    let fourth : get_or octets 3 0 ≡ sign p.negated + length is.part = ap (λ o. get_or o 3 0) is.value in
    let count : get_or octets 3 0 % 128 ≡ length is.part = ap (λ n. n % 128) fourth ∙ sign_dropped p.negated (length is.part) (part_small p.address is.part address is.trimmed) in
    record { count = octets_count p octets is ∙ ap (λ n. 4 + n) (sym count) }

frame_once : (a b x y : List ℕ) → IsFramed a → IsFramed b → a ++ x ≡ b ++ y → (a ≡ b) × (x ≡ y)
frame_once a b x y these those e =
    let first : 3 < length a = let c = these.count in omega arith in
    let second : 3 < length b = let c = those.count in omega arith in
    let same : get_or a 3 0 ≡ get_or b 3 0 = sym (get_or_append_left a x 0 3 first) ∙ ap (λ o. get_or o 3 0) e ∙ get_or_append_left b y 0 3 second in
    append_same a b x y (these.count ∙ ap (λ n. 4 + n % 128) same ∙ sym those.count) e

stated_framed : (text octets : List ℕ) → IsAPrefix text octets → IsFramed octets
stated_framed text octets is = framed is.0 octets (spelt_address is.1.0.address is.0.address is.1.0.is) is.1.1

-- ---- a prefix at the front

pub prefix_front : (octets rest old new : List ℕ) (p : Prefix) → BeginsWithPrefix octets p rest → new ≡ old ++ prefix_text p → PrintsFront PrintsPrefix IsAPrefix octets rest old new
prefix_front octets rest old new p begins appended = record {
  part = begins.front;
  text = prefix_text p;
  whole = begins.whole;
  printed = record { prefix = p; address = begins.address; few = begins.few; printed = refl; value = begins.value };
  appended = appended;
  alone = λ other after words cut is. (frame_once other begins.front after rest (stated_framed words other is) (framed p begins.front begins.address begins.value) (sym cut ∙ begins.whole)).0;
}

-- the octets begin with those of a prefix that a text states
pub record Seen (octets : List ℕ) : Type 0 where
  pub prefix : Prefix
  pub part : List ℕ
  pub after : List ℕ
  pub address : IsAddress prefix.address
  pub few : prefix.bits ≤ 8 * length (octets_of prefix.address)
  pub trimmed : IsTrimmed (octets_of prefix.address) part
  pub whole : octets ≡ to_be_bytes w16 (family_of prefix.address) ++ (prefix.bits ∷ (sign prefix.negated + length part) ∷ (part ++ after))

pub unseen : (octets : List ℕ) → (Seen octets → ⊥) → NoFront IsAPrefix octets
unseen octets none front after text cut is =
    let p : Prefix = is.0 in
    let own = is.1.1 in
    none (record {
      prefix = p;
      part = own.part;
      after = after;
      address = spelt_address is.1.0.address p.address is.1.0.is;
      few = is.1.0.few;
      trimmed = own.trimmed;
      whole = cut ∙ ap (λ f. f ++ after) own.value;
    })

-- the four octets before an address's
abbrev pub head : ℕ → ℕ → ℕ → List ℕ → List ℕ
head family bits count rest = to_be_bytes w16 family ++ (bits ∷ count ∷ rest)

pub record SameHead (octets : List ℕ) (family bits count : ℕ) (rest : List ℕ) (s : Seen octets) : Type 0 where
  pub family_is : family ≡ family_of s.prefix.address
  pub bits_are : bits ≡ s.prefix.bits
  pub counted : count % 128 ≡ length s.part
  pub rest_is : rest ≡ s.part ++ s.after

same_octets : (a b c d e f g h : ℕ) (rest more : List ℕ) → a ∷ b ∷ c ∷ d ∷ rest ≡ e ∷ f ∷ g ∷ h ∷ more → (a ∷ b ∷ [] ≡ e ∷ f ∷ []) × (c ≡ g) × (d ≡ h) × (rest ≡ more)
same_octets a b c d e f g h rest more same = (cc, cc, cc, cc)

pub same_head : (octets rest : List ℕ) (family bits count : ℕ) → family < 65536 → octets ≡ head family bits count rest → (s : Seen octets) → SameHead octets family bits count rest s
same_head octets rest family bits count small whole s =
    let e = same_octets _ _ _ _ _ _ _ _ rest (s.part ++ s.after) (sym whole ∙ s.whole) in
    record {
      family_is = number_once family (family_of s.prefix.address) (omega arith) (family_small s.prefix.address) e.0;
      bits_are = e.1;
      counted = ap (λ n. n % 128) e.2 ∙ sign_dropped s.prefix.negated (length s.part) (part_small s.prefix.address s.part s.address s.trimmed);
      rest_is = e.3;
    }

pub head_of : (octets a b rest : List ℕ) (family bits count : ℕ) → octets ≡ to_be_bytes w16 family ++ a → a ≡ bits ∷ b → b ≡ count ∷ rest → octets ≡ head family bits count rest
head_of octets a b rest family bits count first second third =
    first ∙ ap (λ r. to_be_bytes w16 family ++ r) (second ∙ ap (λ r. bits ∷ r) third)

same_part : (octets rest part after : List ℕ) (family bits count : ℕ) (s : Seen octets) → SameHead octets family bits count rest s → rest ≡ part ++ after → length part ≡ count % 128 → part ≡ s.part
same_part octets rest part after family bits count s same cut counted =
    (append_same part s.part after s.after (counted ∙ same.counted) (sym cut ∙ same.rest_is)).0

address_seen : (octets : List ℕ) (family : ℕ) (part : List ℕ) (s : Seen octets) → family ≡ family_of s.prefix.address → part ≡ s.part → IsAddressIn family part s.prefix.address
address_seen octets family part s own e = record {
  own = sym own;
  trimmed = subst (λ (l : List ℕ). IsTrimmed (octets_of s.prefix.address) l) (sym e) s.trimmed;
  is = s.address;
}

pub no_address_there : (octets rest part after : List ℕ) (family bits count : ℕ) → family < 65536 → octets ≡ head family bits count rest → rest ≡ part ++ after → length part ≡ count % 128 → NothingIs (IsAddressIn family part) → NoFront IsAPrefix octets
no_address_there octets rest part after family bits count small whole cut counted none = unseen octets (λ s.
    let same = same_head octets rest family bits count small whole s in
    none s.prefix.address (address_seen octets family part s same.family_is (same_part octets rest part after family bits count s same cut counted)))

pub too_many_bits : (octets rest part : List ℕ) (family bits count : ℕ) (a : Address) → family < 65536 → octets ≡ head family bits count rest → IsAddressIn family part a → 8 * length (octets_of a) < bits → NoFront IsAPrefix octets
too_many_bits octets rest part family bits count a small whole found many = unseen octets (λ s.
    let same = same_head octets rest family bits count small whole s in
    let e : length (octets_of a) ≡ length (octets_of s.prefix.address) = same_count a s.prefix.address found.is s.address (found.own ∙ same.family_is) in
    omega (arith, e, many, same.bits_are, s.few))

pub begins_so : (octets rest part after : List ℕ) (family bits count : ℕ) (negated : Bool) (a : Address) → octets ≡ head family bits count rest → rest ≡ part ++ after → length part ≡ count % 128 → sign negated + count % 128 ≡ count → IsAddressIn family part a → bits ≤ 8 * length (octets_of a) → BeginsWithPrefix octets (record { negated = negated; address = a; bits = bits }) after
begins_so octets rest part after family bits count negated a whole cut counted signed found few =
    let sum : count ≡ sign negated + length part = omega (arith, signed, counted) in
    record {
      front = head family bits count part;
      address = found.is;
      few = few;
      value = record {
        part = part;
        trimmed = found.trimmed;
        value = ap (λ (n : ℕ). head n bits count part) (sym found.own) ∙ ap (λ (n : ℕ). head (family_of a) bits n part) sum;
      };
      whole = whole ∙ ap (λ r. head family bits count r) cut;
    }

-- ---- one after another

-- the prefixes before the rest are printed
pub record HavePrintedPrefixes (octets rest old new : List ℕ) : Type 0 where
  pub items : List RawItem
  pub front : List ℕ
  pub printed : PrintsPrefixes items front
  pub whole : octets ≡ front ++ rest
  pub appended : new ≡ old ++ after_blanks items

prefixes_more : (items : List RawItem) (front text part : List ℕ) → PrintsPrefixes items front → PrintsPrefix text part → PrintsPrefixes (items ++ bare text ∷ []) (front ++ part)
prefixes_more [] front text part are is = (part, [], (is, (refl, ap (λ f. f ++ part) are ∙ sym (append-nil part))))
prefixes_more (item ∷ items) front text part are is =
    (are.0, are.1 ++ part, (are.2.0, (prefixes_more items are.1 text part are.2.1.0 is, ap (λ f. f ++ part) are.2.1.1 ∙ append_assoc are.0 are.1 part)))

one_item_more : (items : List RawItem) (text : List ℕ) → after_blanks (items ++ bare text ∷ []) ≡ after_blanks items ++ 32 ∷ text
one_item_more items text =
    flat_map-append (λ (item : RawItem). 32 ∷ written_item item) items (bare text ∷ []) ∙ ap (λ t. after_blanks items ++ t) (append-nil (32 ∷ text))

pub one_more_prefix : (octets rest after old mid blank new : List ℕ) → HavePrintedPrefixes octets rest old mid → blank ≡ mid ++ 32 ∷ [] → PrintsFront PrintsPrefix IsAPrefix rest after blank new → HavePrintedPrefixes octets after old new
one_more_prefix octets rest after old mid blank new have spaced front = record {
  items = have.items ++ bare front.text ∷ [];
  front = have.front ++ front.part;
  printed = prefixes_more have.items have.front front.text front.part have.printed front.printed;
  whole = have.whole ∙ ap (λ r. have.front ++ r) front.whole ∙ sym (append_assoc have.front front.part after);
  appended =
      front.appended ∙ ap (λ b. b ++ front.text) spaced ∙ append_assoc mid (32 ∷ []) front.text
      ∙ ap (λ m. m ++ 32 ∷ front.text) have.appended ∙ append_assoc old (after_blanks have.items) (32 ∷ front.text)
      ∙ ap (λ t. old ++ t) (sym (one_item_more have.items front.text));
}

pub all_prefixes_printed : (octets rest old new : List ℕ) → length rest ≡ 0 → HavePrintedPrefixes octets rest old new → PrintsAll PrintsPrefixes octets old new
all_prefixes_printed octets rest old new empty have =
    let whole : octets ≡ have.front = have.whole ∙ ap (λ r. have.front ++ r) (nil_from_length rest empty) ∙ append-nil have.front in
    record { items = have.items; printed = subst (PrintsPrefixes have.items) (sym whole) have.printed; appended = have.appended }

-- ---- octets that are no prefixes

stated_text : (item : RawItem) (octets : List ℕ) → StatesPrefix item octets → (text : List ℕ) × IsAPrefix text octets
stated_text (bare text) octets states = (text, states)
stated_text (quoted text) octets states = absurd states

item_framed : (item : RawItem) (octets : List ℕ) → PrintsPrefixItem item octets → IsFramed octets
item_framed (bare text) octets is = framed is.prefix octets is.address is.value
item_framed (quoted text) octets is = absurd is

-- items state the prefix that stands after those before
follow : (before items : List RawItem) (front all rest : List ℕ) → 0 < length rest → PrintsPrefixes before front → StatesPrefixes items all → all ≡ front ++ rest → NoFront IsAPrefix rest → ⊥
follow before [] front all rest some prints states same none = omega (arith, some, ap length states, ap length same, length-append front rest)
follow [] (item ∷ items) front all rest some prints states same none =
    let stated = stated_text item states.0 states.2.0 in
    none states.0 states.1 stated.0 (sym (same ∙ ap (λ f. f ++ rest) prints) ∙ states.2.1.1) stated.1
follow (b ∷ before) (item ∷ items) front all rest some prints states same none =
    let stated = stated_text item states.0 states.2.0 in
    let cut = frame_once prints.0 states.0 (prints.1 ++ rest) states.1 (item_framed b prints.0 prints.2.0) (stated_framed stated.0 states.0 stated.1) (sym (append_assoc prints.0 prints.1 rest) ∙ ap (λ f. f ++ rest) (sym prints.2.1.1) ∙ sym same ∙ states.2.1.1) in
    follow before items prints.1 states.1 rest some prints.2.1.0 states.2.1.0 (sym cut.1) none

pub bad_prefixes : (octets rest old new : List ℕ) → 0 < length rest → HavePrintedPrefixes octets rest old new → NoFront IsAPrefix rest → NoItems StatesPrefixes octets
bad_prefixes octets rest old new some have none items states =
    follow have.items items have.front octets rest some have.printed states have.whole none
