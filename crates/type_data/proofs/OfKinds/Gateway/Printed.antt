-- The types of gateways and relays, and the rest that stands with them, as they are printed.
use Rattle.std.specs.Prelude.{decimal}
use Rattle.zone_rdata.proofs.Items.GenericLaws.{decimal-is}
use Rattle.type_data.proofs.Common.{Bool, IsDecimal, List, [], ap, arith, codes, length, refl, slice_index, subst, sym, ℕ, ◌+◌, ◌++◌, ◌-◌, ◌/◌, ◌<◌, ◌^◌, ◌∷◌, ◌≡◌, ◌≤◌}
use Rattle.type_data.proofs.Printed.Fronts.{HaveCount, front_printed}
use Rattle.type_data.specs.Kinds.Gateway.{PrintsAddressType, PrintsDiscovery, PrintsUpTo, StatesAddressType, StatesDiscovery, StatesNoAddress, StatesUpTo, discovery_bit}
use Rattle.type_data.specs.Printed.{PrintsFront}

-- ---- what is printed states the octets

up_to_states : (most : ℕ) (octets_of : ℕ → List ℕ) (text octets : List ℕ) → most < 2 ^ 64 → PrintsUpTo most octets_of text octets → StatesUpTo most octets_of text octets
up_to_states most octets_of text octets small p =
    let few = p.few in
    record {
      number = p.number;
      stated = subst (λ t. IsDecimal t p.number) (sym p.printed) (decimal-is p.number (omega arith));
      few = p.few;
      value = p.value;
    }

pub gateway_states : (optional : Bool) (text octets : List ℕ) → PrintsAddressType optional text octets → StatesAddressType optional text octets
gateway_states optional text octets p = up_to_states 3 (λ n. (discovery_bit optional + n) ∷ []) text octets (omega arith) p

pub discovery_states : (text octets : List ℕ) → PrintsDiscovery text octets → StatesDiscovery text octets
discovery_states text octets p = up_to_states 1 (λ n. []) text octets (omega arith) p

-- ---- parts at the front

type_long : (optional : Bool) → HaveCount (StatesAddressType optional) 1
type_long optional text part is = ap length is.value

pub type_front : (optional : Bool) (octet bit : ℕ) (octets rest old new : List ℕ) → octets ≡ octet ∷ rest → bit ≡ discovery_bit optional → bit ≤ octet → octet - bit ≤ 3 → new ≡ old ++ decimal (octet - bit) → PrintsFront (PrintsAddressType optional) (StatesAddressType optional) octets rest old new
type_front optional octet bit octets rest old new whole bit_is least most appended =
    let of : octet ≡ discovery_bit optional + (octet - bit) = omega (arith, bit_is) in
    front_printed (PrintsAddressType optional) (StatesAddressType optional) 1 octets rest old new (octet ∷ []) (decimal (octet - bit)) (type_long optional) whole refl
    (record { number = octet - bit; few = most; printed = refl; value = ap (λ n. n ∷ []) of }) appended

discovery_long : HaveCount StatesDiscovery 0
discovery_long text part is = ap length is.value

pub discovery_front : (number : ℕ) (octets old new : List ℕ) → number ≤ 1 → new ≡ old ++ decimal number → PrintsFront PrintsDiscovery StatesDiscovery octets octets old new
discovery_front number octets old new few appended =
    front_printed PrintsDiscovery StatesDiscovery 0 octets octets old new [] (decimal number) discovery_long refl refl (record { number = number; few = few; printed = refl; value = refl }) appended

dot_long : HaveCount StatesNoAddress 0
dot_long text part is = ap length is.1

pub dot_front : (octets old new : List ℕ) → new ≡ old ++ codes "." → PrintsFront StatesNoAddress StatesNoAddress octets octets old new
dot_front octets old new appended = front_printed StatesNoAddress StatesNoAddress 0 octets octets old new [] (codes ".") dot_long refl refl (refl, refl) appended

-- where there is no octet, the bit is 0
pub empty_bit : (octets : List ℕ) → length octets < 1 → 0 ≡ slice_index octets 0 / 128
empty_bit [] none = refl
empty_bit (c ∷ octets) none = absurd (omega (arith, none))
