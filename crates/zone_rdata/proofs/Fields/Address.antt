-- An address of a fixed number of octets.
use Rattle.zone_rdata.proofs.Common.{List, ap, arith, inl, inr, length, refl, subst, sym, ℕ, ◌+◌, ◌*◌, ◌==◌, ◌∙◌, ◌≡◌, ◌≤◌, ◌⊎◌, if◌then◌else◌, IsIpv6Address, ipv4_text, ipv6_text, fixed, AreFixed, IsAddress, address_text, of_ipv4, of_ipv6, StandsBare, Octets}
use Rattle.zone_rdata.proofs.Addresses.AddressGaps.{groups_unique}
use Rattle.zone_rdata.proofs.Addresses.AddressLaws.{ipv4_plain, ipv4_printed, ipv6_plain, ipv6_printed, ipv6_some}
use Rattle.zone_rdata.proofs.Addresses.Cut.{numbers_unique}
use Rattle.zone_rdata.proofs.Fields.FieldLaws.{SizedField, mark}
use Rattle.zone_rdata.proofs.Texts.Standing.{bare_address}
use Rattle.zone_rdata.proofs.Fields.FieldLengths.{ipv4_length, ipv6_length}
use Rattle.zone_rdata.proofs.Addresses.AddressParts.{ipv4_some}

pub sized : (n : ℕ) → SizedField (Octets n) fixed n
sized n = record { plain = λ e. cc; single = λ e. cc; only = λ v h. grind arith; size = λ octets h. h.size; read = λ octets low size. (octets, record { size = size; each = low }, refl) }

pub once : (n : ℕ) (text a b : List ℕ) → IsAddress n text a → IsAddress n text b → a ≡ b
once n text a b (of_ipv4 e h) (of_ipv4 d k) = numbers_unique 3 text a b h k
once n text a b (of_ipv4 e h) (of_ipv6 d k) = absurd (omega arith)
once n text a b (of_ipv6 e h) (of_ipv4 d k) = absurd (omega arith)
once n text a b (of_ipv6 e h) (of_ipv6 d k) = groups_unique text a b h k

text_of_ipv4 : (octets : List ℕ) → length octets ≡ 4 → address_text octets ≡ ipv4_text octets
text_of_ipv4 octets e = ap (λ (n : ℕ). if n == 4 then ipv4_text octets else ipv6_text octets) e

text_of_ipv6 : (octets : List ℕ) → length octets ≡ 16 → address_text octets ≡ ipv6_text octets
text_of_ipv6 octets e = ap (λ (n : ℕ). if n == 4 then ipv4_text octets else ipv6_text octets) e

pub printed : (n : ℕ) (octets : List ℕ) → (n ≡ 4) ⊎ (n ≡ 16) → AreFixed n octets → IsAddress n (address_text octets) octets
printed n octets (inl e) h = grind (arith, text_of_ipv4, ipv4_printed)
printed n octets (inr e) h = of_ipv6 e (subst (λ t. IsIpv6Address t octets) (sym (text_of_ipv6 octets (h.size ∙ e))) (ipv6_printed octets (h.size ∙ e) h.each))

pub unmarked : (n : ℕ) (octets : List ℕ) → (n ≡ 4) ⊎ (n ≡ 16) → AreFixed n octets → address_text octets ≡ mark → ⊥
unmarked n octets k h e = grind (arith, text_of_ipv4, ipv4_plain, text_of_ipv6, ipv6_plain)

pub stands : (n : ℕ) (octets : List ℕ) → (n ≡ 4) ⊎ (n ≡ 16) → AreFixed n octets → StandsBare (address_text octets)
stands n octets (inl e) h =
    let size : length octets ≡ 4 = h.size ∙ e in
    subst StandsBare (sym (text_of_ipv4 octets size)) (bare_address (ipv4_text octets) (ipv4_some _ octets (ipv4_printed octets size h.each)) (ipv4_plain octets size h.each))
stands n octets (inr e) h =
    let size : length octets ≡ 16 = h.size ∙ e in
    subst StandsBare (sym (text_of_ipv6 octets size)) (bare_address (ipv6_text octets) (ipv6_some _ octets (ipv6_printed octets size h.each)) (ipv6_plain octets size h.each))

pub few : (n : ℕ) (octets : List ℕ) → (n ≡ 4) ⊎ (n ≡ 16) → AreFixed n octets → length (address_text octets) + 1 ≤ 4 * length octets
few n octets k h = grind (arith, text_of_ipv4, ipv4_length, text_of_ipv6, ipv6_length)
