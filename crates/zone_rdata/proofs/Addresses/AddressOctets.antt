-- An address in text has the octets that its field holds: how many, and that they are octets.
use Rattle.zone_rdata.proofs.Common.{All-replicate, recursion_from_All, [], ◌≡◌, ℕ, ◌-◌, ◌<◌, Bool, true, false, inl, inr, List, ◌∷◌, ◌++◌, length, replicate, sym, ◌∙◌, subst, arith, length-append, AllZip, length-replicate, decode_of-ok, decode_sized-ok, decode_sized-twice, AreOctets, IsOctetNumber, IsIpv4Address, AddressPart, IsGroup, AreParts, parts_octets, ArePartsOf, IsIpv6Address, eight, fewer, AllByRecursion-append, common_steps, bytes_each, ap, Err, Option, Some, None, IfNone, ok_or, Cause, fault_for, NoValue, AreFixed, IsAddress, of_ipv4, of_ipv6, BadRdata}
use Rattle.zone_rdata.specs.declared.cause.Cause.TheVariants as causes

numbers_bytes : (numbers : List (List ℕ)) (octets : List ℕ) → AllZip IsOctetNumber numbers octets → (length octets ≡ length numbers) × AreOctets octets
numbers_bytes (a ∷ numbers) (n ∷ octets) each = grind (arith, numbers_bytes numbers octets each.1)
numbers_bytes numbers octets each = grind arith

pub ipv4_count : (text octets : List ℕ) → IsIpv4Address text octets → length octets ≡ 4
ipv4_count text octets are = (numbers_bytes are.numbers octets are.each).0 ∙ are.counted

pub ipv4_bytes : (text octets : List ℕ) → IsIpv4Address text octets → AreOctets octets
ipv4_bytes text octets are = (numbers_bytes are.numbers octets are.each).1

group_bytes : (p : AddressPart) → IsGroup p → AreOctets p.octets
group_bytes p is = grind (arith, common_steps, decode_sized-ok, decode_of-ok, decode_sized-twice, bytes_each)

parts_bytes : (ends : Bool) (parts : List AddressPart) → AreParts ends parts → AreOctets (parts_octets parts)
parts_bytes ends [] each = tt
parts_bytes ends (p ∷ []) (inl is) = AllByRecursion-append (λ c. c < 256) p.octets [] (group_bytes p is) tt
parts_bytes ends (p ∷ []) (inr are) = AllByRecursion-append (λ c. c < 256) p.octets [] (ipv4_bytes p.text p.octets are.1) tt
parts_bytes ends (p ∷ q ∷ parts) each = AllByRecursion-append (λ c. c < 256) p.octets (parts_octets (q ∷ parts)) (group_bytes p each.0) (parts_bytes ends (q ∷ parts) each.1)

parted_bytes : (ends : Bool) (text octets : List ℕ) → ArePartsOf ends text octets → AreOctets octets
parted_bytes ends text octets are = grind (arith, parts_bytes)

pub ipv6_count : (text octets : List ℕ) → IsIpv6Address text octets → length octets ≡ 16
ipv6_count text octets h = grind (arith, length-append, length-replicate)

pub ipv6_bytes : (text octets : List ℕ) → IsIpv6Address text octets → AreOctets octets
ipv6_bytes text octets (eight are len) = parted_bytes true text octets are
ipv6_bytes text octets (fewer front back parted around) =
    let zeros : List ℕ = replicate (16 - length around.before - length around.after) 0 in
    subst AreOctets (sym around.value) (AllByRecursion-append (λ c. c < 256) around.before (zeros ++ around.after) (parted_bytes false front around.before around.front_parts) (AllByRecursion-append (λ c. c < 256) zeros around.after (recursion_from_All (λ c. c < 256) zeros (All-replicate (λ c. c < 256) (16 - length around.before - length around.after) 0 (omega arith))) (parted_bytes true back around.after around.back_parts)))

-- ---- of a field

-- an address of n octets has n octets
pub address_fixed : (n : ℕ) (text octets : List ℕ) → IsAddress n text octets → AreFixed n octets
address_fixed n text octets (of_ipv4 e h) = record { size = ipv4_count text octets h ∙ sym e; each = ipv4_bytes text octets h }
address_fixed n text octets (of_ipv6 e h) = record { size = ipv6_count text octets h ∙ sym e; each = ipv6_bytes text octets h }

pub no_ipv4 : (n : ℕ) (text : List ℕ) → n ≡ 4 → ((octets : List ℕ) → IsIpv4Address text octets → ⊥) → (octets : List ℕ) → IsAddress n text octets → ⊥
no_ipv4 n text is none octets (of_ipv4 e h) = none octets h
no_ipv4 n text is none octets (of_ipv6 e h) = absurd (omega arith)

pub no_ipv6 : (n : ℕ) (text : List ℕ) → n ≡ 16 → ((octets : List ℕ) → IsIpv6Address text octets → ⊥) → (octets : List ℕ) → IsAddress n text octets → ⊥
no_ipv6 n text is none octets (of_ipv4 e h) = absurd (omega arith)
no_ipv6 n text is none octets (of_ipv6 e h) = none octets h

-- the refusal of an address that no text states
pub missing : {A : Type 0} (found : Option A) (e : Cause) (n : ℕ) (text : List ℕ) (None' : Type 0) → (None' → (octets : List ℕ) → IsAddress n text octets → ⊥) → Err e ≡ ok_or found causes.BadRdata → IfNone found None' → NoValue BadRdata (IsAddress n text) (fault_for e)
missing None e n text None' refused h none = (ap fault_for (let same : e ≡ causes.BadRdata = cc in same), refused none)
missing (Some a) e n text None' refused h none = absurd (cc)
