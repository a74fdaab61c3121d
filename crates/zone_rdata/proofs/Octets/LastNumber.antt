-- The last field of an SOA, its MINIMUM, is the last four octets of its data (RFC 1035 3.3.13).
use Rattle.std.proofs.lemmas.Nat.{from_be_bytes-to_be_bytes_4}
use Rattle.std.specs.Int.{from_be_bytes, to_be_bytes, w32}
use Rattle.zone_rdata.proofs.Common.{[], ◌≡◌, ℕ, ◌-◌, ◌<◌, ◌^◌, List, ◌∷◌, ◌++◌, length, drop, MatchOption, Some, arith, sym, subst, ap, ◌∙◌, drop_at, flat_map-append, length-append, field_octets, name, u32_value, AreLaidOut, IsData, Data, layout, Name, Serial, Time}
use Rattle.zone_rdata.specs.Minimum.{minimum}

number_ends : (front : List ℕ) (n : ℕ) (octets : List ℕ) → n < 2 ^ 32 → front ++ to_be_bytes w32 n ≡ octets → from_be_bytes w32 (drop (length octets - 4) octets) ≡ n
number_ends front n octets few whole = grind (arith, drop_at, length-append, from_be_bytes-to_be_bytes_4)

last_field : (class : ℕ) (octets : List ℕ) → AreLaidOut (Name ∷ Name ∷ Serial ∷ Time ∷ Time ∷ Time ∷ Time ∷ []) octets → Some (from_be_bytes w32 (drop (length octets - 4) octets)) ≡ minimum (record { class = class; kind = 6; octets = octets })
last_field class octets laid =
    ap Some (number_ends _ _ octets laid.held.1.1.1.1.1.1.0 (sym (flat_map-append field_octets (name _ ∷ name _ ∷ u32_value _ ∷ u32_value _ ∷ u32_value _ ∷ u32_value _ ∷ []) (u32_value _ ∷ [])) ∙ laid.whole))

pub last_of_soa : (d : Data) → d.kind ≡ 6 → IsData d.class d.kind d.octets → Some (from_be_bytes w32 (drop (length d.octets - 4) d.octets)) ≡ minimum d
last_of_soa d soa is = subst (λ k. MatchOption (layout d.class k) (Unit {0}) (λ fields. AreLaidOut fields d.octets) → Some (from_be_bytes w32 (drop (length d.octets - 4) d.octets)) ≡ minimum (record { class = d.class; kind = k; octets = d.octets })) (sym soa) (last_field d.class d.octets) is.value
