-- Node identifiers that are printed state their octets.
use Rattle.hex.proofs.HexLemmas.{decode_sized-encode_lower, length-encode_with}
use Rattle.hex.specs.Hex.{decode_sized, lower_digits}
use Rattle.zone_rdata.specs.Address.{AddressPart, AreParts, IsGroup, parts_octets}
use Rattle.type_data.proofs.Common.{AllByRecursion, AllByRecursion-back, AllByRecursion-front, AreOctets, List, [], ap, arith, each_below, encode_lower, false, flat_map, inl, join_with_byte, length, length-append, map, refl, replicate, subst, ℕ, ◌*◌, ◌++◌, ◌-◌, ◌<◌, ◌∙◌, ◌∷◌, ◌≡◌}
use Rattle.type_data.specs.Kinds.NodeId.{PrintsNodeId, StatesNodeId}

abbrev AreTwo : List (List ℕ) → Type 0
AreTwo groups = AllByRecursion (λ group. length group ≡ 2) groups

abbrev part : List ℕ → AddressPart
part group = record { text = encode_lower group; octets = group }

is_group : (group : List ℕ) → length group ≡ 2 → AreOctets group → IsGroup (part group)
is_group group two each =
    let long : length (encode_lower group) ≡ 4 = length-encode_with lower_digits group ∙ ap (λ n. 2 * n) two in
    let none : 4 - length (encode_lower group) ≡ 0 = omega (arith, long) in
    record {
      some = omega (arith, long);
      few = omega (arith, long);
      value = ap (λ n. decode_sized (replicate n 48 ++ encode_lower group) 2) none ∙ decode_sized-encode_lower group 2 two (each_below 256 group (omega arith) each);
    }

are_parts : (groups : List (List ℕ)) → AreTwo groups → AreOctets (flat_map (λ group. group) groups) → AreParts false (map part groups)
are_parts [] two each = tt
are_parts (g ∷ []) two each = inl (is_group g two.0 (AllByRecursion-front (λ c. c < 256) g [] each))
are_parts (g ∷ h ∷ groups) two each = (is_group g two.0 (AllByRecursion-front (λ c. c < 256) g (flat_map (λ group. group) (h ∷ groups)) each), are_parts (h ∷ groups) two.1 (AllByRecursion-back (λ c. c < 256) g (flat_map (λ group. group) (h ∷ groups)) each))

texts_of : (groups : List (List ℕ)) → map encode_lower groups ≡ map (λ (p : AddressPart). p.text) (map part groups)
texts_of [] = refl
texts_of (g ∷ groups) = ap (λ t. encode_lower g ∷ t) (texts_of groups)

octets_in : (groups : List (List ℕ)) → flat_map (λ group. group) groups ≡ parts_octets (map part groups)
octets_in [] = refl
octets_in (g ∷ groups) = ap (λ t. g ++ t) (octets_in groups)

two_each : (groups : List (List ℕ)) → AreTwo groups → length (flat_map (λ group. group) groups) ≡ 2 * length groups
two_each [] two = refl
two_each (g ∷ groups) two = omega (arith, two.0, two_each groups two.1, length-append g (flat_map (λ group. group) groups))

pub node_id_printed_states : (text octets : List ℕ) → PrintsNodeId text octets → StatesNodeId text octets
node_id_printed_states text octets p = record {
  groups = record {
    parts = map part p.groups;
    each = are_parts p.groups p.two (subst AreOctets p.whole p.each);
    parted = p.printed ∙ ap (join_with_byte 58) (texts_of p.groups);
    value = p.whole ∙ octets_in p.groups;
  };
  four = omega (arith, ap length p.whole, two_each p.groups p.two, p.four);
}
