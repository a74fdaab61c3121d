-- Protocols as they are printed.
use Rattle.type_data.proofs.Common.{AllByRecursion, AllByRecursion-append, AreOctets, List, [], ap, append-nil, append_assoc, arith, flat_map, flat_map-append, flat_map_more, get_or, join_with_byte, length, length-append, map, refl, subst, sym, with_length, ℕ, ◌++◌, ◌<◌, ◌≤◌, ◌∙◌, ◌∷◌, ◌≡◌}
use Rattle.zone_rdata.specs.Strings.{inside_text, unit_text}
use Rattle.type_data.proofs.OfParameters.Marked.{AreMarked, more_marked, same_parts}
use Rattle.type_data.specs.Parameters.Machine.Printed.{AppendsQuoted, AreProtocols, marked}
use Rattle.type_data.specs.Parameters.Printed.{PrintsProtocols}
use Rattle.type_data.specs.Parameters.Value.{IsProtocol, escaped_item}

abbrev pub protocol_text : List ℕ → List ℕ
protocol_text protocol = inside_text (escaped_item protocol)

abbrev Lists : Type 0
Lists = List (List ℕ)

-- protocols at the front of octets, and no others there
pub record More (rest : List ℕ) : Type 0 where
  pub more : Lists
  pub each : AllByRecursion IsProtocol more
  pub value : rest ≡ flat_map with_length more

-- the protocols up to a place are printed
pub record HasPrinted (value rest mark old new : List ℕ) : Type 0 where
  pub done : Lists
  pub each : AllByRecursion IsProtocol done
  pub parts : value ≡ flat_map with_length done ++ rest
  pub marked_as : AreMarked protocol_text (61 ∷ 34 ∷ []) done mark old new
  pub only : (protocols : Lists) → AreProtocols protocols value → More rest

one_less : (rest protocol after : List ℕ) (more : Lists) → AllByRecursion IsProtocol more → rest ≡ flat_map with_length more → rest ≡ with_length protocol ++ after → More after
one_less rest protocol after [] each value split = absurd (omega (arith, ap length value, ap length split, length-append protocol after))
one_less rest protocol after (q ∷ more) each value split =
    let e : with_length q ++ flat_map with_length more ≡ with_length protocol ++ after = sym value ∙ split in
    let same = same_parts (with_length q) (with_length protocol) (flat_map with_length more) after (omega (arith, ap (λ t. get_or t 0 0) e)) e in
    record { more = more; each = each.1; value = sym same.back }

pub protocols_more : (value rest protocol after mark old mid new : List ℕ) → HasPrinted value rest mark old mid → rest ≡ with_length protocol ++ after → IsProtocol protocol → new ≡ (mid ++ mark) ++ protocol_text protocol → HasPrinted value after (44 ∷ []) old new
protocols_more value rest protocol after mark old mid new has split is grown = record {
  done = has.done ++ protocol ∷ [];
  each = AllByRecursion-append IsProtocol has.done (protocol ∷ []) has.each (is, tt);
  parts = has.parts ∙ ap (λ t. flat_map with_length has.done ++ t) split ∙ sym (append_assoc (flat_map with_length has.done) (with_length protocol) after) ∙ ap (λ t. t ++ after) (flat_map_more with_length [] has.done protocol);
  marked_as = more_marked protocol_text (61 ∷ 34 ∷ []) has.done protocol mark old mid new has.marked_as grown;
  only = λ protocols are. (let left = has.only protocols are in one_less rest protocol after left.more left.each left.value split);
}

-- ---- all of them

inside_joined : (first : List ℕ) (protocols : Lists) → inside_text (join_with_byte 44 (map escaped_item (first ∷ protocols))) ≡ join_with_byte 44 (map protocol_text (first ∷ protocols))
inside_joined first [] = refl
inside_joined first (second ∷ protocols) = flat_map-append unit_text (escaped_item first) (44 ∷ join_with_byte 44 (map escaped_item (second ∷ protocols))) ∙ ap (λ t. protocol_text first ++ 44 ∷ t) (inside_joined second protocols)

ended : (value old new : List ℕ) (done : Lists) → AllByRecursion IsProtocol done → value ≡ flat_map with_length done → 0 < length value → new ≡ (old ++ marked (61 ∷ 34 ∷ []) (map protocol_text done)) ++ 34 ∷ [] → AppendsQuoted (λ text. PrintsProtocols text value) old new
ended value old new [] each is some written = absurd (omega (arith, some, ap length is))
ended value old new (first ∷ done) each is some written = record {
  text = inside_text (join_with_byte 44 (map escaped_item (first ∷ done)));
  printed = record { protocols = first ∷ done; some = omega arith; each = each; value = is; printed = refl };
  appended = written ∙ append_assoc old (61 ∷ 34 ∷ join_with_byte 44 (map protocol_text (first ∷ done))) (34 ∷ []) ∙ ap (λ t. old ++ (61 ∷ 34 ∷ t ++ 34 ∷ [])) (sym (inside_joined first done));
}

pub protocols_ended : (value rest mark old mid new : List ℕ) → HasPrinted value rest mark old mid → rest ≡ [] → 0 < length value → new ≡ mid ++ 34 ∷ [] → AppendsQuoted (λ text. PrintsProtocols text value) old new
protocols_ended value rest mark old mid new has empty some grown =
    ended value old new has.done has.each (has.parts ∙ ap (λ t. flat_map with_length has.done ++ t) empty ∙ append-nil (flat_map with_length has.done)) some (grown ∙ ap (λ t. t ++ 34 ∷ []) has.marked_as.written)

-- ---- octets that are no protocols

uncounted : (rest : List ℕ) (more : Lists) → 0 < length rest → rest ≡ flat_map with_length more → ((protocol after : List ℕ) → rest ≡ with_length protocol ++ after → ⊥) → ⊥
uncounted rest [] some value none = omega (arith, some, ap length value)
uncounted rest (q ∷ more) some value none = none q (flat_map with_length more) value

pub protocols_cut_short : (value rest mark old new : List ℕ) → HasPrinted value rest mark old new → 0 < length rest → ((protocol after : List ℕ) → rest ≡ with_length protocol ++ after → ⊥) → (protocols : Lists) → AreProtocols protocols value → ⊥
protocols_cut_short value rest mark old new has some none protocols are =
    let left = has.only protocols are in
    uncounted rest left.more some left.value none

empty_one : (rest protocol after : List ℕ) (more : Lists) → AllByRecursion IsProtocol more → rest ≡ flat_map with_length more → rest ≡ with_length protocol ++ after → length protocol ≡ 0 → ⊥
empty_one rest protocol after [] each value split none = omega (arith, ap length value, ap length split, length-append protocol after)
empty_one rest protocol after (q ∷ more) each value split none = omega (arith, each.0.0, none, ap (λ t. get_or t 0 0) (sym value ∙ split))

pub protocols_empty : (value rest protocol after mark old new : List ℕ) → HasPrinted value rest mark old new → rest ≡ with_length protocol ++ after → length protocol ≡ 0 → (protocols : Lists) → AreProtocols protocols value → ⊥
protocols_empty value rest protocol after mark old new has split none protocols are =
    let left = has.only protocols are in
    empty_one rest protocol after left.more left.each left.value split none

some_octets : (protocols : Lists) → 0 < length protocols → 0 < length (flat_map with_length protocols)
some_octets [] some = absurd (omega (arith, some))
some_octets (q ∷ protocols) some = omega (arith, length-append q (flat_map with_length protocols))

pub protocols_some : (value : List ℕ) → length value ≡ 0 → (protocols : Lists) → AreProtocols protocols value → ⊥
protocols_some value none protocols are = omega (arith, none, some_octets protocols are.some, ap length are.value)

pub protocol_short : (rest protocol after : List ℕ) → AreOctets rest → rest ≡ with_length protocol ++ after → length protocol ≤ 255
protocol_short rest protocol after each split = omega (arith, (subst AreOctets split each).0)
