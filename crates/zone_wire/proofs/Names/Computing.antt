-- Names and walks that compute.
use Rattle.zone_wire.proofs.Common.{Answered, Bool, Fault, Found, IsFramed, IsNameAt, List, Option, Place, StreamReads, WalkEnds, ends_with, record_x, [], after_zeros, and_parts, end_fault, ending, flat_map, frame, get_or, handed_on, leb-true, length, list_all, lit<, ltb-true, named, nat_le, nat_lt, option_or, outcome, refl, stream_records, subst, suc, true, u16_at, walk, zero, ℕ, ◌&&◌, ◌++◌, ◌+◌, ◌<◌, ◌∷◌, ◌≡◌, ◌≤◌}
use Rattle.zone_wire.proofs.Conditions.{all_by}
use Rattle.zone_wire.proofs.Streams.OneStream.{stream_decides}
use Rattle.zone_wire.proofs.Names.Walking.{walk_names, walk_is}

abbrev pub all_octets : List ℕ → Bool
all_octets [] = true
all_octets (c ∷ octets) = nat_lt c 256 && all_octets octets

pub octets_below : (octets : List ℕ) → all_octets octets ≡ true → (k : ℕ) → get_or octets k 0 < 256
octets_below [] e k = lit< tt
octets_below (c ∷ octets) e zero = ltb-true c 256 (and_parts (nat_lt c 256) (all_octets octets) e).0
octets_below (c ∷ octets) e (suc k) = octets_below octets (and_parts (nat_lt c 256) (all_octets octets) e).1 k

-- a name that the walk finds by computing
pub name_computes : (message : List ℕ) (offset : ℕ) (found : Found) → all_octets message ≡ true → outcome message (walk message offset) ≡ named found → IsNameAt message offset found
name_computes message offset found octets e = walk_names message offset found (octets_below message octets) e

-- a walk that ends so by computing
pub walk_computes : (octets : List ℕ) (offset : ℕ) (fault : Option Fault) (places : ℕ) → ending (walk (after_zeros octets) offset) ≡ fault → length (walk (after_zeros octets) offset) ≡ places → WalkEnds octets offset fault places
walk_computes octets offset fault places ends count = record { visits = walk (after_zeros octets) offset; walk = walk_is (after_zeros octets) offset fault ends; count = count }

-- what a stream is read as, by computing
pub reads : (messages : List (List ℕ)) (rest : List ℕ) (answered : Answered (Fault × Place)) → list_all (λ octets. nat_le (length octets) 65535) messages ≡ true → nat_lt (length rest) (2 + u16_at rest 0) ≡ true → all_octets (flat_map frame messages ++ rest) ≡ true → stream_records [] messages ≡ answered → StreamReads (flat_map frame messages ++ rest) (handed_on answered.placed) (option_or answered.fault (end_fault (length messages + 1) answered.placed rest))
reads messages rest answered short cut octets e =
    let framed : IsFramed (flat_map frame messages ++ rest) messages rest = record { whole = refl; short = all_by (λ octets. length octets ≤ 65535) _ (λ octets. leb-true (length octets) 65535) messages short; cut = ltb-true _ _ cut } in
    subst (λ (a : Answered (Fault × Place)). StreamReads (flat_map frame messages ++ rest) (handed_on a.placed) (option_or a.fault (end_fault (length messages + 1) a.placed rest))) e
    (record { first = _; frames = stream_decides _ (octets_below _ octets) messages rest framed; ends = refl })

-- a message that ends with a record of a type, of no data
abbrev pub with_type : ℕ → List (List ℕ)
with_type kind = ends_with (record_x kind []) ∷ []
