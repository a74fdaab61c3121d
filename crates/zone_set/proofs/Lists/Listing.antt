-- Records that are listed as they come.
use Rattle.zone_set.proofs.Common.{AddsEach, AllAccepted, AreAllKept, IsPermutation, IsPermutation-map, entry_record, AllByRecursion, AreCompatible, Entry, Fault, Has, IsRecord, IsRefusedFor, IsSettledAs, KeepsList, List, Place, Placed, Record, Refused, SameRecords, StopsSettling, [], all_records, arith, listed, records_of, refl, refused, subst, sym, ℕ, ◌++◌, ◌↔◌, ◌∷◌, ◌≡◌, ◌⊎◌}
use Rattle.zone_set.proofs.Holding.Inserting.{AreCompatible-with}
use Rattle.zone_set.proofs.Lists.ListPush.{records_listed}
use Rattle.zone_set.proofs.Ordering.Neighbours.{AllAccepted-from_compatible}
use Rattle.zone_set.specs.Builder as builder

-- entries that were settled are of the records that were listed
pub IsSettledAs-sorted : (class : ℕ) (base : List (List ℕ)) (octets : List ℕ) (es fs : List Entry) (places : List Place) (held : List Record) → KeepsList class base octets es places → SameRecords (all_records class octets fs) (all_records class octets es) → AreCompatible (all_records class octets fs) → held ≡ all_records class octets fs → IsSettledAs (listed class octets es places) held
IsSettledAs-sorted class base octets es fs places held keeps same compatible is =
    let placed = listed class octets es places in
    let own : SameRecords (all_records class octets fs) (records_of placed) = subst (SameRecords (all_records class octets fs)) (sym (records_listed keeps)) same in
    record {
      accepted = AllAccepted-from_compatible (all_records class octets fs) placed compatible own;
      same = subst (λ rs. SameRecords rs (records_of placed)) (sym is) own;
    }

-- and where none was dropped, the octets keep their records alone
pub alone_kept : {class : ℕ} {base : List (List ℕ)} {octets : List ℕ} (es fs : List Entry) (places : List Place) → KeepsList class base octets es places → IsPermutation es fs → AreAllKept class octets (all_records class octets fs)
alone_kept {class = class} {octets = octets} es fs places keeps moves = (all_records class octets es, keeps.kept, IsPermutation-map (entry_record class octets) es fs moves)

none_compatible : AreCompatible []
none_compatible = record { each = tt; ascend = tt; one_class = λ r s has_r has_s. absurd has_r; one_ttl = λ r s has_r has_s one. absurd has_r; one_soa = λ r s has_r has_s soa_r soa_s. absurd has_r }

-- records that were added one after another stand together
compatible_each : (placed : List Placed) (old new : List Record) → AreCompatible old → AllByRecursion (λ p. IsRecord p.rr) placed → AddsEach old placed new → AreCompatible new
compatible_each [] old new compatible whole added = subst AreCompatible (sym added) compatible
compatible_each (p ∷ placed) old new compatible whole (next, fits, adds, rest) = compatible_each placed next new (AreCompatible-with old next p.rr compatible fits whole.0 (λ s. (adds.same s).0) adds.ascend) whole.1 rest

-- what is held is what was added and what was held before
same_each : (placed : List Placed) (old new : List Record) → AddsEach old placed new → (r : Record) → Has new r ↔ (Has (records_of placed) r ⊎ Has old r)
same_each [] old new h r = grind arith
same_each (p ∷ placed) old new (next, accepts, adds, rest) r = grind (arith, same_each placed next new rest r, adds.same r)

-- what is held are the records that were offered
same_offered : (placed : List Placed) (held : List Record) → AddsEach [] placed held → SameRecords held (records_of placed)
same_offered placed held added r = grind (arith, same_each placed [] held added r)

accepted_offered : (placed : List Placed) (held : List Record) → AllByRecursion (λ p. IsRecord p.rr) placed → AddsEach [] placed held → AllAccepted placed
accepted_offered placed held whole added = AllAccepted-from_compatible held placed (compatible_each placed [] held none_compatible whole added) (same_offered placed held added)

-- records that were offered in the order in which they came, and all taken
pub IsSettledAs-offered : (placed : List Placed) (held : List Record) → AllByRecursion (λ p. IsRecord p.rr) placed → AddsEach [] placed held → IsSettledAs placed held
IsSettledAs-offered placed held whole added = record { accepted = accepted_offered placed held whole added; same = same_offered placed held added }

-- and one of them refused
pub StopsSettling-offered : (placed taken others : List Placed) (p : Placed) (held : List Record) (f : Fault) → placed ≡ taken ++ p ∷ others → AllByRecursion (λ p. IsRecord p.rr) taken → AddsEach [] taken held → IsRefusedFor held p.rr f → StopsSettling placed (Refused f p.place)
StopsSettling-offered placed taken others p held f parts whole added why = refused f p.place (record {
  before = taken;
  refused = p;
  others = others;
  parts = parts;
  accepted = accepted_offered taken held whole added;
  why = grind (arith, builder.class, builder.soa, builder.ttl, same_offered taken held added);
  stands = refl;
})
