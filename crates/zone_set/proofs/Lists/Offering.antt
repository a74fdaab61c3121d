-- Records that are read back in the order in which they came.
use Rattle.zone_set.proofs.Common.{Accepts, Adds, AddsEach, AllByRecursion, AllByRecursion-front, IsRecord, IsSettledAs, List, Place, Placed, Record, Stop, StopsAdd, StopsSettling, [], append_assoc, fault, memory, placed_at, subst, sym, ◌++◌, ◌∙◌, ◌∷◌, ◌≡◌, ◌⊎◌}
use Rattle.zone_set.proofs.Lists.ListPush.{all_taken}
use Rattle.zone_set.proofs.Lists.Taking.{AddsEach-push}
use Rattle.zone_set.specs.ZoneList as zone_list
use Rattle.zone_set.proofs.Lists.Listing.{IsSettledAs-offered, StopsSettling-offered}

-- some first records were taken, and these are left with their places
pub record HasOffered (placed : List Placed) (held records : List Record) (places : List Place) : Type 0 where
  pub taken : List Placed
  pub parts : placed ≡ taken ++ placed_at records places
  pub each : AddsEach [] taken held

module _ (placed : List Placed) (held : List Record) (r : Record) (place : Place) (records : List Record) (places : List Place) (had : HasOffered placed held (r ∷ records) (place ∷ places)) where
  abbrev Now : Placed
  Now = record { rr = r; place = place }

  pub HasOffered-more : (new : List Record) → Accepts held r → Adds held r new → HasOffered placed new records places
  HasOffered-more new fits adds = record {
    taken = had.taken ++ Now ∷ [];
    parts = had.parts ∙ sym (append_assoc had.taken (Now ∷ []) (placed_at records places));
    each = AddsEach-push [] held had.taken Now new had.each fits adds;
  }

  pub StopsSettling-now : AllByRecursion (λ p. IsRecord p.rr) placed → (stop : Stop) → StopsAdd held Now stop → StopsSettling placed stop
  StopsSettling-now whole stop memory = zone_list.memory
  StopsSettling-now whole stop (fault f refused) =
      let each : AllByRecursion (λ (p : Placed). IsRecord p.rr) (had.taken ++ placed_at (r ∷ records) (place ∷ places)) = subst (AllByRecursion (λ (p : Placed). IsRecord p.rr)) had.parts whole in
      StopsSettling-offered placed had.taken (placed_at records places) Now held f had.parts (AllByRecursion-front (λ (p : Placed). IsRecord p.rr) had.taken (placed_at (r ∷ records) (place ∷ places)) each) had.each refused

pub IsSettledAs-at_end : (placed : List Placed) (held records : List Record) (places : List Place) → AllByRecursion (λ p. IsRecord p.rr) placed → HasOffered placed held records places → (records ≡ []) ⊎ (places ≡ []) → IsSettledAs placed held
IsSettledAs-at_end placed held records places whole had none = IsSettledAs-offered placed held whole (subst (λ ps. AddsEach [] ps held) (all_taken placed had.taken records places had.parts none) had.each)
