-- Records taken from a source, one after another.
use Rattle.zone_set.proofs.Common.{ClassMismatch, Err, List, ListsAll, Memory, None, Ok, Option, OtherClass, Placed, Record, Refused, Some, Stop, StopsListing, [], append-nil, append_assoc, arith, false, refl, rules, subst, true, ◌++◌, ◌∷◌, ◌≡◌}
use Rattle.zone_rdata.specs.RrSource.{Pending, answer_of, after, first_of, others}
use Rattle.zone_set.proofs.Lists.Thinning.{Tells-first, Tells-trans}
use Rattle.zone_set.specs.Refusal.{records_of}
use Rattle.zone_set.specs.ZoneList.{Tells}
use Rattle.zone_set.specs.Builder.{Accepts, Adds, AddsEach, StopsAdd, leaves, StopsTaking, fault, failure, memory, refused as by_fault, ending as by_ending}
use Rattle.zone_set.specs.ZoneList as zone_list

-- one more at the end
pub AddsEach-push : (old mid : List Record) (taken : List Placed) (p : Placed) (new : List Record) → AddsEach old taken mid → Accepts mid p.rr → Adds mid p.rr new → AddsEach old (taken ++ p ∷ []) new
AddsEach-push old mid [] p new is fits adds = (new, subst (λ held. Accepts held p.rr) is fits, subst (λ held. Adds held p.rr new) is adds, refl)
AddsEach-push old mid (q ∷ taken) p new each fits adds = (each.0, each.1, each.2, AddsEach-push each.0 mid taken p new each.3 fits adds)

-- an answer with a record: it was the first
first_parts : (pending : Pending) (p : Placed) → answer_of pending ≡ Ok (Some p) → (pending.failed ≡ false) × (pending.records ≡ p ∷ others pending.records)
first_parts pending p is = grind arith

-- a record that is lent is the next answer
pub lent_first : (pending : Pending) (p : Placed) → Some p ≡ first_of pending → answer_of pending ≡ Ok (Some p)
lent_first pending p is = grind arith

-- some first records of a source were taken, none of a source that failed
pub record HasTaken (Took : List Placed → Type 0) (start left : Pending) : Type 0 where
  pub taken : List Placed
  pub parts : start.records ≡ taken ++ left.records
  pub rest : left ≡ leaves start left.records
  pub none : start.failed ≡ true → taken ≡ []
  pub took : Took taken

pub HasTaken-start : (Took : List Placed → Type 0) (start : Pending) → Took [] → HasTaken Took start start
HasTaken-start Took start took = record { taken = []; parts = refl; rest = refl; none = λ fails. refl; took = took }

-- one more answer of the source, with a record
pub HasTaken-more : (Took : List Placed → Type 0) (start left : Pending) (had : HasTaken Took start left) (Now : List Placed → Type 0) (p : Placed) (next : Pending) → answer_of left ≡ Ok (Some p) → next ≡ after left → ((taken : List Placed) → Took taken → Now (taken ++ p ∷ [])) → HasTaken Now start next
HasTaken-more Took start left had Now p next answer is more = grind (arith, first_parts left p answer, append_assoc had.taken (p ∷ []) next.records, more had.taken had.took)

-- ---- a builder that takes them, as the source has no more, or one is refused

module _ (old now : List Record) (start left : Pending) (had : HasTaken (λ taken. AddsEach old taken now) start left) where
  pub StopsTaking-at_end : (stop : Stop) (next : Pending) → answer_of left ≡ Err stop → next ≡ after left → StopsTaking old start now next stop
  StopsTaking-at_end stop next answer is = grind (arith, failure, by_ending, append-nil)

  pub StopsTaking-refused : (p : Placed) (stop : Stop) (new : List Record) (next : Pending) → answer_of left ≡ Ok (Some p) → next ≡ after left → StopsAdd now p stop → new ≡ now → StopsTaking old start new next stop
  StopsTaking-refused p _ new next answer is memory same = grind (arith, first_parts left p answer, memory)
  StopsTaking-refused p _ new next answer is (fault f why) same = grind (arith, first_parts left p answer, by_fault)

-- ---- a list of them

pub listed_push : (old now new taken : List Placed) (p : Placed) → Tells (old ++ taken) now → Tells (now ++ p ∷ []) new → Tells (old ++ (taken ++ p ∷ [])) new
listed_push old now new taken p is more = Tells-trans (old ++ (taken ++ p ∷ [])) (now ++ p ∷ []) new (subst (λ ps. Tells ps (now ++ p ∷ [])) (append_assoc old taken (p ∷ [])) (Tells-first (old ++ taken) now is p)) more

module _ (old now : List Placed) (start left : Pending) (had : HasTaken (λ taken. Tells (old ++ taken) now) start left) where
  pub ListsAll-at_end : (o : Option Placed) (next : Pending) → None ≡ first_of left → answer_of left ≡ Ok o → next ≡ after left → ListsAll old start now next
  ListsAll-at_end o next none answer is = search rules

  pub StopsListing-at_end : (stop : Stop) (next : Pending) → answer_of left ≡ Err stop → next ≡ after left → StopsListing old start now next stop
  StopsListing-at_end stop next answer is = grind (arith, zone_list.failure, zone_list.ending, append-nil)

  -- where the next record was dropped and not listed
  module _ (p : Placed) (new : List Placed) (next : Pending) (answer : answer_of left ≡ Ok (Some p)) (is : next ≡ after left) (same : Tells now new) where
    pub StopsListing-class : OtherClass (records_of new) p.rr → StopsListing old start new next (Refused ClassMismatch p.place)
    StopsListing-class other = grind (arith, first_parts left p answer, zone_list.class, Tells-trans (old ++ had.taken) now new had.took same)

    pub StopsListing-memory : StopsListing old start new next Memory
    StopsListing-memory = grind (arith, first_parts left p answer, zone_list.memory, Tells-trans (old ++ had.taken) now new had.took same)
