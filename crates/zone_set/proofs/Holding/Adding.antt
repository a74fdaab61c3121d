-- A record and the sets that are held: why it is refused, and what is held with it.
use Rattle.zone_set.proofs.Common.{AllByRecursion, Bool, Entry, Has, HoldsEntries, IsEntry, IsPut, IsRecord, IsTrue, KeepsSets, List, OnErr, Record, Result, [], all_records, arith, common_steps, entry_record, eq-eqb, false, if◌then◌else◌, inl, inr, message_len, message_octets, min, ne_eqb, not, refl, ⊎_elim, ℕ, ◌+◌, ◌-◌, ◌==◌, ◌^◌, ◌↔◌, ◌∷◌, ◌≡◌, ◌≢◌, ◌⊎◌}
use Rattle.zone_set.proofs.Ordering.Between.{Has-with}
use Rattle.zone_set.proofs.Holding.Inserting.{AreCompatible-with}
use Rattle.zone_set.proofs.Holding.Together.{each_Has, stable_number}
use Rattle.zone_set.specs.Builder.{OtherClass, OtherSoa, OtherTtl, Accepts, Adds, StopsAdd, fault, memory, ttl as by_ttl}
use Rattle.zone_rdata.specs.declared.fault.Fault.TheVariants.{DifferingTtl}
use Rattle.zone_rdata.specs.declared.fault.Place.{Place}
use Rattle.zone_rdata.specs.declared.fault.Stop.{Stop}
use Rattle.zone_rdata.specs.declared.fault.Stop.TheVariants.{Memory, Refused}

-- all records of entries are of the class
pub classes : (class : ℕ) (octets : List ℕ) (es : List Entry) → AllByRecursion (λ r. r.class ≡ class) (all_records class octets es)
classes class octets [] = tt
classes class octets (e ∷ es) = (refl, classes class octets es)

pub class_of : (class : ℕ) (octets : List ℕ) (es : List Entry) (s : Record) → Has (all_records class octets es) s → s.class ≡ class
class_of class octets es s has = grind (arith, each_Has, all_records, classes)

pub other_class : (class : ℕ) (octets : List ℕ) (es : List Entry) (r : Record) → es ≢ [] → class ≢ r.class → OtherClass (all_records class octets es) r
other_class class octets [] r some other = absurd (some refl)
other_class class octets (e ∷ es) r some other = (entry_record class octets e, inl refl, other)

pub other_class_told : (told : Bool) (class : ℕ) (octets : List ℕ) (es : List Entry) (r : Record) → es ≢ [] → told ≡ not (class == r.class) → IsTrue told ↔ OtherClass (all_records class octets es) r
other_class_told told class octets es r some is = grind (arith, other_class, eq-eqb, ne_eqb, class_of)

-- where no other class is held, the class is the record's, or there is none
pub one_class : (class : ℕ) (octets : List ℕ) (es : List Entry) (r : Record) → (OtherClass (all_records class octets es) r → ⊥) → (es ≡ []) ⊎ (class ≡ r.class)
one_class class octets [] r same = inl refl
one_class class octets (e ∷ es) r same = inr (stable_number class r.class (λ other. same (other_class class octets (e ∷ es) r (λ none. cc) other)))

pub on_err : {A E P : Type 0} (r : Result A E) → P → OnErr r P
on_err r holds = grind arith

-- with no entry, class and base may be any
same_records : (class other : ℕ) (octets : List ℕ) (es : List Entry) → (es ≡ []) ⊎ (class ≡ other) → all_records other octets es ≡ all_records class octets es
same_records class other octets es any = grind arith

pub holds_for : {class other : ℕ} {base name : List (List ℕ)} {octets : List ℕ} (es : List Entry) → HoldsEntries base class octets es → (es ≡ []) ⊎ (class ≡ other) → (es ≡ []) ⊎ (name ≡ base) → HoldsEntries name other octets es
holds_for es holds any which = grind arith

-- a record that was put is held beside those before
octets_put : (old : List Record) (r : Record) (is_new : Bool) (new : List Record) → IsPut old r is_new new → message_octets new ≡ message_octets old + (if is_new then message_len r else 0)
octets_put old r is_new new put = grind (arith, common_steps)

octets_counted : (sum new more octets counted : ℕ) → octets ≡ min sum (2 ^ 64 - 1) → new ≡ sum + more → counted ≡ min (octets + more) (2 ^ 64 - 1) → counted ≡ min new (2 ^ 64 - 1)
octets_counted sum new more octets counted is is_new is_counted = omega arith

module _ {class : ℕ} {base : List (List ℕ)} {octets : List ℕ} {es : List Entry} {counted : ℕ} (r : Record) {alone : Bool} (keeps : KeepsSets class base octets es counted alone) (no_class : OtherClass (all_records class octets es) r → ⊥) (no_soa : OtherSoa (all_records class octets es) r → ⊥) where
  abbrev Old : List Record
  Old = all_records class octets es

  pub seen : all_records r.class octets es ≡ Old
  seen = same_records class r.class octets es (one_class class octets es r no_class)

  pub refused_put : (stop : Stop) (place : Place) → (stop ≡ Memory) ⊎ ((stop ≡ Refused DifferingTtl place) × OtherTtl (all_records r.class octets es) r) → StopsAdd Old (record { rr = r; place = place }) stop
  refused_put stop place why = ⊎_elim (λ is. rw is memory) (λ is. rw is.0 (fault DifferingTtl (by_ttl no_class no_soa (rw seen at is.1)))) why

  -- where memory was refused, the records are as before
  pub KeepsSets-unchanged : (name : List (List ℕ)) (now : List ℕ) (fs : List Entry) → AllByRecursion (IsEntry name r.class now) fs → all_records r.class now fs ≡ all_records r.class octets es → KeepsSets r.class name now fs counted false
  KeepsSets-unchanged name now fs each records = grind (arith, seen)

  module _ (one_ttl : OtherTtl (all_records r.class octets es) r → ⊥) (whole : IsRecord r) (name : List (List ℕ)) (now : List ℕ) (fs : List Entry) (is_new : Bool) (each : AllByRecursion (IsEntry name r.class now) fs) (told : IsPut (all_records r.class octets es) r is_new (all_records r.class now fs)) where
    abbrev New : List Record
    New = all_records r.class now fs

    was_put : IsPut Old r is_new New
    was_put = rw seen at told

    pub accepted : Accepts Old r
    accepted = record { one_class = no_class; one_soa = no_soa; one_ttl = rw seen at one_ttl }

    pub added : Adds Old r New
    added = grind (arith, was_put, Has-with)

    pub KeepsSets-with : (after : ℕ) → after ≡ min (counted + (if is_new then message_len r else 0)) (2 ^ 64 - 1) → KeepsSets r.class name now fs after false
    KeepsSets-with after is_after = record {
      holds = record { each = each; compatible = AreCompatible-with Old New r keeps.holds.compatible accepted whole (λ s. (added.same s).0) added.ascend };
      counts = octets_counted (message_octets Old) (message_octets New) (if is_new then message_len r else 0) counted after keeps.counts (octets_put Old r is_new New was_put) is_after;
      kept = λ is. cc;
    }
