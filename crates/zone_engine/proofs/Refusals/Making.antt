-- Records of which each may stand with all before it have one ascending list, and that is a zone's
-- or lacks what a zone needs.
use Rattle.zone_engine.proofs.Common.{◌≡◌, ◌≢◌, ◌⊎◌, List, [], ◌∷◌, length, Ordering, Less, Equal, Greater, refl, inl, inr, ⊎_elim, cases_eq, leb_tells, AllByRecursion, IsWithin, name_cmp, Record, IsRecord, Fault, NoSoa, OutOfZone, ZoneTooLarge, Place, Whole, Placed, Accepts, Adds, accepted_class, no_soa, outside, AllAccepted, records_of, Has, SameRecords, AreCompatible, Zone, IsZone, canon, text_limit, MakesZone, RefusesReading, refused, unread, unfinished, too_large, accepted_ttl, one_set, each_Has, each_from_Has, arith, Some, None}
use Rattle.zone_set.specs.Order.{canonical_cmp, Ascends}
use Rattle.zone_name.proofs.Texts.Lawful.{name_cmp-exact, name_cmp-total}
use Rattle.zone_set.proofs.Holding.Inserting.{AreCompatible-with}
use Rattle.zone_set.proofs.Ordering.Between.{later_all}
use Rattle.zone_set.proofs.Ordering.SetOrder.{canonical_total, exact_canonical}
use Rattle.zone_engine.proofs.Refusals.Parting.{Has-parts, each_accepted}
use Rattle.zone_engine.proofs.Refusals.Deciding.{is_within, some_or_none, one_or_all}
use Rattle.zone_rdata.proofs.Choices.{Decided, denied_or_not}

-- ---- the ascending list

-- one more record among those that ascend
module _ (r : Record) where
  added : (held : List Record) → Ascends held → ((s : Record) → Has held s → canonical_cmp r s ≡ Equal → s ≡ r) → (new : List Record) × Adds held r new
  added [] up exact = (r ∷ [], record { ascend = (tt, tt); same = λ s. (λ has. has, λ has. has) })
  added (x ∷ held) up exact = by (canonical_cmp r x) refl (added held up.1 (λ s has. exact s (inr has)))
    where
      by : (o : Ordering) → canonical_cmp r x ≡ o → (new : List Record) × Adds held r new → (new : List Record) × Adds (x ∷ held) r new
      by Less is more = (r ∷ x ∷ held, record { ascend = ((is, later_all r x held is up.0), up); same = λ s. (λ has. has, λ has. has) })
      by Equal is more = (x ∷ held, record { ascend = up; same = λ s. grind (arith, exact x (inl refl) is) })
      by Greater is (new, adds) = (
        x ∷ new,
        record {
          ascend = (each_from_Has (λ s. canonical_cmp x s ≡ Less) new (λ s has. grind (arith, adds.same s, each_Has (λ t. canonical_cmp x t ≡ Less) held s up.0, canonical_total.antisymm x r, is)), adds.ascend);
          same = λ s. grind (arith, adds.same s);
        },
      )

-- an accepted record that ties with one before it is that record
tied_is : (held : List Record) (r : Record) → Accepts held r → (s : Record) → Has held s → canonical_cmp r s ≡ Equal → s ≡ r
tied_is held r fits s has tied = grind (arith, accepted_class, accepted_ttl, one_set, exact_canonical)

Accepts-same : (held others : List Record) (r : Record) → SameRecords held others → Accepts others r → Accepts held r
Accepts-same held others r same fits = grind (arith, same, fits.one_class, fits.one_soa, fits.one_ttl)

-- the one list of records that are accepted
one_list : (whole : List Placed) → AllAccepted whole → AllByRecursion IsRecord (records_of whole) → (new : List Record) × AreCompatible new × SameRecords new (records_of whole)
one_list whole all each = each_accepted (λ ps. (new : List Record) × AreCompatible new × SameRecords new (records_of ps)) whole all ([], grind arith, λ s. (λ has. has, λ has. has)) (λ before p has fits (now, compatible, same).
    let accepts = Accepts-same now (records_of before) p.rr same fits in
    let (next, adds) = added p.rr now compatible.ascend (tied_is now p.rr accepts) in (
      next,
      AreCompatible-with now next p.rr compatible accepts (each_Has IsRecord (records_of whole) p.rr each has) (λ s. (adds.same s).0) adds.ascend,
      λ s. grind (arith, Has-parts before (p ∷ []) s, adds.same s, same s),
    ))

-- ---- the least owner outside

-- no other owner of such a record goes before this one
abbrev IsLeastOf : (Record → Type 0) → List Record → Record → Type 0
IsLeastOf P held r = (s : Record) → Has held s → P s → s.owner ≢ r.owner → name_cmp r.owner s.owner ≡ Less

abbrev LeastOf : (Record → Type 0) → List Record → Type 0
LeastOf P held = ((r : Record) × Has held r × P r × IsLeastOf P held r) ⊎ ((r : Record) → Has held r → P r → ⊥)

module _ (P : Record → Type 0) where
  -- the lesser of two
  lesser : (s : Record) (records : List Record) → P s → (r : Record) → Has records r → P r → IsLeastOf P records r → (o : Ordering) → name_cmp s.owner r.owner ≡ o → LeastOf P (s ∷ records)
  lesser s records p_s r has p_r least o is = grind (arith, name_cmp-exact, name_cmp-total)

  with_one : (s : Record) (records : List Record) → Decided (P s) → LeastOf P records → LeastOf P (s ∷ records)
  with_one s records (inl p_s) (inl (r, has, p_r, least)) = lesser s records p_s r has p_r least (name_cmp s.owner r.owner) refl
  with_one s records (inl p_s) (inr none) = inl (s, inl refl, p_s, λ t has_t p_t other. grind arith)
  with_one s records (inr not_s) (inl (r, has, p_r, least)) = inl (r, inr has, p_r, λ t has_t p_t other. grind arith)
  with_one s records (inr not_s) (inr none) = inr (λ r has p. grind arith)

  least_of : ((r : Record) → Decided (P r)) → (records : List Record) → LeastOf P records
  least_of test [] = inr (λ r has p. has)
  least_of test (s ∷ records) = with_one s records (test s) (least_of test records)

-- ---- a zone, or why there is none

module _ (placed : List Placed) (each : AllByRecursion IsRecord (records_of placed)) where
  abbrev Outcome : Type 0
  Outcome = ((f : Fault) × (at : Place) × RefusesReading placed None f at) ⊎ ((z : Zone) × MakesZone placed z)

  module _ (all : AllAccepted placed) where
    inside : (soa : Record) → Has (records_of placed) soa → soa.kind ≡ 6 → AllByRecursion (λ r. IsWithin r.owner soa.owner) (records_of placed) → Outcome
    inside soa has is_soa within =
        let (records, compatible, same) = one_list placed all each in
        let z : Zone = record { apex = soa.owner; class = soa.class; records = records } in
        let zone : IsZone z = record {
          compatible = compatible;
          class = each_from_Has (λ r. r.class ≡ soa.class) records (λ r is. compatible.one_class r soa is ((same soa).1 has));
          soa = (soa, (same soa).1 has, is_soa, refl);
          within = each_from_Has (λ r. IsWithin r.owner soa.owner) records (λ r is. each_Has (λ t. IsWithin t.owner soa.owner) (records_of placed) r within ((same r).0 is));
        } in
        ⊎_elim (λ short. inr (z, record { zone = zone; same = same; text_short = short.1 })) (λ long. inl (ZoneTooLarge, Whole, too_large z refl zone same long.1))
        (leb_tells (length (canon z)) text_limit)

    accepted : Outcome
    accepted =
        ⊎_elim (λ (soa, has, is_soa).
        ⊎_elim (λ (r, has_r, out, least). inl (OutOfZone r.owner, Whole, unfinished (OutOfZone r.owner) Whole all refl (outside r.owner (record { soa = soa; held_soa = (has, is_soa); held_owner = (r, has_r, refl); outside = out; least = least }))))
        (λ none. inside soa has is_soa (each_from_Has (λ r. IsWithin r.owner soa.owner) (records_of placed) (λ r has_r. ⊎_elim (λ within. within) (λ out. absurd (none r has_r out)) (is_within r.owner soa.owner))))
        (least_of (λ r. IsWithin r.owner soa.owner → ⊥) (λ r. denied_or_not (is_within r.owner soa.owner)) (records_of placed)))
        (λ none. inl (NoSoa, Whole, unfinished NoSoa Whole all refl (no_soa (λ r has is_soa. none (r, has, is_soa)))))
        (some_or_none (λ r. r.kind ≡ 6) (λ r. cases_eq r.kind 6) (records_of placed))

  pub every_whole_reading : Outcome
  every_whole_reading = ⊎_elim (λ (f, at, is). inl (f, at, refused f at is)) accepted (one_or_all placed)

pub every_broken_reading : (placed : List Placed) (ending : Fault × Place) → (f : Fault) × (at : Place) × RefusesReading placed (Some ending) f at
every_broken_reading placed (g, there) = ⊎_elim (λ (f, at, is). (f, at, refused f at is)) (λ all. (g, there, unread g there all refl)) (one_or_all placed)

pub ruleset every_reading = (every_whole_reading, every_broken_reading)
