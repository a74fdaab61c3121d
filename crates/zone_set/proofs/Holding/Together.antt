-- Records held: membership, sets, and what a refusal excludes.
use Rattle.zone_set.proofs.Common.{◌≡◌, ◌≢◌, ℕ, Bool, true, if◌then◌else◌, List, [], ◌∷◌, Ordering, Less, nat_cmp, eqb-true, eq-eqb, refl, sym, ◌∙◌, subst, inl, inr, ⊎_elim, arith, nat_cmp_total, nat_list_cmp_total, exact_unsigned, exact_bytes, AllByRecursion, Record, Ascends, ordering_then, name_cmp-exact, name_cmp-total, AreTwoSoas, OtherSoa, Accepts, Has, InOneSet, AreCompatible}
use Rattle.zone_set.proofs.Ordering.SetOrder.{stable}

-- what holds of each record, and of each that is held
pub each_Has : (P : Record → Type 0) (records : List Record) (r : Record) → AllByRecursion P records → Has records r → P r
each_Has P [] r each has = absurd has
each_Has P (s ∷ records) r each has = ⊎_elim (λ same. subst P (sym same) each.0) (λ more. each_Has P records r each.1 more) has

pub each_from_Has : (P : Record → Type 0) (records : List Record) → ((r : Record) → Has records r → P r) → AllByRecursion P records
each_from_Has P [] holds = tt
each_from_Has P (s ∷ records) holds = (holds s (inl refl), each_from_Has P records (λ r has. holds r (inr has)))

pub stable_number : (a b : ℕ) → ((a ≢ b) → ⊥) → a ≡ b
stable_number = stable nat_cmp_total exact_unsigned

pub stable_owner : (a b : List (List ℕ)) → ((a ≢ b) → ⊥) → a ≡ b
stable_owner = stable name_cmp-total name_cmp-exact

pub flipped : {r s : Record} → InOneSet r s → InOneSet s r
flipped one = record { owner = cc; kind = cc; covers = cc }

-- records with one owner, type and data are of one set
pub one_set : (r s : Record) → r.owner ≡ s.owner → r.kind ≡ s.kind → r.octets ≡ s.octets → InOneSet r s
one_set r s owner kind octets = grind (arith, owner, kind, octets)

-- a record that may stand with those held
module _ (held : List Record) (r : Record) (fits : Accepts held r) where
  pub accepted_class : (s : Record) → Has held s → s.class ≡ r.class
  accepted_class s has = stable_number _ _ (λ other. fits.one_class (s, has, other))

  pub accepted_ttl : (s : Record) → Has held s → InOneSet s r → s.ttl ≡ r.ttl
  accepted_ttl s has one = stable_number _ _ (λ other. fits.one_ttl (s, has, one, other))

  pub accepted_soa : (s : Record) → Has held s → s.kind ≡ 6 → r.kind ≡ 6 → s ≡ r
  accepted_soa s has soa_s soa_r =
      let owner : s.owner ≡ r.owner = stable_owner _ _ (λ other. fits.one_soa (s, has, (soa_r, soa_s, inl other))) in
      let octets : s.octets ≡ r.octets = stable nat_list_cmp_total exact_bytes _ _ (λ other. fits.one_soa (s, has, (soa_r, soa_s, inr other))) in
      let class = accepted_class s has in
      let ttl = accepted_ttl s has (one_set s r owner (soa_s ∙ sym soa_r) octets) in
      grind (arith, owner, octets, class, ttl)

-- the first of these records is an SOA if any is
pub soa_before : (b c : Bool) (o : Ordering) → ordering_then (nat_cmp (if b then 0 else 1) (if c then 0 else 1)) o ≡ Less → c ≡ true → b ≡ true
soa_before b c o less is_soa = grind arith

pub soa_first : (first : Record) (others : List Record) → Ascends (first ∷ others) → (s : Record) → Has (first ∷ others) s → s.kind ≡ 6 → first.kind ≡ 6
soa_first first others ascend s has soa = grind (arith, eqb-true, soa_before, each_Has, eq-eqb)

-- whether another SOA is held is told by the first record
module _ (first : Record) (others : List Record) (compatible : AreCompatible (first ∷ others)) (r : Record) where
  pub one_soa : (AreTwoSoas first r → ⊥) → OtherSoa (first ∷ others) r → ⊥
  one_soa one (s, has, (soa_r, soa_s, other)) = grind (arith, soa_first)

  pub other_soa : AreTwoSoas first r → OtherSoa (first ∷ others) r
  other_soa two = (first, inl refl, two)

-- a test that decides one thing decides another that stands and falls with it
pub decides_other : {P Q : Type 0} (b : Bool) → (b ≡ true → P) → (P → b ≡ true) → (P → Q) → ((P → ⊥) → Q → ⊥) → (b ≡ true → Q) × (Q → b ≡ true)
decides_other b holds tells more less = grind arith
