-- The canonical order of records: it is total, and what lies between two records of a set is of the set.
use Rattle.zone_set.proofs.Common.{◌≡◌, ◌≢◌, ◌==◌, if◌then◌else◌, [], take, Ordering, Equal, Greater, nat_cmp, sym, ap, ◌∙◌, rules, arith, nat_cmp_total, nat_list_cmp_total, tied_itself, on_total, then_total, CmpEqualImpliesEq, exact_unsigned, exact_bytes, IsTotalOrder, slice_cmp, on, ordering_then, then_cmp, name_cmp-exact, name_cmp-total, name_cmp, data_cmp, Data, Record, data_of, soa_rank, canonical_cmp, InOneSet}

pub both_equal : (o p : Ordering) → ordering_then o p ≡ Equal → (o ≡ Equal) × (p ≡ Equal)
both_equal o p h = grind arith

pub data_total : IsTotalOrder data_cmp
data_total = then_total (on_total (λ d. d.class) nat_cmp_total) (then_total (on_total (λ d. d.kind) nat_cmp_total) (on_total (λ d. d.octets) nat_list_cmp_total))

pub canonical_total : IsTotalOrder canonical_cmp
canonical_total = then_total (on_total soa_rank nat_cmp_total) (then_total (on_total (λ r. r.owner) name_cmp-total) (on_total data_of data_total))

-- records that the order does not tell apart have one owner, type and data
pub exact_canonical : (r s : Record) → canonical_cmp r s ≡ Equal → (r.owner ≡ s.owner) × (r.kind ≡ s.kind) × (r.octets ≡ s.octets)
exact_canonical r s h = grind (arith, both_equal, name_cmp-exact, exact_unsigned, exact_bytes)

module _ {K : Type 0} {R : K → K → Ordering} (total : IsTotalOrder R) (exact : CmpEqualImpliesEq R) where
  -- what is not apart is equal
  pub stable : (a b : K) → ((a ≢ b) → ⊥) → a ≡ b
  stable a b twice = grind (arith, exact a b, tied_itself total a)

  -- between two that have one first key, all have it, and the order after it holds of them
  pub squeezed : {A : Type 0} (f : A → K) (S : A → A → Ordering) (a b c : A) → f a ≡ f c → then_cmp (on f R) S a b ≢ Greater → then_cmp (on f R) S b c ≢ Greater → (f a ≡ f b) × (S a b ≢ Greater) × (S b c ≢ Greater)
  squeezed f S a b c same low high = grind arith

pub between_sets : (low r high : Record) → low.class ≡ high.class → InOneSet low high → canonical_cmp low r ≢ Greater → canonical_cmp r high ≢ Greater → InOneSet low r
between_sets low r high class one under over =
    let ranks = squeezed nat_cmp_total exact_unsigned soa_rank (then_cmp (on (λ s. s.owner) name_cmp) (on data_of data_cmp)) low r high (ap (λ k. if k == 6 then 0 else 1) one.kind) under over in
    let owners = squeezed name_cmp-total name_cmp-exact (λ (s : Record). s.owner) (on data_of data_cmp) low r high one.owner ranks.1 ranks.2 in
    let classes = squeezed nat_cmp_total exact_unsigned (λ (d : Data). d.class) (then_cmp (on (λ d. d.kind) nat_cmp) (on (λ d. d.octets) (slice_cmp nat_cmp))) (data_of low) (data_of r) (data_of high) class owners.1 owners.2 in
    let kinds = squeezed nat_cmp_total exact_unsigned (λ (d : Data). d.kind) (on (λ d. d.octets) (slice_cmp nat_cmp)) (data_of low) (data_of r) (data_of high) one.kind classes.1 classes.2 in
    record {
      owner = owners.0;
      kind = kinds.0;
      covers = search (rules, one.covers ∙ ap (λ k. if k == 46 then take 2 high.octets else []) (sym one.kind), kinds.1, kinds.2)
          ∙ ap (λ k. if k == 46 then take 2 r.octets else []) kinds.0;
    }
