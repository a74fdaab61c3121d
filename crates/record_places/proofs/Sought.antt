-- A record is looked up among records in canonical order.
use Rattle.zone_set.proofs.Common.{◌≡◌, ℕ, suc, zero, ◌+◌, ◌<◌, ◌≤◌, ◌⊎◌, ◌==◌, Bool, Equal, Greater, Less, List, [], ◌∷◌, Some, refl, sym, ap, ◌∙◌, subst, inl, inr, ⊎_elim, arith, eq-eqb, get_or, length, ne_eqb, not, option_map, record_of, true, ordering_reverse, tied_itself, Has, Record}
use Rattle.std.proofs.lemmas.Option.{slice_get-map, slice_get_read}
use Rattle.std.specs.List.{slice_get}
use Rattle.zone_rdata.specs.declared.lent.RrRef.{RrRef}
use Rattle.zone_set.proofs.Holding.Together.{each_Has}
use Rattle.zone_set.proofs.Ordering.SetOrder.{canonical_total}
use Rattle.zone_set.specs.Order.{Ascends, canonical_cmp}
use Rattle.record_places.specs.Machine.SoFar.{records_in}

-- whether two classes differ
pub other_class : (told : Bool) (own class : ℕ) → told ≡ not (own == class) → told ≡ true → own ≡ class → ⊥
other_class told own class is other = grind (arith, eq-eqb, ne_eqb)

pub read_at : (records : List RrRef) (i : ℕ) (held : RrRef) → i < length records → held ≡ get_or records i held → slice_get (records_in records) i ≡ Some (record_of held)
read_at records i held within is = slice_get-map record_of records i ∙ ap (option_map record_of) (slice_get_read records (length records) i held refl within is)

-- what stands at an index is one of them, and each of them stands at one
pub has_at : (rs : List Record) (i : ℕ) (s : Record) → slice_get rs i ≡ Some s → Has rs s
has_at [] i s at = absurd (cc)
has_at (q ∷ rs) zero s at = inl (let same : q ≡ s = cc in sym same)
has_at (q ∷ rs) (suc i) s at = inr (has_at rs i s at)

pub at_some : (rs : List Record) (s : Record) → Has rs s → (i : ℕ) × (slice_get rs i ≡ Some s)
at_some [] s has = absurd has
at_some (q ∷ rs) s (inl same) = (zero, ap (λ t. Some t) (sym same))
at_some (q ∷ rs) s (inr has) = let (i, at) = at_some rs s has in (suc i, at)

-- each goes before those after it
pub goes_before : (rs : List Record) (i j : ℕ) (s t : Record) → Ascends rs → slice_get rs i ≡ Some s → slice_get rs j ≡ Some t → i < j → canonical_cmp s t ≡ Less
goes_before [] i j s t up at_i at_j lt = absurd (cc)
goes_before (q ∷ rs) i zero s t up at_i at_j lt = absurd (omega arith)
goes_before (q ∷ rs) zero (suc j) s t up at_i at_j lt =
    let same : q ≡ s = cc in
    subst (λ h. canonical_cmp h t ≡ Less) same (each_Has (λ h. canonical_cmp q h ≡ Less) rs t up.0 (has_at rs j t at_j))
goes_before (q ∷ rs) (suc i) (suc j) s t up at_i at_j lt = goes_before rs i j s t up.1 at_i at_j (omega arith)

-- one that the order doesn't tell from a record is it, where the record is one of them
pub only_one : (rs : List Record) (i : ℕ) (s r : Record) → Ascends rs → slice_get rs i ≡ Some s → canonical_cmp s r ≡ Equal → Has rs r → s ≡ r
only_one [] i s r up at tied has = absurd has
only_one (q ∷ rs) zero s r up at tied (inl same) = let first : q ≡ s = cc in sym first ∙ sym same
only_one (q ∷ rs) zero s r up at tied (inr has) =
    let first : q ≡ s = cc in
    let bad : Less ≡ Equal = sym (each_Has (λ h. canonical_cmp q h ≡ Less) rs r up.0 has) ∙ ap (λ h. canonical_cmp h r) first ∙ tied in cc bad
only_one (q ∷ rs) (suc i) s r up at tied (inl same) =
    let less : canonical_cmp q s ≡ Less = each_Has (λ h. canonical_cmp q h ≡ Less) rs s up.0 (has_at rs i s at) in
    let bad : Less ≡ Equal = sym less ∙ canonical_total.antisymm q s ∙ ap ordering_reverse (ap (canonical_cmp s) (sym same) ∙ tied) in cc bad
only_one (q ∷ rs) (suc i) s r up at tied (inr has) = only_one rs i s r up.1 at tied has

-- those before an index go before a record, and those from another on go after it
pub record IsBetween (rs : List Record) (r : Record) (low high : ℕ) : Type 0 where
  pub below : (k : ℕ) (s : Record) → k < low → slice_get rs k ≡ Some s → canonical_cmp s r ≡ Less
  pub above : (k : ℕ) (s : Record) → high ≤ k → slice_get rs k ≡ Some s → canonical_cmp s r ≡ Greater

module _ (rs : List Record) (r : Record) (low high middle : ℕ) (s : Record) (up : Ascends rs) (at : slice_get rs middle ≡ Some s) (between : IsBetween rs r low high) where
  pub is_above : canonical_cmp s r ≡ Less → IsBetween rs r (middle + 1) high
  is_above less = record {
    below = λ k t lt is. ⊎_elim
        (λ (same : k ≡ middle). let one : s ≡ t = let both : Some s ≡ Some t = sym at ∙ ap (slice_get rs) (sym same) ∙ is in cc both in subst (λ h. canonical_cmp h r ≡ Less) one less)
        (λ (under : k < middle). canonical_total.trans t s r (goes_before rs k middle t s up is at under) less)
        (last_or_before k middle lt);
    above = between.above;
  }
    where
      last_or_before : (k m : ℕ) → k < m + 1 → (k ≡ m) ⊎ (k < m)
      last_or_before k m lt = grind arith

  pub is_below : canonical_cmp s r ≡ Greater → IsBetween rs r low middle
  is_below greater = record {
    below = between.below;
    above = λ k t le is. ⊎_elim
        (λ (same : k ≡ middle). let one : s ≡ t = let both : Some s ≡ Some t = sym at ∙ ap (slice_get rs) (sym same) ∙ is in cc both in subst (λ h. canonical_cmp h r ≡ Greater) one greater)
        (λ (over : middle < k). back t (canonical_total.trans r s t (canonical_total.antisymm r s ∙ ap ordering_reverse greater) (goes_before rs middle k s t up at is over)))
        (first_or_after k middle le);
  }
    where
      back : (t : Record) → canonical_cmp r t ≡ Less → canonical_cmp t r ≡ Greater
      back t less = canonical_total.antisymm t r ∙ ap ordering_reverse less

      first_or_after : (k m : ℕ) → m ≤ k → (k ≡ m) ⊎ (m < k)
      first_or_after k m le = grind arith

-- where the two meet, the record is none of them
pub is_none : (rs : List Record) (r : Record) (low high : ℕ) → high ≤ low → IsBetween rs r low high → Has rs r → ⊥
is_none rs r low high met between has =
    let (k, at) = at_some rs r has in
    ⊎_elim
    (λ (lt : k < low). let bad : Less ≡ Equal = sym (between.below k r lt at) ∙ tied_itself canonical_total r in cc bad)
    (λ (le : high ≤ k). let bad : Greater ≡ Equal = sym (between.above k r le at) ∙ tied_itself canonical_total r in cc bad)
    (one_side k low high met)
  where
    one_side : (k l h : ℕ) → h ≤ l → (k < l) ⊎ (h ≤ k)
    one_side k l h le = grind arith
