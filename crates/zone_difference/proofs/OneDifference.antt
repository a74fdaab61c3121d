-- One difference, and what it says of the zones.
use Rattle.zone_set.proofs.Common.{◌≡◌, ℕ, Equal, Less, Greater, Ordering, List, [], ◌∷◌, refl, sym, ap, ◌∙◌, subst, inl, inr, ⊎_elim, tied_itself, Has, Record, IsZone, SameRecords, nat_cmp_total, exact_unsigned}
use Rattle.std.specs.Prelude.{◌⊎◌, ◌↔◌}
use Rattle.std.specs.Ordering.{nat_cmp}
use Rattle.zone_set.proofs.Holding.Together.{each_Has}
use Rattle.zone_set.proofs.Ordering.Ascending as Ascending
use Rattle.zone_set.proofs.Ordering.SetOrder.{canonical_total, exact_canonical}
use Rattle.zone_set.specs.Order.{Ascends, canonical_cmp}
use Rattle.zone_set.specs.Zone.{Zone}
use Rattle.zone_difference.specs.Difference.{AreOnlyIn, IsDifference, IsPatched}
use Rattle.zone_difference.specs.declared.name_case.NameCase.{NameCase}
use Rattle.zone_difference.specs.declared.name_case.NameCase.TheVariants.{Exact}

-- ---- a record is one of a list or not

abbrev pub Choice : Type 0 → Type 0
Choice P = P ⊎ (P → ⊥)

number_choice : (m n : ℕ) (o : Ordering) → nat_cmp m n ≡ o → Choice (m ≡ n)
number_choice m n Equal e = inl (exact_unsigned m n e)
number_choice m n Less e = inr (λ same. let bad : Less ≡ Equal = sym e ∙ ap (nat_cmp m) (sym same) ∙ tied_itself nat_cmp_total m in cc bad)
number_choice m n Greater e = inr (λ same. let bad : Greater ≡ Equal = sym e ∙ ap (nat_cmp m) (sym same) ∙ tied_itself nat_cmp_total m in cc bad)

pub all_same : (r s : Record) → (r.owner ≡ s.owner) × (r.kind ≡ s.kind) × (r.octets ≡ s.octets) → r.class ≡ s.class → r.ttl ≡ s.ttl → r ≡ s
all_same r s (owner, kind, octets) class ttl = λ i. record { owner = owner i; class = class i; kind = kind i; ttl = ttl i; octets = octets i }

by_ttl : (r s : Record) → (r.owner ≡ s.owner) × (r.kind ≡ s.kind) × (r.octets ≡ s.octets) → r.class ≡ s.class → Choice (r.ttl ≡ s.ttl) → Choice (r ≡ s)
by_ttl r s same class (inl ttl) = inl (all_same r s same class ttl)
by_ttl r s same class (inr other) = inr (λ e. other (ap (λ (t : Record). t.ttl) e))

by_class : (r s : Record) → (r.owner ≡ s.owner) × (r.kind ≡ s.kind) × (r.octets ≡ s.octets) → Choice (r.class ≡ s.class) → Choice (r ≡ s)
by_class r s same (inl class) = by_ttl r s same class (number_choice r.ttl s.ttl (nat_cmp r.ttl s.ttl) refl)
by_class r s same (inr other) = inr (λ e. other (ap (λ (t : Record). t.class) e))

by_order : (r s : Record) (o : Ordering) → canonical_cmp r s ≡ o → Choice (r ≡ s)
by_order r s Equal e = by_class r s (exact_canonical r s e) (number_choice r.class s.class (nat_cmp r.class s.class) refl)
by_order r s Less e = inr (λ same. let bad : Less ≡ Equal = sym e ∙ ap (canonical_cmp r) (sym same) ∙ tied_itself canonical_total r in cc bad)
by_order r s Greater e = inr (λ same. let bad : Greater ≡ Equal = sym e ∙ ap (canonical_cmp r) (sym same) ∙ tied_itself canonical_total r in cc bad)

pub same_or_not : (r s : Record) → (r ≡ s) ⊎ (r ≡ s → ⊥)
same_or_not r s = by_order r s (canonical_cmp r s) refl

after_first : (s : Record) (records : List Record) (r : Record) → Choice (r ≡ s) → Choice (Has records r) → Choice (Has (s ∷ records) r)
after_first s records r (inl same) more = inl (inl same)
after_first s records r (inr other) (inl has) = inl (inr has)
after_first s records r (inr other) (inr none) = inr (λ has. ⊎_elim other none has)

pub has_or_not : (records : List Record) (r : Record) → Choice (Has records r)
has_or_not [] r = inr (λ has. has)
has_or_not (s ∷ records) r = after_first s records r (by_order r s (canonical_cmp r s) refl) (has_or_not records r)

-- ---- the laws

one_ascending : (records others : List Record) → Ascends records → Ascends others → SameRecords records others → records ≡ others
one_ascending = Ascending.one_ascending canonical_cmp canonical_total Ascends (λ r records up. up)

one_only : (case : NameCase) (records others a b : List Record) → AreOnlyIn case records others a → AreOnlyIn case records others b → a ≡ b
one_only case records others a b p q = one_ascending a b p.ascend q.ascend (λ r. (λ h. (q.are r).1 ((p.are r).0 h), λ h. (p.are r).1 ((q.are r).0 h)))

pub one_difference : (case : NameCase) (records others removed added gone come : List Record) → IsDifference case records others removed added → IsDifference case records others gone come → (removed ≡ gone) × (added ≡ come)
one_difference case records others removed added gone come p q = (one_only case records others removed gone p.gone q.gone, one_only case others records added come p.come q.come)

came : (records others removed added : List Record) → IsDifference Exact records others removed added → (r : Record) → Has others r → Choice (Has records r) → ((Has records r × (Has removed r → ⊥)) ⊎ Has added r)
came records others removed added d r has (inl there) = inl (there, λ gone. ((d.gone.are r).0 gone).1 has)
came records others removed added d r has (inr none) = inr ((d.come.are r).1 (has, none))

stayed : (records others removed added : List Record) → IsDifference Exact records others removed added → (r : Record) → Has records r → (Has removed r → ⊥) → Choice (Has others r) → Has others r
stayed records others removed added d r has kept (inl there) = there
stayed records others removed added d r has kept (inr none) = absurd (kept ((d.gone.are r).1 (has, none)))

pub patched : (records others removed added : List Record) → IsDifference Exact records others removed added → IsPatched records removed added others
patched records others removed added d r = (
  λ has. came records others removed added d r has (has_or_not records r),
  λ choice. ⊎_elim (λ (has, kept). stayed records others removed added d r has kept (has_or_not others r)) (λ new. ((d.come.are r).0 new).0) choice,
)

pub none_left : (removed : List Record) → ((r : Record) → Has removed r → ⊥) → removed ≡ []
none_left [] none = refl
none_left (r ∷ removed) none = absurd (none r (inl refl))

one_zone : (z w : Zone) → IsZone z → IsZone w → z.records ≡ w.records → z ≡ w
one_zone z w is too same =
    let (soa, has, kind, owner) = is.soa in
    let (other, has', kind', owner') = too.soa in
    let one : soa ≡ other = is.compatible.one_soa soa other has (subst (λ rs. Has rs other) (sym same) has') kind kind' in
    let apex : z.apex ≡ w.apex = sym owner ∙ ap (λ (r : Record). r.owner) one ∙ owner' in
    let class : z.class ≡ w.class = sym (each_Has (λ r. r.class ≡ z.class) z.records soa is.class has) ∙ ap (λ (r : Record). r.class) one ∙ each_Has (λ r. r.class ≡ w.class) w.records other too.class has' in
    λ i. record { apex = apex i; class = class i; records = same i }

emptied : (records others removed : List Record) → AreOnlyIn Exact records others removed → removed ≡ [] → (r : Record) → Has records r → Choice (Has others r) → Has others r
emptied records others removed only none r has (inl there) = there
emptied records others removed only none r has (inr not_there) = absurd (subst (λ rs. Has rs r) none ((only.are r).1 (has, not_there)))

pub none_if_one : (z w : Zone) (removed added : List Record) → IsZone z → IsZone w → IsDifference Exact z.records w.records removed added → ((removed ≡ []) × (added ≡ [])) ↔ (z ≡ w)
none_if_one z w removed added is too d = (
  λ (gone, come). one_zone z w is too (one_ascending z.records w.records is.compatible.ascend too.compatible.ascend (λ r. (
    λ has. emptied z.records w.records removed d.gone gone r has (has_or_not w.records r),
    λ has. emptied w.records z.records added d.come come r has (has_or_not z.records r),
  ))),
  λ same. (
    none_left removed (λ r gone. let both = (d.gone.are r).0 gone in both.1 (subst (λ (v : Zone). Has v.records r) same both.0)),
    none_left added (λ r come. let both = (d.come.are r).0 come in both.1 (subst (λ (v : Zone). Has v.records r) (sym same) both.0)),
  ),
)
