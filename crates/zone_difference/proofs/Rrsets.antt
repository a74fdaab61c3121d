-- Changes in order: by RRset, and in each the removals before the additions.
use Rattle.zone_set.proofs.Common.{◌≡◌, ◌≢◌, Equal, Greater, Less, Ordering, List, [], ◌∷◌, ℕ, refl, sym, ap, ◌∙◌, subst, inl, inr, ◌⊎◌, IsTotalOrder, nat_cmp, nat_cmp_total, exact_unsigned, name_cmp, name_cmp-exact, name_cmp-total, on, on_total, then_cmp, then_total, then_assoc, ordering_reverse, ordering_then, slice_cmp, tied_itself, Has, Record, soa_rank}
use Rattle.std.proofs.lemmas.Cmp.{alike_right}
use Rattle.zone_name.specs.Common.{Labels}
use Rattle.zone_set.proofs.Holding.Together.{each_Has}
use Rattle.zone_set.proofs.Ordering.SetOrder.{both_equal}
use Rattle.zone_set.specs.Order.{Ascends, canonical_cmp}
use Rattle.zone_difference.specs.Difference.{AreOfOneRrset, GoesBefore, addition, removal}
use Rattle.zone_difference.specs.Walk.{OnFirst}

-- how RRsets lie in canonical order
abbrev pub rrset_cmp : Record → Record → Ordering
rrset_cmp = then_cmp (on soa_rank nat_cmp) (then_cmp (on (λ r. r.owner) name_cmp) (then_cmp (on (λ r. r.class) nat_cmp) (on (λ r. r.kind) nat_cmp)))

rrset_total : IsTotalOrder rrset_cmp
rrset_total = then_total (on_total soa_rank nat_cmp_total) (then_total (on_total (λ r. r.owner) name_cmp-total) (then_total (on_total (λ r. r.class) nat_cmp_total) (on_total (λ r. r.kind) nat_cmp_total)))

regroup : (a b c d e : Ordering) → ordering_then (ordering_then a (ordering_then b (ordering_then c d))) e ≡ ordering_then a (ordering_then b (ordering_then c (ordering_then d e)))
regroup a b c d e = simp then_assoc

-- records lie by RRset, and then by data
parts : (r s : Record) → canonical_cmp r s ≡ ordering_then (rrset_cmp r s) (slice_cmp nat_cmp r.octets s.octets)
parts r s = sym (regroup (nat_cmp (soa_rank r) (soa_rank s)) (name_cmp r.owner s.owner) (nat_cmp r.class s.class) (nat_cmp r.kind s.kind) (slice_cmp nat_cmp r.octets s.octets))

set_less : (r s : Record) → rrset_cmp r s ≡ Less → canonical_cmp r s ≡ Less
set_less r s less = parts r s ∙ ap (λ o. ordering_then o (slice_cmp nat_cmp r.octets s.octets)) less

pub set_of_less : (r s : Record) → canonical_cmp r s ≡ Less → rrset_cmp r s ≢ Greater
set_of_less r s less greater =
    let bad : Less ≡ Greater = sym less ∙ parts r s ∙ ap (λ o. ordering_then o (slice_cmp nat_cmp r.octets s.octets)) greater in cc bad

one_set : (r s : Record) → rrset_cmp r s ≡ Equal → AreOfOneRrset r s
one_set r s tied =
    let (rank, more) = both_equal (nat_cmp (soa_rank r) (soa_rank s)) (ordering_then (name_cmp r.owner s.owner) (ordering_then (nat_cmp r.class s.class) (nat_cmp r.kind s.kind))) tied in
    let (owner, last) = both_equal (name_cmp r.owner s.owner) (ordering_then (nat_cmp r.class s.class) (nat_cmp r.kind s.kind)) more in
    let (class, kind) = both_equal (nat_cmp r.class s.class) (nat_cmp r.kind s.kind) last in
    record { owner = name_cmp-exact r.owner s.owner owner; class = exact_unsigned r.class s.class class; kind = exact_unsigned r.kind s.kind kind }

-- how a record lies to one with this owner, class and type
abbrev cmp_with : Record → Record → Labels → ℕ → ℕ → Ordering
cmp_with r s owner class kind = rrset_cmp r (record { owner = owner; class = class; kind = kind; ttl = s.ttl; octets = s.octets })

pub set_tied : (r s : Record) → AreOfOneRrset r s → rrset_cmp r s ≡ Equal
set_tied r s one =
    ap (λ o. cmp_with r s o s.class s.kind) (sym one.owner) ∙ ap (λ c. cmp_with r s r.owner c s.kind) (sym one.class) ∙ ap (λ k. cmp_with r s r.owner r.class k) (sym one.kind)
    ∙ tied_itself rrset_total r

-- ---- three RRsets in a row

still_less : (r s t : Record) (o : Ordering) → rrset_cmp s t ≡ o → o ≢ Greater → rrset_cmp r s ≡ Less → rrset_cmp r t ≡ Less
still_less r s t Less e never less = rrset_total.trans r s t less e
still_less r s t Equal e never less = sym (alike_right rrset_total s t r e) ∙ less
still_less r s t Greater e never less = absurd (never refl)

at_most : (r s t : Record) (o : Ordering) → rrset_cmp r s ≡ o → o ≢ Greater → rrset_cmp s t ≢ Greater → rrset_cmp r t ≢ Greater
at_most r s t Less e never then greater =
    let less = still_less r s t (rrset_cmp s t) refl then e in
    let bad : Less ≡ Greater = sym less ∙ greater in cc bad
at_most r s t Equal e never then greater = then (sym (rrset_total.congr r s t e) ∙ greater)
at_most r s t Greater e never then greater = absurd (never refl)

-- ---- a removal and an addition

removal_by : (r s : Record) (o : Ordering) → rrset_cmp r s ≡ o → o ≢ Greater → GoesBefore (removal r) (addition s)
removal_by r s Less e never = inl (set_less r s e)
removal_by r s Equal e never = inr (one_set r s e)
removal_by r s Greater e never = absurd (never refl)

pub removal_goes : (r s : Record) → rrset_cmp r s ≢ Greater → GoesBefore (removal r) (addition s)
removal_goes r s never = removal_by r s (rrset_cmp r s) refl never

pub removal_went : (r s : Record) → GoesBefore (removal r) (addition s) → rrset_cmp r s ≢ Greater
removal_went r s (inl less) = set_of_less r s less
removal_went r s (inr one) = λ greater. let bad : Equal ≡ Greater = sym (set_tied r s one) ∙ greater in cc bad

pub addition_goes : (s r : Record) → rrset_cmp s r ≡ Less → GoesBefore (addition s) (removal r)
addition_goes s r less = (set_less s r less, λ one. let bad : Less ≡ Equal = sym less ∙ set_tied s r one in cc bad)

addition_by : (s r : Record) (o : Ordering) → rrset_cmp s r ≡ o → GoesBefore (addition s) (removal r) → rrset_cmp s r ≡ Less
addition_by s r Less e goes = e
addition_by s r Equal e goes = absurd (goes.1 (one_set s r e))
addition_by s r Greater e goes = absurd (set_of_less s r goes.0 e)

pub addition_went : (s r : Record) → GoesBefore (addition s) (removal r) → rrset_cmp s r ≡ Less
addition_went s r goes = addition_by s r (rrset_cmp s r) refl goes

-- one of both goes first
pub turned_goes : (r s : Record) → rrset_cmp r s ≡ Greater → GoesBefore (addition s) (removal r)
turned_goes r s greater = addition_goes s r (rrset_total.antisymm s r ∙ ap ordering_reverse greater)

pub never_both : (r s : Record) → GoesBefore (removal r) (addition s) → GoesBefore (addition s) (removal r) → ⊥
never_both r s goes back = removal_went r s goes (rrset_total.antisymm r s ∙ ap ordering_reverse (addition_went s r back))

pub other_goes : (r s : Record) → (GoesBefore (removal r) (addition s) → ⊥) → GoesBefore (addition s) (removal r)
other_goes r s never = by (rrset_cmp r s) refl
  where
    by : (o : Ordering) → rrset_cmp r s ≡ o → GoesBefore (addition s) (removal r)
    by Less e = absurd (never (removal_by r s Less e (λ bad. cc bad)))
    by Equal e = absurd (never (removal_by r s Equal e (λ bad. cc bad)))
    by Greater e = turned_goes r s e

-- what lies between records of an RRset is of it
at_or_before : (r s : Record) → ((canonical_cmp r s ≡ Less) ⊎ AreOfOneRrset r s) → rrset_cmp r s ≢ Greater
at_or_before r s goes = removal_went r s goes

between : (a b c : Record) (o : Ordering) → rrset_cmp a b ≡ o → o ≢ Greater → rrset_cmp b c ≢ Greater → AreOfOneRrset a c → AreOfOneRrset a b
between a b c Equal e never then one = one_set a b e
between a b c Less e never then one = absurd (let bad : Less ≡ Equal = sym (still_less a b c (rrset_cmp b c) refl then e) ∙ set_tied a c one in cc)
between a b c Greater e never then one = absurd (never refl)

pub squeezed : (a b c : Record) → ((canonical_cmp a b ≡ Less) ⊎ AreOfOneRrset a b) → ((canonical_cmp b c ≡ Less) ⊎ AreOfOneRrset b c) → AreOfOneRrset a c → AreOfOneRrset a b
squeezed a b c first next one = between a b c (rrset_cmp a b) refl (at_or_before a b first) (at_or_before b c next) one

pub still_at_most : (h r q : Record) → AreOfOneRrset h r → canonical_cmp r q ≡ Less → rrset_cmp h q ≢ Greater
still_at_most h r q one less = at_most h r q (rrset_cmp h r) refl (at_or_before h r (inr one)) (set_of_less r q less)

-- ---- what goes before the first of ascending records goes before all of them

pub removal_before : (r : Record) (come : List Record) → Ascends come → OnFirst (λ s. GoesBefore (removal r) (addition s)) come → (t : Record) → Has come t → GoesBefore (removal r) (addition t)
removal_before r (s ∷ come) up goes t (inl same) = subst (λ q. GoesBefore (removal r) (addition q)) (sym same) goes
removal_before r (s ∷ come) up goes t (inr has) =
    removal_goes r t (at_most r s t (rrset_cmp r s) refl (removal_went r s goes) (set_of_less s t (each_Has (λ q. canonical_cmp s q ≡ Less) come t up.0 has)))
removal_before r [] up goes t has = absurd has

pub addition_before : (s : Record) (gone : List Record) → Ascends gone → OnFirst (λ r. GoesBefore (addition s) (removal r)) gone → (t : Record) → Has gone t → GoesBefore (addition s) (removal t)
addition_before s (r ∷ gone) up goes t (inl same) = subst (λ q. GoesBefore (addition s) (removal q)) (sym same) goes
addition_before s (r ∷ gone) up goes t (inr has) =
    addition_goes s t (still_less s r t (rrset_cmp r t) refl (set_of_less r t (each_Has (λ q. canonical_cmp r q ≡ Less) gone t up.0 has)) (addition_went s r goes))
addition_before s [] up goes t has = absurd has
