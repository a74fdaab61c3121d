-- The SOA stands first among a zone's records, and in the digest's order where its type has it.
use Rattle.zone_set.proofs.Common.{[], ◌≡◌, ◌≢◌, ℕ, ◌<◌, ◌==◌, List, ◌∷◌, refl, sym, ap, ◌∙◌, subst, arith, inl, inr, ⊎_elim, Bool, true, false, AllByRecursion, Ordering, Equal, Less, Greater, Record, Has, Ascends, canonical_cmp, data_cmp, data_of, name_cmp, name_cmp-total, name_cmp-exact, nat_cmp, nat_cmp_total, on_total, then_total, tied_itself, IsTotalOrder, IsWithin, if◌then◌else◌, ordering_then, ◌↔◌, eqb-true, AreCompatible, IsTrue, nat_lt, ordering_reverse}
use Rattle.std.specs.Prelude.{◌&&◌}
use Rattle.std.specs.Ordering.{is_eq}
use Rattle.zone_set.proofs.Ordering.Within.{below_after}
use Rattle.zone_set.proofs.Holding.Together.{each_Has, each_from_Has, soa_first}
use Rattle.zone_set.proofs.Ordering.SetOrder.{canonical_total, data_total}
use Rattle.zone_digest.specs.Machine.Walk.{by_owner, goes_before, put_soa}
use Rattle.zone_digest.specs.Digest.{AscendsByOwner, digest_cmp}

pub digest_total : IsTotalOrder digest_cmp
digest_total = then_total (on_total (λ r. r.owner) name_cmp-total) (on_total data_of data_total)

-- records that are no SOA lie as in the canonical order
ranks : (x y : Bool) (o : Ordering) → x ≡ false → y ≡ false → ordering_then (nat_cmp (if x then 0 else 1) (if y then 0 else 1)) o ≡ o
ranks x y o no_x no_y = grind arith

pub no_soa_less : (r s : Record) → (r.kind == 6) ≡ false → (s.kind == 6) ≡ false → canonical_cmp r s ≡ Less → digest_cmp r s ≡ Less
no_soa_less r s no_r no_s less = sym (ranks (r.kind == 6) (s.kind == 6) (digest_cmp r s) no_r no_s) ∙ less

pub tail_ascends : (rs : List Record) → AllByRecursion (λ r. (r.kind == 6) ≡ false) rs → Ascends rs → AscendsByOwner rs
tail_ascends [] none ascend = tt
tail_ascends (r ∷ rs) kinds ascend = (later rs kinds.1 ascend.0, tail_ascends rs kinds.1 ascend.1)
  where
    later : (ss : List Record) → AllByRecursion (λ s. (s.kind == 6) ≡ false) ss → AllByRecursion (λ s. canonical_cmp r s ≡ Less) ss → AllByRecursion (λ s. digest_cmp r s ≡ Less) ss
    later [] none less = tt
    later (s ∷ ss) none less = (no_soa_less r s kinds.0 none.0 less.0, later ss none.1 less.1)

-- records of one owner and class lie as their types
pub by_kind : (r s : Record) → r.owner ≡ s.owner → r.class ≡ s.class → r.kind < s.kind → digest_cmp r s ≡ Less
by_kind r s owner class kind = grind (arith, tied_itself name_cmp-total s.owner, tied_itself nat_cmp_total s.class)

-- a record below the apex is after those at the apex
pub below : (soa r : Record) → IsWithin r.owner soa.owner → r.owner ≢ soa.owner → digest_cmp soa r ≡ Less
below soa r in_r other =
    let not_after : name_cmp soa.owner r.owner ≢ Greater = subst (λ o. name_cmp soa.owner o ≢ Greater) (sym in_r.1) (below_after soa.owner in_r.0) in
    grind (arith, not_after, name_cmp-exact soa.owner r.owner)

-- ---- the order of a digest
has_if : (soa x : Record) (rs more : List Record) (r : Record) (b : Bool) → (Has more r ↔ Has (soa ∷ rs) r) → Has (if b then x ∷ more else soa ∷ x ∷ rs) r ↔ Has (soa ∷ x ∷ rs) r
has_if soa x rs more r false known = (λ h. h, λ h. h)
has_if soa x rs more r true known = (there, back)
  where
    there : Has (x ∷ more) r → Has (soa ∷ x ∷ rs) r
    there (inl same) = inr (inl same)
    there (inr on) = ⊎_elim inl (λ h. inr (inr h)) (known.0 on)

    back : Has (soa ∷ x ∷ rs) r → Has (x ∷ more) r
    back (inl same) = inr (known.1 (inl same))
    back (inr (inl same)) = inl same
    back (inr (inr on)) = inr (known.1 (inr on))

pub has_put : (soa : Record) (rs : List Record) (r : Record) → Has (put_soa soa rs) r ↔ Has (soa ∷ rs) r
has_put soa [] r = (λ h. h, λ h. h)
has_put soa (x ∷ rs) r = has_if soa x rs (put_soa soa rs) r (goes_before x soa) (has_put soa rs r)

pub has_by_owner : (rs : List Record) (r : Record) → Has (by_owner rs) r ↔ Has rs r
has_by_owner [] r = (λ h. h, λ h. h)
has_by_owner (soa ∷ rs) r = has_put soa rs r

-- what the order says of a record beside the SOA
abbrev pub HasItsSide : Record → Record → Type 0
HasItsSide soa r = (goes_before r soa ≡ true → digest_cmp r soa ≡ Less) × (goes_before r soa ≡ false → digest_cmp soa r ≡ Less)

put_if : (soa x : Record) (rs : List Record) (b : Bool) → goes_before x soa ≡ b → AscendsByOwner (x ∷ rs) → HasItsSide soa x → AscendsByOwner (put_soa soa rs) → AscendsByOwner (if b then x ∷ put_soa soa rs else soa ∷ x ∷ rs)
put_if soa x rs true is up side more =
    (each_from_Has (λ s. digest_cmp x s ≡ Less) (put_soa soa rs) (λ s has. ⊎_elim (λ same. subst (λ t. digest_cmp x t ≡ Less) (sym same) (side.0 is)) (λ on. each_Has (λ t. digest_cmp x t ≡ Less) rs s up.0 on) ((has_put soa rs s).0 has)), more)
put_if soa x rs false is up side more =
    ((side.1 is, each_from_Has (λ s. digest_cmp soa s ≡ Less) rs (λ s has. digest_total.trans soa x s (side.1 is) (each_Has (λ t. digest_cmp x t ≡ Less) rs s up.0 has))), up)

put_ascends : (soa : Record) (rs : List Record) → AscendsByOwner rs → AllByRecursion (HasItsSide soa) rs → AscendsByOwner (put_soa soa rs)
put_ascends soa [] up sides = (tt, tt)
put_ascends soa (x ∷ rs) up sides = put_if soa x rs (goes_before x soa) refl up sides.0 (put_ascends soa rs up.1 sides.1)

-- a record of the zone that is no SOA
has_side : (soa r : Record) → soa.kind ≡ 6 → (r.kind == 6) ≡ false → r.class ≡ soa.class → IsWithin r.owner soa.owner → HasItsSide soa r
has_side soa r is_soa no_soa class in_zone = (λ goes. low (both goes), λ stays. high (name_cmp r.owner soa.owner) refl stays)
  where
    both : goes_before r soa ≡ true → (r.kind < soa.kind) × (name_cmp r.owner soa.owner ≡ Equal)
    both goes = grind arith

    low : (r.kind < soa.kind) × (name_cmp r.owner soa.owner ≡ Equal) → digest_cmp r soa ≡ Less
    low (less, same) = by_kind r soa (name_cmp-exact r.owner soa.owner same) class less

    other : (name_cmp r.owner soa.owner ≡ Equal → ⊥) → r.owner ≢ soa.owner
    other never same = never (ap (λ o. name_cmp o soa.owner) same ∙ tied_itself name_cmp-total soa.owner)

    higher : name_cmp r.owner soa.owner ≡ Equal → goes_before r soa ≡ false → soa.kind < r.kind
    higher same stays = grind arith

    high : (o : Ordering) → name_cmp r.owner soa.owner ≡ o → goes_before r soa ≡ false → digest_cmp soa r ≡ Less
    high Equal same stays = by_kind soa r (sym (name_cmp-exact r.owner soa.owner same)) (sym class) (higher same stays)
    high Less less stays = below soa r in_zone (other (λ same. absurd (let bad = sym less ∙ same in cc)))
    high Greater more stays = below soa r in_zone (other (λ same. absurd (let bad = sym more ∙ same in cc)))

-- the first record of a zone is its one SOA
pub first_soa : (apex : List (List ℕ)) (first : Record) (others : List Record) → AreCompatible (first ∷ others) → ((r : Record) × Has (first ∷ others) r × (r.kind ≡ 6) × (r.owner ≡ apex)) → (first.kind ≡ 6) × (first.owner ≡ apex)
first_soa apex first others fits soa =
    let kind = soa_first first others fits.ascend soa.0 soa.1 soa.2 in
    (kind, ap (λ r. r.owner) (fits.one_soa first soa.0 (inl refl) soa.1 kind soa.2) ∙ soa.3)

no_others : (first : Record) (others : List Record) → AreCompatible (first ∷ others) → first.kind ≡ 6 → AllByRecursion (λ r. (r.kind == 6) ≡ false) others
no_others first others fits kind = each_from_Has (λ r. (r.kind == 6) ≡ false) others (λ r has. by_test r has (r.kind == 6) refl)
  where
    by_test : (r : Record) → Has others r → (b : Bool) → (r.kind == 6) ≡ b → b ≡ false
    by_test r has false is = refl
    by_test r has true is = absurd (
        let same : first ≡ r = fits.one_soa first r (inl refl) (inr has) kind (eqb-true r.kind 6 is) in
        let less : canonical_cmp first r ≡ Less = each_Has (λ t. canonical_cmp first t ≡ Less) others r fits.ascend.0 has in
        let tied : canonical_cmp first r ≡ Equal = ap (canonical_cmp first) (sym same) ∙ tied_itself canonical_total first in
        let bad : Less ≡ Equal = sym less ∙ tied in
        cc)

-- the records of a zone, its SOA where its type has it
pub by_owner_ascends : (apex : List (List ℕ)) (rs : List Record) → AreCompatible rs → ((r : Record) × Has rs r × (r.kind ≡ 6) × (r.owner ≡ apex)) → AllByRecursion (λ r. IsWithin r.owner apex) rs → AscendsByOwner (by_owner rs)
by_owner_ascends apex [] fits soa within = tt
by_owner_ascends apex (first ∷ others) fits soa within =
    let own = first_soa apex first others fits soa in
    let kinds = no_others first others fits own.0 in
    put_ascends first others (tail_ascends others kinds fits.ascend.1) (each_from_Has (HasItsSide first) others (λ r has.
    has_side first r own.0 (each_Has (λ t. (t.kind == 6) ≡ false) others r kinds has) (fits.one_class r first (inr has) (inl refl)) (subst (IsWithin r.owner) (sym own.1) (each_Has (λ t. IsWithin t.owner apex) others r within.1 has))))

-- a test of type and owner tells it
test_is : (b : Bool) (o : Ordering) (lt : Bool) → lt ≡ true → (b ≡ true → o ≡ Equal) → (o ≡ Equal → b ≡ true) → b ≡ (lt && is_eq o)
test_is true o lt less there back = grind (arith, there)
test_is false Equal lt less there back = absurd (let bad = back refl in cc)
test_is false Less lt less there back = grind arith
test_is false Greater lt less there back = grind arith

pub is_goes : (b : Bool) (r soa : Record) → r.kind < soa.kind → (IsTrue b ↔ (r.owner ≡ soa.owner)) → b ≡ goes_before r soa
is_goes b r soa less same =
    let lt : nat_lt r.kind soa.kind ≡ true = grind arith in
    test_is b (name_cmp r.owner soa.owner) (nat_lt r.kind soa.kind) lt
    (λ is. ap (λ o. name_cmp o soa.owner) (same.0 is) ∙ tied_itself name_cmp-total soa.owner)
    (λ tied. same.1 (name_cmp-exact r.owner soa.owner tied))

-- behind a record below the apex none stands at it
pub none_at_apex : (apex : List (List ℕ)) (x y : Record) → IsWithin x.owner apex → x.owner ≢ apex → (x.kind == 6) ≡ false → canonical_cmp x y ≡ Less → y.owner ≢ apex
none_at_apex apex x y in_x other no_soa less same = by_rank (y.kind == 6) refl
  where
    apex_first : name_cmp apex x.owner ≡ Less
    apex_first = grind (arith, subst (λ o. name_cmp apex o ≢ Greater) (sym in_x.1) (below_after apex in_x.0), name_cmp-exact apex x.owner, other)

    greater : name_cmp x.owner y.owner ≡ Greater
    greater = ap (name_cmp x.owner) same ∙ name_cmp-total.antisymm x.owner apex ∙ ap ordering_reverse apex_first

    by_rank : (b : Bool) → (y.kind == 6) ≡ b → ⊥
    by_rank true is = let bad : Greater ≡ Less = sym (ap (λ b. ordering_then (nat_cmp (if b then 0 else 1) (if (y.kind == 6) then 0 else 1)) (digest_cmp x y)) no_soa ∙ ap (λ b. ordering_then (nat_cmp 1 (if b then 0 else 1)) (digest_cmp x y)) is) ∙ less in cc
    by_rank false is =
        let low : digest_cmp x y ≡ Less = no_soa_less x y no_soa is less in
        let bad : Greater ≡ Less = sym (ap (λ o. ordering_then o (data_cmp (data_of x) (data_of y))) greater) ∙ low in
        cc
