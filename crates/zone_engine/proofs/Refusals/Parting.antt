-- Lists parted at one of their records, and records of which each may stand with all before it.
use Rattle.zone_engine.proofs.Common.{◌≡◌, append-nil, append_assoc, ◌⊎◌, ◌↔◌, nat_eq, List, [], ◌∷◌, ◌++◌, refl, sym, ap, ap₂, ◌∙◌, subst, inl, inr, ⊎_elim, pointwise, pointwise_decides, bytes_decides, Record, Placed, Accepts, AllAccepted, records_of, Has, accepted_soa, arith, Labels}
use Rattle.std.proofs.Common.{Decides}
use Rattle.std.proofs.lemmas.List.{map-append}
use Rattle.zone_set.proofs.Ordering.Between.{Has-append}

-- two partings of one list: at one place, or one of them before the other
pub data Partings (before before' : List Placed) (p q : Placed) : Type 0 where
  same : before ≡ before' → p ≡ q → Partings before before' p q
  first : (between : List Placed) → before' ≡ before ++ p ∷ between → Partings before before' p q
  second : (between : List Placed) → before ≡ before' ++ q ∷ between → Partings before before' p q

later : (x y : Placed) (before before' : List Placed) (p q : Placed) → x ≡ y → Partings before before' p q → Partings (x ∷ before) (y ∷ before') p q
later x y before before' p q e (same is at) = same (ap₂ (λ (z : Placed) (zs : List Placed). z ∷ zs) e is) at
later x y before before' p q e (first between is) = first between (ap₂ (λ (z : Placed) (zs : List Placed). z ∷ zs) (sym e) is)
later x y before before' p q e (second between is) = second between (ap₂ (λ (z : Placed) (zs : List Placed). z ∷ zs) e is)

pub two_partings : (before before' others others' : List Placed) (p q : Placed) → before ++ p ∷ others ≡ before' ++ q ∷ others' → Partings before before' p q
two_partings [] [] others others' p q e = let at : p ≡ q = cc in same refl at
two_partings [] (y ∷ before') others others' p q e = let at : y ≡ p = cc in first before' (ap (λ (z : Placed). z ∷ before') at)
two_partings (x ∷ before) [] others others' p q e = let at : x ≡ q = cc in second before (ap (λ (z : Placed). z ∷ before) at)
two_partings (x ∷ before) (y ∷ before') others others' p q e =
    let head : x ≡ y = cc in
    let rest : before ++ p ∷ others ≡ before' ++ q ∷ others' = cc in
    later x y before before' p q head (two_partings before before' others others' p q rest)

-- the records before and after a place
pub Has-parts : (before others : List Placed) (r : Record) → Has (records_of (before ++ others)) r ↔ (Has (records_of before) r ⊎ Has (records_of others) r)
Has-parts before others r = rw map-append (Has-append (records_of before) (records_of others) r)

pub Has-part : (before others : List Placed) (p : Placed) → Has (records_of (before ++ p ∷ others)) p.rr
Has-part before others p = (Has-parts before (p ∷ others) p.rr).1 (inr (inl refl))

pub Has-last : (before : List Placed) (p : Placed) (r : Record) → Has (records_of (before ++ p ∷ [])) r → Has (records_of before) r ⊎ (r ≡ p.rr)
Has-last before p r has = ⊎_elim (λ h. inl h) (⊎_elim (λ e. inr e) (λ none. absurd none)) ((Has-parts before (p ∷ []) r).0 has)

pub Decides-owner : (a b : Labels) → Decides (pointwise (pointwise nat_eq) a b) (a ≡ b)
Decides-owner a b = pointwise_decides bytes_decides a b

-- ---- records of which each may stand with all before it

-- what holds of no record, and of one more that is accepted, holds of all
pub each_accepted : (P : List Placed → Type 0) (whole : List Placed) → AllAccepted whole → P [] → ((before : List Placed) (p : Placed) → Has (records_of whole) p.rr → Accepts (records_of before) p.rr → P before → P (before ++ p ∷ [])) → P whole
each_accepted P whole all none more = by [] whole refl none
  where
    by : (before placed : List Placed) → whole ≡ before ++ placed → P before → P whole
    by before [] parts held = subst P (sym (parts ∙ append-nil before)) held
    by before (p ∷ placed) parts held =
        by (before ++ p ∷ []) placed (parts ∙ sym (append_assoc before (p ∷ []) placed))
        (more before p (subst (λ ps. Has (records_of ps) p.rr) (sym parts) (Has-part before placed p)) (all before placed p parts) held)

-- two of them that are SOAs are one
pub all_soa : (placed : List Placed) → AllAccepted placed → (r s : Record) → Has (records_of placed) r → Has (records_of placed) s → r.kind ≡ 6 → s.kind ≡ 6 → r ≡ s
all_soa placed all = each_accepted (λ ps. (r s : Record) → Has (records_of ps) r → Has (records_of ps) s → r.kind ≡ 6 → s.kind ≡ 6 → r ≡ s) placed all (λ r s none. absurd none) (λ before p has fits pairs r s has_r has_s soa_r soa_s. grind (arith, Has-last before p r has_r, Has-last before p s has_s, accepted_soa (records_of before) p.rr fits, pairs r s))
