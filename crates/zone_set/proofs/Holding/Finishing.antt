-- From the records held to a zone, or to the least owner outside.
use Rattle.zone_set.proofs.Common.{◌⊎◌, ◌≡◌, ◌≢◌, ℕ, Bool, false, ◌==◌, if◌then◌else◌, List, [], ◌∷◌, ◌++◌, Ordering, Less, Equal, nat_cmp, refl, sym, ◌∙◌, subst, inl, inr, ne_eqb, arith, AllByRecursion, ordering_then, IsWithin, name_cmp, Record, NoSoa, OutOfZone, Whole, Refused, name_cmp-exact, HasNoSoa, IsLeastOutside, StopsFinish, no_soa, outside, IsFirstOutside, canonical_cmp, Ascends, Has, AreCompatible, IsZone}
use Rattle.zone_set.proofs.Ordering.Between.{Has-append, Ascends-right}
use Rattle.zone_set.proofs.Holding.Together.{each_Has, each_from_Has, soa_first}

pub IsFirstOutside-later : (apex owner : List (List ℕ)) (r : Record) (others : List Record) → IsWithin r.owner apex → IsFirstOutside others apex owner → IsFirstOutside (r ∷ others) apex owner
IsFirstOutside-later apex owner r others within found = record { before = r ∷ found.before; first = found.first; others = found.others; parts = cc found.parts; inside = (within, found.inside); named = found.named; outside = found.outside }

-- what is outside, and that nothing is, is told by the records that are left
pub record Walks (whole : List Record) (apex : List (List ℕ)) (left : List Record) : Type 0 where
  pub inside : AllByRecursion (λ r. IsWithin r.owner apex) left → AllByRecursion (λ r. IsWithin r.owner apex) whole
  pub outside : (owner : List (List ℕ)) → IsFirstOutside left apex owner → IsFirstOutside whole apex owner

pub Walks-start : (whole left : List Record) (apex : List (List ℕ)) → left ≡ whole → Walks whole apex left
Walks-start whole left apex is = grind arith

module _ (whole : List Record) (apex : List (List ℕ)) (left rest : List Record) (r : Record) (walks : Walks whole apex left) (step : left ≡ r ∷ rest) where
  pub Walks-more : IsWithin r.owner apex → Walks whole apex rest
  Walks-more within = grind (arith, IsFirstOutside-later)

  pub Walks-found : (IsWithin r.owner apex → ⊥) → IsFirstOutside whole apex r.owner
  Walks-found out = walks.outside r.owner (subst (λ rs. IsFirstOutside rs apex r.owner) (sym step) (record { before = []; first = r; others = rest; parts = refl; inside = tt; named = refl; outside = out }))

-- a name lies within itself
pub IsWithin-itself : (apex : List (List ℕ)) → IsWithin apex apex
IsWithin-itself apex = ([], refl)

-- among records that are no SOA the order is first by owner
by_owner : (b c : Bool) (o p : Ordering) → b ≡ false → c ≡ false → ordering_then (nat_cmp (if b then 0 else 1) (if c then 0 else 1)) (ordering_then o p) ≡ Less → o ≢ Equal → o ≡ Less
by_owner b c o p no_b no_c less other = grind arith

-- the first owner outside, after the SOA, is the least
pub IsLeastOutside-from_first : (soa : Record) (others : List Record) (owner : List (List ℕ)) → AreCompatible (soa ∷ others) → soa.kind ≡ 6 → IsFirstOutside others soa.owner owner → IsLeastOutside (soa ∷ others) owner
IsLeastOutside-from_first soa others owner compatible is_soa found = record {
  soa = soa;
  held_soa = (inl refl, is_soa);
  held_owner = (found.first, inr (among found.first (inr (inl refl))), found.named);
  outside = found.outside;
  least = least;
}
  where
    among : (r : Record) → Has found.before r ⊎ Has (found.first ∷ found.others) r → Has others r
    among r has = grind (arith, found.parts, Has-append found.before (found.first ∷ found.others) r)

    -- a record outside is no SOA
    not_soa : (r : Record) → Has (soa ∷ others) r → (IsWithin r.owner soa.owner → ⊥) → (r.kind == 6) ≡ false
    not_soa r has out = ne_eqb r.kind 6 (λ kind. out (grind (arith, compatible.one_soa r soa has (inl refl) kind is_soa, IsWithin-itself)))

    first_out : IsWithin found.first.owner soa.owner → ⊥
    first_out within = found.outside (subst (λ o. IsWithin o soa.owner) found.named within)

    after : (r : Record) → Has found.others r → (IsWithin r.owner soa.owner → ⊥) → r.owner ≢ owner → name_cmp found.first.owner r.owner ≡ Less
    after r has out other =
        let less : canonical_cmp found.first r ≡ Less = each_Has (λ s. canonical_cmp found.first s ≡ Less) found.others r (Ascends-right found.before (found.first ∷ found.others) (subst Ascends found.parts compatible.ascend.1)).0 has in
        by_owner (found.first.kind == 6) (r.kind == 6) (name_cmp found.first.owner r.owner) _ (not_soa found.first (inr (among found.first (inr (inl refl)))) first_out) (not_soa r (inr (among r (inr (inr has)))) out) less
        (λ e. other (sym (name_cmp-exact found.first.owner r.owner e) ∙ found.named))

    least : (r : Record) → Has (soa ∷ others) r → (IsWithin r.owner soa.owner → ⊥) → r.owner ≢ owner → name_cmp owner r.owner ≡ Less
    least r has out other = grind (arith, after r, found.parts, found.named, IsWithin-itself, Has-append found.before (found.first ∷ found.others) r, each_Has (λ s. IsWithin s.owner soa.owner) found.before r found.inside)

-- the apex itself is not outside
IsFirstOutside-others : (soa : Record) (others : List Record) (owner : List (List ℕ)) → IsFirstOutside (soa ∷ others) soa.owner owner → IsFirstOutside others soa.owner owner
IsFirstOutside-others soa others owner found = by found.before found.parts found.inside
  where
    by : (before : List Record) → soa ∷ others ≡ before ++ found.first ∷ found.others → AllByRecursion (λ r. IsWithin r.owner soa.owner) before → IsFirstOutside others soa.owner owner
    by [] parts inside = grind (arith, IsWithin-itself)
    by (x ∷ before) parts inside = record { before = before; first = found.first; others = found.others; parts = cc; inside = inside.1; named = found.named; outside = found.outside }

-- the records held, of which the first and the others are known
module _ (held : List Record) (first : Record) (others : List Record) (compatible : AreCompatible held) (parts : held ≡ first ∷ others) where
  known : AreCompatible (first ∷ others)
  known = subst AreCompatible parts compatible

  pub stops_without_soa : first.kind ≢ 6 → StopsFinish held (Refused NoSoa Whole)
  stops_without_soa other = grind (arith, known, no_soa, soa_first first others known.ascend)

  pub stops_outside : first.kind ≡ 6 → (apex owner named : List (List ℕ)) → apex ≡ first.owner → IsFirstOutside held apex owner → named ≡ owner → StopsFinish held (Refused (OutOfZone named) Whole)
  stops_outside soa apex owner named is_apex found is = grind (arith, IsFirstOutside-others, IsLeastOutside-from_first, known, outside)

  pub IsZone-from_parts : first.kind ≡ 6 → (apex : List (List ℕ)) → apex ≡ first.owner → AllByRecursion (λ r. IsWithin r.owner apex) held → IsZone (record { apex = apex; class = first.class; records = held })
  IsZone-from_parts soa apex is within =
      let inside : AllByRecursion (λ r. IsWithin r.owner first.owner) (first ∷ others) = rw (is, parts) at within in
      rw (is, parts) (record {
        compatible = known;
        class = each_from_Has (λ r. r.class ≡ first.class) (first ∷ others) (λ r has. known.one_class r first has (inl refl));
        soa = (first, inl refl, soa, refl);
        within = inside;
      })

pub stops_with_none : (held : List Record) → held ≡ [] → StopsFinish held (Refused NoSoa Whole)
stops_with_none held none = no_soa (subst HasNoSoa (sym none) (λ r has soa. has))

pub ruleset finishing_stops = (stops_with_none, stops_outside)
