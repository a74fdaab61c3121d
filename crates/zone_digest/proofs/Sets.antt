-- The data of the records of a set, with its names in lower case.
use Rattle.zone_set.proofs.Common.{[], ◌≡◌, ℕ, ◌+◌, ◌<◌, List, ◌∷◌, ◌++◌, length, take, refl, sym, ap, ◌∙◌, subst, arith, map, map-append, inl, inr, ⊎_elim, ◌⊎◌, ◌↔◌, AllByRecursion, AllByRecursion-append, slice_cmp, nat_cmp, nat_cmp_total, name_cmp-total, tied_itself, Ordering, Equal, Less, get_or, Record, IsRecord, record_of, Has}
use Rattle.std.proofs.Common.{suc, append_assoc, append-nil}
use Rattle.std.specs.List.{flat_map}
use Rattle.std.proofs.lemmas.Grind.{flat_map-append}
use Rattle.std.proofs.Math.Seq.{take-suc}
use Rattle.std.specs.BTreeSet.{insert_key}
use Rattle.std.specs.Global.{Vec}
use Rattle.std.specs.List.Sorted.{IsStrictlySortedBy}
use Rattle.zone_set.proofs.Ordering.Between.{Has-append}
use Rattle.zone_rdata.specs.declared.lent.RrRef.{RrRef}
use Rattle.zone_digest.specs.Digest.{AscendsByOwner, digest_cmp, IsLoweredRecord, octets_with, record_octets}
use Rattle.zone_digest.specs.Machine.Sets.{AreAlike, AreLowered, HasLowered, HasOctets, StaysLow}
use Rattle.zone_set.proofs.Holding.Together.{each_Has}
use Rattle.data_names.specs.NamesInData.{IsLowered, names_of}
use Rattle.data_names.proofs.Once.{lowered_once, lowered_length}

pub one_more : (set : List RrRef) (i : ℕ) (item : RrRef) → item ≡ get_or set i item → i < length set → map record_of (take (i + 1) set) ≡ map record_of (take i set) ++ record_of item ∷ []
one_more set i item is fits =
    let next : take (suc i) set ≡ take i set ++ item ∷ [] = take-suc set i item fits ∙ ap (λ x. take i set ++ x ∷ []) (sym is) in
    let count : i + 1 ≡ suc i = omega arith in
    ap (λ n. map record_of (take n set)) count ∙ ap (map record_of) next ∙ map-append record_of (take i set) (item ∷ [])

pub pushed_record : (old new : List RrRef) (x : RrRef) → new ≡ old ++ x ∷ [] → map record_of new ≡ map record_of old ++ record_of x ∷ []
pushed_record old new x grown = ap (map record_of) grown ∙ map-append record_of old (x ∷ [])

pub stays_more : (set : List RrRef) (i : ℕ) (item : RrRef) → item ≡ get_or set i item → i < length set → AllByRecursion StaysLow (map record_of (take i set)) → StaysLow (record_of item) → AllByRecursion StaysLow (map record_of (take (i + 1) set))
stays_more set i item is fits each low = subst (AllByRecursion StaysLow) (sym (one_more set i item is fits)) (AllByRecursion-append StaysLow (map record_of (take i set)) (record_of item ∷ []) each (low, tt))

module _ (cmp : Vec ℕ → Vec ℕ → Ordering) (exact : (a b : Vec ℕ) → cmp a b ≡ Equal → a.items ≡ b.items) where
  pub insert_has : (keys : List (Vec ℕ)) (k : Vec ℕ) (octets : List ℕ) → HasOctets (insert_key cmp keys k) octets ↔ ((octets ≡ k.items) ⊎ HasOctets keys octets)
  insert_has [] k octets = grind arith
  insert_has (x ∷ keys) k octets = grind (arith, insert_has keys k octets, exact k x)

  pub lowered_more : (old : List (Vec ℕ)) (k : Vec ℕ) (new : List (Vec ℕ)) (rs more : List Record) (r : Record) → new ≡ insert_key cmp old k → more ≡ rs ++ r ∷ [] → IsLowered (names_of r.kind r.octets) r.octets k.items → ((octets : List ℕ) → HasOctets old octets ↔ HasLowered rs octets) → (octets : List ℕ) → HasOctets new octets ↔ HasLowered more octets
  lowered_more old k new rs more r grown longer low known octets = (there, back)
    where
      there : HasOctets new octets → HasLowered more octets
      there has = ⊎_elim
          (λ same. (r, subst (λ m. Has m r) (sym longer) ((Has-append rs (r ∷ []) r).1 (inr (inl refl))), subst (IsLowered (names_of r.kind r.octets) r.octets) (sym same) low))
          (λ held. let f = (known octets).0 held in (f.0, subst (λ m. Has m f.0) (sym longer) ((Has-append rs (r ∷ []) f.0).1 (inl f.1)), f.2))
          ((insert_has old k octets).0 (subst (λ s. HasOctets s octets) grown has))

      back : HasLowered more octets → HasOctets new octets
      back (s, has, lower) = subst (λ keys. HasOctets keys octets) (sym grown) ((insert_has old k octets).1 (⊎_elim
          (λ held. inr ((known octets).1 (s, held, lower)))
          (λ last. inl (own s lower last))
          ((Has-append rs (r ∷ []) s).0 (subst (λ m. Has m s) longer has))))
        where
          own : (s : Record) → IsLowered (names_of s.kind s.octets) s.octets octets → Has (r ∷ []) s → octets ≡ k.items
          own s lower (inl same) = lowered_once (names_of r.kind r.octets) r.octets octets k.items (subst (λ t. IsLowered (names_of t.kind t.octets) t.octets octets) same lower) low
          own s lower (inr none) = absurd none

-- what a record's own type and data tell
pub own_form : (P : ℕ → List ℕ → List ℕ → Type 0) (item : RrRef) (kind : ℕ) (octets lower : List ℕ) → kind ≡ item.kind → octets ≡ item.rdata.octets → P kind octets lower → P item.kind item.rdata.octets lower
own_form P item kind octets lower a b h = subst (λ k. P k item.rdata.octets lower) a (subst (λ o. P kind o lower) b h)

pub held_more : (m : List ℕ) (set : List RrRef) (i : ℕ) (item : RrRef) → item ≡ get_or set i item → i < length set → (m ++ flat_map record_octets (map record_of (take i set))) ++ record_octets (record_of item) ≡ m ++ flat_map record_octets (map record_of (take (i + 1) set))
held_more m set i item is fits =
    let more : flat_map record_octets (map record_of (take (i + 1) set)) ≡ flat_map record_octets (map record_of (take i set)) ++ record_octets (record_of item) =
    ap (flat_map record_octets) (one_more set i item is fits) ∙ flat_map-append record_octets (map record_of (take i set)) (record_of item ∷ []) ∙ ap (λ x. flat_map record_octets (map record_of (take i set)) ++ x) (append-nil (record_octets (record_of item))) in
    append_assoc m (flat_map record_octets (map record_of (take i set))) (record_octets (record_of item)) ∙ ap (λ x. m ++ x) (sym more)

pub drained : (r : Record) (n : List ℕ) (k : Vec ℕ) (old new : List (Vec ℕ)) → old ≡ k ∷ new → (n ++ octets_with r k.items) ++ flat_map (octets_with r) (map (λ v. v.items) new) ≡ n ++ flat_map (octets_with r) (map (λ v. v.items) old)
drained r n k old new is = append_assoc n (octets_with r k.items) (flat_map (octets_with r) (map (λ v. v.items) new)) ∙ ap (λ keys. n ++ flat_map (octets_with r) (map (λ v. v.items) keys)) (sym is)

-- ---- the records of a set with data in lower case
abbrev pub lower_as : Record → List ℕ → Record
lower_as r octets = record { owner = r.owner; class = r.class; kind = r.kind; ttl = r.ttl; octets = octets }

pub record_same : (r s : Record) → s.owner ≡ r.owner → s.class ≡ r.class → s.kind ≡ r.kind → s.ttl ≡ r.ttl → s.octets ≡ r.octets → s ≡ r
record_same r s a b c d e =
    ap (λ x. record { owner = x; class = s.class; kind = s.kind; ttl = s.ttl; octets = s.octets }) a
    ∙ ap (λ x. record { owner = r.owner; class = x; kind = s.kind; ttl = s.ttl; octets = s.octets }) b
    ∙ ap (λ x. record { owner = r.owner; class = r.class; kind = x; ttl = s.ttl; octets = s.octets }) c
    ∙ ap (λ x. record { owner = r.owner; class = r.class; kind = r.kind; ttl = x; octets = s.octets }) d
    ∙ ap (λ x. record { owner = r.owner; class = r.class; kind = r.kind; ttl = r.ttl; octets = x }) e

pub stay_lowered : (rs : List Record) → AscendsByOwner rs → AllByRecursion StaysLow rs → AreLowered rs rs
stay_lowered rs ascend each = record {
  ascend = ascend;
  same = λ s. (
    λ has. (s, has, record { owner = refl; class = refl; kind = refl; ttl = refl; octets = each_Has StaysLow rs s each has }),
    λ from. subst (Has rs) (sym (record_same from.0 s from.2.owner from.2.class from.2.kind from.2.ttl (lowered_once (names_of from.0.kind from.0.octets) from.0.octets s.octets from.0.octets from.2.octets (each_Has StaysLow rs from.0 each from.1)))) from.1,
  );
}

pub as_octets : (r : Record) (keys : List (Vec ℕ)) → flat_map record_octets (map (λ v. lower_as r v.items) keys) ≡ flat_map (octets_with r) (map (λ v. v.items) keys)
as_octets r [] = refl
as_octets r (k ∷ keys) = ap (λ x. octets_with r k.items ++ x) (as_octets r keys)

has_as : (r s : Record) (keys : List (Vec ℕ)) → Has (map (λ v. lower_as r v.items) keys) s → HasOctets keys s.octets × (s ≡ lower_as r s.octets)
has_as r s [] has = absurd has
has_as r s (k ∷ keys) (inl same) = (inl (ap (λ x. x.octets) same), same ∙ ap (lower_as r) (sym (ap (λ x. x.octets) same)))
has_as r s (k ∷ keys) (inr more) = let on = has_as r s keys more in (inr on.0, on.1)

as_has : (r : Record) (keys : List (Vec ℕ)) (octets : List ℕ) → HasOctets keys octets → Has (map (λ v. lower_as r v.items) keys) (lower_as r octets)
as_has r [] octets has = absurd has
as_has r (k ∷ keys) octets (inl same) = inl (ap (lower_as r) same)
as_has r (k ∷ keys) octets (inr more) = inr (as_has r keys octets more)

-- data in order is records in order
by_data : (r : Record) (a b : List ℕ) → slice_cmp nat_cmp a b ≡ Less → digest_cmp (lower_as r a) (lower_as r b) ≡ Less
by_data r a b less = grind (arith, tied_itself name_cmp-total r.owner, tied_itself nat_cmp_total r.class, tied_itself nat_cmp_total r.kind)

pub in_order : (r : Record) (keys : List (Vec ℕ)) → IsStrictlySortedBy (λ x y. slice_cmp nat_cmp x.items y.items) keys → AscendsByOwner (map (λ v. lower_as r v.items) keys)
unfolding IsStrictlySortedBy
in_order r [] sorted = tt
in_order r (k ∷ keys) sorted = (later keys sorted.0, in_order r keys sorted.1)
  where
    later : (ks : List (Vec ℕ)) → AllByRecursion (λ y. slice_cmp nat_cmp k.items y.items ≡ Less) ks → AllByRecursion (λ s. digest_cmp (lower_as r k.items) s ≡ Less) (map (λ v. lower_as r v.items) ks)
    later [] less = tt
    later (x ∷ ks) less = (by_data r k.items x.items less.0, later ks less.1)

pub sorted_lowered : (first : Record) (rs : List Record) (keys : List (Vec ℕ)) → Has rs first → AreAlike rs → IsStrictlySortedBy (λ x y. slice_cmp nat_cmp x.items y.items) keys → ((octets : List ℕ) → HasOctets keys octets ↔ HasLowered rs octets) → AreLowered rs (map (λ v. lower_as first v.items) keys)
sorted_lowered first rs keys among alike sorted told = record {
  ascend = in_order first keys sorted;
  same = λ s. (there s, back s);
}
  where
    there : (s : Record) → Has (map (λ v. lower_as first v.items) keys) s → (r : Record) × Has rs r × IsLoweredRecord r s
    there s has =
        let on = has_as first s keys has in
        let f = (told s.octets).0 on.0 in
        let like = alike first f.0 among f.1 in
        (f.0, f.1, record { owner = ap (λ x. x.owner) on.1 ∙ like.0; class = ap (λ x. x.class) on.1 ∙ like.1; kind = ap (λ x. x.kind) on.1 ∙ like.2; ttl = ap (λ x. x.ttl) on.1 ∙ like.3; octets = f.2 })

    back : (s : Record) → ((r : Record) × Has rs r × IsLoweredRecord r s) → Has (map (λ v. lower_as first v.items) keys) s
    back s (r, has, low) =
        let like = alike first r among has in
        subst (Has (map (λ v. lower_as first v.items) keys)) (sym (record_same (lower_as first s.octets) s (low.owner ∙ sym like.0) (low.class ∙ sym like.1) (low.kind ∙ sym like.2) (low.ttl ∙ sym like.3) refl)) (as_has first keys s.octets ((told s.octets).1 (r, has, low.octets)))

pub all_short : (rs : List Record) (keys : List (Vec ℕ)) → AllByRecursion IsRecord rs → ((octets : List ℕ) → HasOctets keys octets ↔ HasLowered rs octets) → (octets : List ℕ) → HasOctets keys octets → length octets < 65536
all_short rs keys each told octets has =
    let f = (told octets).0 has in
    let is : IsRecord f.0 = each_Has IsRecord rs f.0 each f.1 in
    let short = is.rdata.octets.short in
    let same = lowered_length (names_of f.0.kind f.0.octets) f.0.octets octets f.2 in
    grind (arith, short, same)
