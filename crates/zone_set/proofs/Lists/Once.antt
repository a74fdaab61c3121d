-- Records of which each is listed once, told by the octets that keep them.
use Rattle.std.specs.BTreeMap.{is_at}
use Rattle.std.specs.BTreeSet as sorted
use Rattle.std.specs.BTreeSet.{BTreeSet}
use Rattle.std.specs.List.{list_any}
use Rattle.std.specs.Ordering.{is_eq}
use Rattle.std.specs.Prelude.{cond}
use Rattle.zone_set.proofs.Common.{AllByRecursion, AllByRecursion-append, Bool, Bor, Entry, Equal, Has, IsRecord, IsTrue, KeepsList, List, Ordering, Place, Placed, Record, [], all_records, ap, ap₂, arith, drop, drop_at, exact_bytes, false, false≢true, flat_map, inl, inr, length, length-append, listed, map-append, nat_cmp, nat_list_cmp_total, not, placed_at, read_record, records_of, refl, slice_cmp, span, stored, subst, sym, take, take_at, tied_itself, true, ⊎_elim, ℕ, ◌++◌, ◌∙◌, ◌∷◌, ◌≡◌, ◌⊎◌, ◌↔◌, ◌≤◌}
use Rattle.zone_set.proofs.Lists.Thinning.{HasThinned, HasThinned-again, HasThinned-first, Tells-itself}
use Rattle.zone_set.proofs.Ordering.Between.{Has-append}
use Rattle.zone_set.proofs.Storage.Kept.{spanned}
use Rattle.zone_set.proofs.Storage.Storing.{read_stored}
use Rattle.zone_set.specs.Bounded.{AreDifferent}

-- the order of keys
abbrev pub by_octets : Bor (List ℕ) → Bor (List ℕ) → Ordering
by_octets x y = slice_cmp nat_cmp x.now y.now

-- a record that these octets keep is listed
abbrev pub HasKept : List Record → List ℕ → Type 0
HasKept records octets = (r : Record) × Has records r × (octets ≡ stored r)

-- a record of a class
abbrev pub IsOf : ℕ → Record → Type 0
IsOf class r = IsRecord r × (r.class ≡ class)

-- some first records were listed or are repeats, those that are listed differ, and the octets of each of
-- these were seen; the octets that are left keep the others
pub record HasOnce (placed kept : List Placed) (records : List Record) (places : List Place) (left : List ℕ) (seen : BTreeSet (Bor (List ℕ))) : Type 0 where
  pub thinned : HasThinned placed kept records places
  pub differ : AreDifferent (records_of kept)
  pub class : ℕ
  pub others : AllByRecursion (IsOf class) records
  pub each : AllByRecursion (IsOf class) (records_of kept)
  pub octets : left ≡ flat_map stored records
  pub known : (q : Bor (List ℕ)) → IsTrue (sorted.contains by_octets seen q) ↔ HasKept (records_of kept) q.now

pub HasOnce-start : (placed : List Placed) (records : List Record) (places : List Place) (class : ℕ) (left : List ℕ) (seen : BTreeSet (Bor (List ℕ))) → HasThinned placed [] records places → AllByRecursion (IsOf class) records → left ≡ flat_map stored records → seen.keys ≡ [] → HasOnce placed [] records places left seen
HasOnce-start placed records places class left seen thinned each kept none = record {
  thinned = thinned;
  differ = tt;
  class = class;
  others = each;
  each = tt;
  octets = kept;
  known = λ q. (λ holds. absurd (false≢true (sym (ap (λ ks. list_any (is_at (by_octets q)) ks) none) ∙ holds)), λ (r, has, is). absurd has);
}

differ_more : (records : List Record) (r : Record) → AreDifferent records → (Has records r → ⊥) → AreDifferent (records ++ r ∷ [])
differ_more [] r differ new = (λ none. none, tt)
differ_more (s ∷ records) r differ new = (
  λ has. ⊎_elim differ.0 (λ last. ⊎_elim (λ same. new (inl (sym same))) (λ none. none) last) ((Has-append records (r ∷ []) s).0 has),
  differ_more records r differ.1 (λ has. new (inr has)),
)

-- the octets of a record that is listed are those of one
kept_more : (records : List Record) (r : Record) (octets : List ℕ) → HasKept (records ++ r ∷ []) octets ↔ ((octets ≡ stored r) ⊎ HasKept records octets)
kept_more records r octets = (
  λ (s, has, is). ⊎_elim (λ early. inr (s, early, is)) (λ last. ⊎_elim (λ same. inl (is ∙ ap stored same)) (λ none. absurd none) last) ((Has-append records (r ∷ []) s).0 has),
  ⊎_elim (λ is. (r, (Has-append records (r ∷ []) r).1 (inr (inl refl)), is)) (λ (s, has, is). (s, (Has-append records (r ∷ []) s).1 (inl has), is)),
)

same_octets : (r s : Record) → IsRecord r → IsRecord s → r.class ≡ s.class → stored r ≡ stored s → r ≡ s
same_octets r s is_r is_s one same = sym (read_stored r [] is_r) ∙ ap₂ (λ k l. read_record k (l ++ [])) one same ∙ read_stored s [] is_s

-- ---- one more key

module _ (seen after : BTreeSet (Bor (List ℕ))) (key : Bor (List ℕ)) (updates : sorted.Updates by_octets seen after key true) where
  tied : (q : Bor (List ℕ)) → (key.now ≡ q.now → is_at (by_octets key) q ≡ true) × (is_at (by_octets key) q ≡ true → key.now ≡ q.now)
  tied q = (
    λ same. ap is_eq (ap (slice_cmp nat_cmp key.now) (sym same) ∙ tied_itself nat_list_cmp_total key.now),
    λ is. exact_bytes key.now q.now (equal_from (slice_cmp nat_cmp key.now q.now) is),
  )
    where
      equal_from : (o : Ordering) → is_eq o ≡ true → o ≡ Equal
      equal_from o is = grind arith

  known_after : (Old New : List ℕ → Type 0) → ((octets : List ℕ) → New octets ↔ ((octets ≡ key.now) ⊎ Old octets)) → ((q : Bor (List ℕ)) → IsTrue (sorted.contains by_octets seen q) ↔ Old q.now) → (q : Bor (List ℕ)) → IsTrue (sorted.contains by_octets after q) ↔ New q.now
  known_after Old New more known q = by_case (is_at (by_octets key) q) refl
    where
      by_case : (b : Bool) → is_at (by_octets key) q ≡ b → IsTrue (sorted.contains by_octets after q) ↔ New q.now
      by_case true is = (λ holds. (more q.now).1 (inl (sym ((tied q).1 is))), λ new. updates.0 q ∙ ap (λ b. cond b true (sorted.contains by_octets seen q)) is)
      by_case false is =
          let was : sorted.contains by_octets after q ≡ sorted.contains by_octets seen q = updates.0 q ∙ ap (λ b. cond b true (sorted.contains by_octets seen q)) is in (
            λ holds. (more q.now).1 (inr ((known q).0 (sym was ∙ holds))),
            λ new. ⊎_elim (λ same. absurd (false≢true (sym is ∙ (tied q).0 (sym same)))) (λ old. was ∙ (known q).1 old) ((more q.now).0 new),
          )

-- ---- the next record

module _ (placed kept : List Placed) (r : Record) (place : Place) (records : List Record) (places : List Place) (left : List ℕ) (seen : BTreeSet (Bor (List ℕ))) (had : HasOnce placed kept (r ∷ records) (place ∷ places) left seen) where
  abbrev Next : Placed
  Next = record { rr = r; place = place }

  pub next_len : length (span left 0) ≡ length (stored r)
  next_len = spanned r (flat_map stored records) had.others.0.0 refl had.octets

  pub next_fits : length (span left 0) ≤ length left
  next_fits = omega (arith, next_len, ap length had.octets, length-append (stored r) (flat_map stored records))

  key_is : (key : Bor (List ℕ)) (n : ℕ) → n ≡ length (span left 0) → key.now ≡ take n left → key.now ≡ stored r
  key_is key n counts is = is ∙ ap₂ take (counts ∙ next_len) had.octets ∙ take_at (stored r) (flat_map stored records) (length (stored r)) refl

  rest_is : (rest : List ℕ) (n : ℕ) → n ≡ length (span left 0) → rest ≡ drop n left → rest ≡ flat_map stored records
  rest_is rest n counts is = is ∙ ap₂ drop (counts ∙ next_len) had.octets ∙ drop_at (stored r) (flat_map stored records) (length (stored r)) refl

  pub one_class : AllByRecursion (λ (p : Placed). p.rr.class ≡ r.class) kept
  one_class = each kept had.each
    where
      each : (ps : List Placed) → AllByRecursion (IsOf had.class) (records_of ps) → AllByRecursion (λ (p : Placed). p.rr.class ≡ r.class) ps
      each [] all = tt
      each (p ∷ ps) all = (all.0.1 ∙ sym had.others.0.1, each ps all.1)

  module _ (after : BTreeSet (Bor (List ℕ))) (key : Bor (List ℕ)) (n : ℕ) (counts : n ≡ length (span left 0)) (first : key.now ≡ take n left) (rest : List ℕ) (others : rest ≡ drop n left) (updates : sorted.Updates by_octets seen after key true) where
    -- it wasn't seen
    pub HasOnce-first : (added : Bool) → added ≡ not (sorted.contains by_octets seen key) → added ≡ true → (new : List Placed) → new ≡ kept ++ Next ∷ [] → HasOnce placed new records places rest after
    HasOnce-first added is fresh new grown =
        let own = key_is key n counts first in
        let unseen : sorted.contains by_octets seen key ≡ true → ⊥ = λ was. false≢true (sym (is ∙ ap not was) ∙ fresh) in
        let rs = records_of kept in
        let more : rs ++ r ∷ [] ≡ records_of new = sym (map-append (λ (p : Placed). p.rr) kept (Next ∷ [])) ∙ ap records_of (sym grown) in
        record {
          thinned = subst (λ ps. HasThinned placed ps records places) (sym grown) (HasThinned-first placed kept r place records places had.thinned);
          differ = subst AreDifferent more (differ_more rs r had.differ (λ has. unseen ((had.known key).1 (r, has, own))));
          class = had.class;
          others = had.others.1;
          each = subst (AllByRecursion (IsOf had.class)) more (AllByRecursion-append (IsOf had.class) rs (r ∷ []) had.each (had.others.0, tt));
          octets = rest_is rest n counts others;
          known = subst (λ l. (q : Bor (List ℕ)) → IsTrue (sorted.contains by_octets after q) ↔ HasKept l q.now) more
              (known_after seen after key updates (HasKept rs) (HasKept (rs ++ r ∷ [])) (λ octets. subst (λ k. HasKept (rs ++ r ∷ []) octets ↔ ((octets ≡ k) ⊎ HasKept rs octets)) (sym own) (kept_more rs r octets)) had.known);
        }

    -- or it was
    pub HasOnce-again : (added : Bool) → added ≡ not (sorted.contains by_octets seen key) → added ≡ false → HasOnce placed kept records places rest after
    HasOnce-again added is seen_before =
        let own = key_is key n counts first in
        let (s, has, same) = (had.known key).0 (was (sorted.contains by_octets seen key) (sym is ∙ seen_before)) in
        let like = each_of (records_of kept) had.each s has in
        let one : r ≡ s = same_octets r s had.others.0.0 like.0 (had.others.0.1 ∙ sym like.1) (sym own ∙ same) in
        record {
          thinned = HasThinned-again placed kept r place records places had.thinned (subst (Has (records_of kept)) (sym one) has);
          differ = had.differ;
          class = had.class;
          others = had.others.1;
          each = had.each;
          octets = rest_is rest n counts others;
          known = known_after seen after key updates (HasKept (records_of kept)) (HasKept (records_of kept)) (λ octets. (inr, ⊎_elim (λ is_key. (s, has, is_key ∙ same)) (λ old. old))) had.known;
        }
      where
        was : (b : Bool) → not b ≡ false → b ≡ true
        was true is = refl
        was false is = absurd (false≢true (sym is))

        each_of : (rs : List Record) → AllByRecursion (IsOf had.class) rs → (s : Record) → Has rs s → IsOf had.class s
        each_of [] each s has = absurd has
        each_of (t ∷ rs) each s (inl same) = subst (IsOf had.class) (sym same) each.0
        each_of (t ∷ rs) each s (inr more) = each_of rs each.1 s more

-- the records that octets keep
pub of_kept : (class : ℕ) (records : List Record) → AllByRecursion (λ r. r.class ≡ class) records → AllByRecursion IsRecord records → AllByRecursion (IsOf class) records
of_kept class [] classes whole = tt
of_kept class (r ∷ records) classes whole = ((whole.0, classes.0), of_kept class records classes.1 whole.1)

-- none was listed yet
pub HasOnce-begin : (class : ℕ) (base : List (List ℕ)) (octets : List ℕ) (es : List Entry) (held : List Place) → KeepsList class base octets es held → (placed list : List Placed) (records : List Record) (places : List Place) (left : List ℕ) (seen : BTreeSet (Bor (List ℕ))) → listed class octets es held ≡ placed → list ≡ [] → records ≡ all_records class octets es → places ≡ held → left ≡ octets → seen.keys ≡ [] → HasOnce placed list records places left seen
HasOnce-begin class base octets es held keeps placed list records places left seen view none is_records is_places is_left empty =
    subst (λ ps. HasOnce placed ps records places left seen) (sym none)
    (HasOnce-start placed records places class left seen
    (record { taken = []; parts = sym view ∙ ap₂ placed_at (sym is_records) (sym is_places); tells = Tells-itself [] })
    (subst (AllByRecursion (IsOf class)) (sym is_records) (of_kept class (all_records class octets es) keeps.kept.classes keeps.kept.whole))
    (is_left ∙ keeps.kept.kept ∙ ap (flat_map stored) (sym is_records))
    empty)
