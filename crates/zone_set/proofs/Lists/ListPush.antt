-- Records that are listed with their places, and one more of them.
use Rattle.zone_set.proofs.Common.{AllByRecursion, AllByRecursion-append, AreKept, Bool, Entry, IsEntry, IsHint, IsRecord, IsTrue, KeepsList, List, OtherClass, Place, Placed, Record, [], all_records, ap, append-nil, ap₂, arith, entry_record, eq-eqb, eqb-true, false, if◌then◌else◌, inl, inr, length, length-append, length-map, listed, map-append, ne_eqb, not, placed_at, records_of, refl, stored, subst, sym, true, ⊎_elim, ℕ, ◌++◌, ◌==◌, ◌↔◌, ◌∙◌, ◌∷◌, ◌≡◌, ◌≢◌, ◌⊎◌}
use Rattle.std.proofs.lemmas.Grind.{flat_map-append}
use Rattle.zone_set.proofs.Holding.Adding.{classes, other_class_told}
use Rattle.zone_set.proofs.Storage.Storing.{each_kept, records_kept, entry_appended, record_appended}

-- ---- records and their places

-- what holds of each record
pub each_placed : (P : Record → Type 0) (rs : List Record) (ps : List Place) → AllByRecursion P rs → AllByRecursion (λ p. P p.rr) (placed_at rs ps)
each_placed P [] ps each = tt
each_placed P (r ∷ rs) [] each = tt
each_placed P (r ∷ rs) (p ∷ ps) each = (each.0, each_placed P rs ps each.1)

-- where records or places end, those before are all
pub all_taken : (placed taken : List Placed) (records : List Record) (places : List Place) → placed ≡ taken ++ placed_at records places → (records ≡ []) ⊎ (places ≡ []) → taken ≡ placed
all_taken placed taken records places parts none = sym (parts ∙ ap (λ ps. taken ++ ps) (left records places none) ∙ append-nil taken)
  where
    left : (rs : List Record) (ps : List Place) → (rs ≡ []) ⊎ (ps ≡ []) → placed_at rs ps ≡ []
    left [] ps none = refl
    left (r ∷ rs) [] none = refl
    left (r ∷ rs) (p ∷ ps) none = grind arith

records_placed : (rs : List Record) (ps : List Place) → length ps ≡ length rs → records_of (placed_at rs ps) ≡ rs
records_placed [] ps same = refl
records_placed (r ∷ rs) [] same = cc
records_placed (r ∷ rs) (p ∷ ps) same = ap (λ l. r ∷ l) (records_placed rs ps (omega (arith, same)))

-- one more of each is the last
placed_push : (rs : List Record) (ps : List Place) (r : Record) (p : Place) → length ps ≡ length rs → placed_at (rs ++ r ∷ []) (ps ++ p ∷ []) ≡ placed_at rs ps ++ record { rr = r; place = p } ∷ []
placed_push [] [] r p same = refl
placed_push [] (q ∷ ps) r p same = cc
placed_push (s ∷ rs) [] r p same = cc
placed_push (s ∷ rs) (q ∷ ps) r p same = ap (λ l. record { rr = s; place = q } ∷ l) (placed_push rs ps r p (omega (arith, same)))

-- ---- what is listed

module _ {class : ℕ} {base : List (List ℕ)} {octets : List ℕ} {es : List Entry} {ps : List Place} (keeps : KeepsList class base octets es ps) where
  counts : length ps ≡ length (all_records class octets es)
  counts = keeps.count ∙ sym (length-map es (entry_record class octets))

  pub records_listed : records_of (listed class octets es ps) ≡ all_records class octets es
  records_listed = records_placed (all_records class octets es) ps counts

  -- whether the class of what is listed is that of a record
  pub other_listed : (told : Bool) (r : Record) → es ≢ [] → told ≡ not (class == r.class) → IsTrue told → OtherClass (records_of (listed class octets es ps)) r
  other_listed told r some is other = rw records_listed ((other_class_told told class octets es r some is).0 other)

-- whether no entry is listed
pub none_told : (told : Bool) (count : ℕ) (es : List Entry) → told ≡ (count == 0) → count ≡ length es → IsTrue told ↔ (es ≡ [])
none_told told count [] is counts = (λ yes. refl, λ none. grind (arith, is, counts, eq-eqb))
none_told told count (e ∷ es) is counts = (λ yes. grind (arith, is, counts, eqb-true), λ none. grind arith)

class_told : (told : Bool) (class own : ℕ) → told ≡ not (class == own) → IsTrue told ⊎ (class ≡ own)
class_told told class own is = grind (arith, eq-eqb, ne_eqb)

pub same_listed : (told : Bool) (class own : ℕ) (octets : List ℕ) (es : List Entry) (ps : List Place) → told ≡ not (class == own) → IsTrue told ⊎ AllByRecursion (λ p. p.rr.class ≡ own) (listed class octets es ps)
same_listed told class own octets es ps is =
    ⊎_elim (λ other. inl other) (λ same. inr (each_placed (λ r. r.class ≡ own) (all_records class octets es) ps (subst (λ k. AllByRecursion (λ r. r.class ≡ k) (all_records class octets es)) same (classes class octets es)))) (class_told told class own is)

-- what is kept with class and base as the first record decides them
pub record Decided (class kind_of : ℕ) (base : List (List ℕ)) (octets : List ℕ) (es : List Entry) (ps : List Place) (placed : List Placed) : Type 0 where
  pub keeps : KeepsList class base octets es ps
  pub same : listed class octets es ps ≡ placed
  pub own : class ≡ kind_of

pub decided : (class now own : ℕ) (base name owner : List (List ℕ)) (octets : List ℕ) (es : List Entry) (ps : List Place) (b : Bool) → (IsTrue b ↔ (es ≡ [])) → now ≡ (if b then own else class) → name ≡ (if b then owner else base) → AllByRecursion (λ p. p.rr.class ≡ own) (listed class octets es ps) → KeepsList class base octets es ps → Decided now own name octets es ps (listed class octets es ps)
decided class now own base name owner octets [] ps true is is_class is_base all keeps = record { keeps = record { each = tt; kept = record { classes = tt; whole = tt; kept = keeps.kept.kept }; count = keeps.count }; same = refl; own = is_class }
decided class now own base name owner octets [] ps false is is_class is_base all keeps = let no : false ≡ true = is.1 refl in cc
decided class now own base name owner octets (e ∷ es) ps true is is_class is_base all keeps = let no : e ∷ es ≡ [] = is.0 refl in cc
decided class now own base name owner octets (e ∷ es) [] false is is_class is_base all keeps = let no = keeps.count in cc
decided class now own base name owner octets (e ∷ es) (p ∷ ps) false is is_class is_base all keeps = record {
  keeps = rw (is_class, is_base) keeps;
  same = ap (λ k. listed k octets (e ∷ es) (p ∷ ps)) is_class;
  own = is_class ∙ all.0;
}

module _ (r : Record) (whole : IsRecord r) {base : List (List ℕ)} {octets : List ℕ} {es : List Entry} {ps : List Place} (e : Entry) (p : Place) (keeps : KeepsList r.class base octets es ps) (at : e.at ≡ length octets) (hinted : IsHint base r.owner r.kind e.hint) where
  abbrev Now : List ℕ
  Now = octets ++ stored r

  abbrev Old : List Record
  Old = all_records r.class octets es

  all_more : all_records r.class Now (es ++ e ∷ []) ≡ Old ++ r ∷ []
  all_more =
      map-append (entry_record r.class Now) es (e ∷ [])
      ∙ ap₂ (λ l s. l ++ s ∷ []) (records_kept r.class octets (stored r) base es keeps.each) (record_appended octets r whole e at)

  pub listed_more : listed r.class Now (es ++ e ∷ []) (ps ++ p ∷ []) ≡ listed r.class octets es ps ++ record { rr = r; place = p } ∷ []
  listed_more = ap (λ rs. placed_at rs (ps ++ p ∷ [])) all_more ∙ placed_push Old ps r p (counts keeps)

  pub KeepsList-more : KeepsList r.class base Now (es ++ e ∷ []) (ps ++ p ∷ [])
  KeepsList-more = record {
    each = AllByRecursion-append (IsEntry base r.class Now) es (e ∷ []) (each_kept r.class octets (stored r) base es keeps.each) (entry_appended octets r whole e at base hinted, tt);
    kept = subst (AreKept r.class Now) (sym all_more) (record {
      classes = AllByRecursion-append (λ s. s.class ≡ r.class) Old (r ∷ []) keeps.kept.classes (refl, tt);
      whole = AllByRecursion-append IsRecord Old (r ∷ []) keeps.kept.whole (whole, tt);
      kept = ap₂ (λ l m. l ++ m) keeps.kept.kept (sym (append-nil (stored r))) ∙ sym (flat_map-append stored Old (r ∷ []));
    });
    count = omega (arith, keeps.count, length-append ps (p ∷ []), length-append es (e ∷ []));
  }
