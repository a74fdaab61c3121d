-- Records that are one but for letters of names in their data.
use Rattle.zone_set.proofs.Common.{◌≡◌, List, [], ◌∷◌, ◌↔◌, ◌⊎◌, refl, sym, ap, ◌∙◌, subst, inl, inr, ⊎_elim, AllByRecursion, Has, IsRecord, IsZone, Record}
use Rattle.zone_set.proofs.Holding.Together.{each_Has}
use Rattle.zone_set.specs.Zone.{Zone}
use Rattle.data_names.proofs.Lowered.{low_of}
use Rattle.data_names.proofs.Once.{lowered_once}
use Rattle.data_names.specs.NamesInData.{IsLoweredRecord, names_in}
use Rattle.data_names.specs.declared.table.FoldedTypes.TheVariants.{Every}
use Rattle.zone_difference.proofs.OneDifference.{Choice, all_same, has_or_not, none_left, same_or_not}
use Rattle.zone_difference.proofs.OneList.{no_changes}
use Rattle.zone_difference.proofs.Without.{found}
use Rattle.zone_difference.specs.Difference.{AreAlike, AreChanges, AreOneFolded, AreOnlyIn, Change, HasEqual, HasFolded, IsDifference, IsPatchedButForLetters, IsPatchedOf, added_of, removed_of}
use Rattle.zone_difference.specs.Walk.{AreWithout}
use Rattle.zone_difference.specs.declared.name_case.NameCase.{NameCase}
use Rattle.zone_difference.specs.declared.name_case.NameCase.TheVariants.{Exact, Folded}

pub folded_of : (r : Record) → IsRecord r → (low : Record) × IsLoweredRecord Every r low
folded_of r is =
    let low = low_of (names_in Every r.kind r.octets) r.octets is.rdata.octets.each in
    (record { owner = r.owner; class = r.class; kind = r.kind; ttl = r.ttl; octets = low.0 }, record { owner = refl; class = refl; kind = refl; ttl = refl; octets = low.1 })

pub one_folded : (r l m : Record) → IsLoweredRecord Every r l → IsLoweredRecord Every r m → l ≡ m
one_folded r l m is iz = all_same l m (is.owner ∙ sym iz.owner, is.kind ∙ sym iz.kind, lowered_once (names_in Every r.kind r.octets) r.octets l.octets m.octets is.octets iz.octets) (is.class ∙ sym iz.class) (is.ttl ∙ sym iz.ttl)

pub alike_itself : (r : Record) → IsRecord r → AreAlike r r
alike_itself r is = let low = folded_of r is in (low.0, low.1, low.1)

pub alike_turned : (r s : Record) → AreAlike r s → AreAlike s r
alike_turned r s (low, is, iz) = (low, iz, is)

by_folded : (r s l m : Record) → IsLoweredRecord Every r l → IsLoweredRecord Every s m → Choice (l ≡ m) → Choice (AreAlike r s)
by_folded r s l m is iz (inl same) = inl (l, is, subst (IsLoweredRecord Every s) (sym same) iz)
by_folded r s l m is iz (inr other) = inr (λ (low, a, b). other (one_folded r l low is a ∙ one_folded s low m b iz))

alike_or_not : (r s : Record) → IsRecord r → IsRecord s → Choice (AreAlike r s)
alike_or_not r s is iz =
    let l = folded_of r is in
    let m = folded_of s iz in
    by_folded r s l.0 m.0 l.1 m.1 (same_or_not l.0 m.0)

alike_first : (s : Record) (others : List Record) (r : Record) → Choice (AreAlike r s) → Choice (HasEqual Folded others r) → Choice (HasEqual Folded (s ∷ others) r)
alike_first s others r (inl alike) more = inl (s, inl refl, alike)
alike_first s others r (inr other) (inl (t, has, alike)) = inl (t, inr has, alike)
alike_first s others r (inr other) (inr none) = inr (λ (t, has, alike). ⊎_elim (λ (same : t ≡ s). other (subst (AreAlike r) same alike)) (λ more. none (t, more, alike)) has)

alike_among : (others : List Record) → AllByRecursion IsRecord others → (r : Record) → IsRecord r → Choice (HasEqual Folded others r)
alike_among [] each r is = inr (λ h. absurd h.1)
alike_among (s ∷ others) each r is = alike_first s others r (alike_or_not r s is each.0) (alike_among others each.1 r is)

pub equal_or_not : (case : NameCase) (others : List Record) → AllByRecursion IsRecord others → (r : Record) → IsRecord r → Choice (HasEqual case others r)
equal_or_not Exact others each r is = has_or_not others r
equal_or_not Folded others each r is = alike_among others each r is

pub found_lacking : (case : NameCase) (records others : List Record) → AllByRecursion IsRecord records → AllByRecursion IsRecord others → (only : List Record) × AreWithout (HasEqual case others) records only
found_lacking case records others each each_other = found (HasEqual case others) records (λ r has. equal_or_not case others each_other r (each_Has IsRecord records r each has))

-- ---- the laws

stays_like : (records others removed : List Record) (r : Record) → AreOnlyIn Folded records others removed → Has records r → (Has removed r → ⊥) → Choice (HasEqual Folded others r) → HasEqual Folded others r
stays_like records others removed r only has kept (inl there) = there
stays_like records others removed r only has kept (inr none) = absurd (kept ((only.are r).1 (has, none)))

comes_like : (records others removed added : List Record) (s : Record) → IsDifference Folded records others removed added → IsRecord s → Has others s → Choice (HasEqual Folded records s) → (r : Record) × IsPatchedOf records removed added r × AreAlike s r
comes_like records others removed added s d is has (inl (r, there, alike)) = (r, inl (there, λ gone. ((d.gone.are r).0 gone).1 (s, has, alike_turned s r alike)), alike)
comes_like records others removed added s d is has (inr none) = (s, inr ((d.come.are s).1 (has, none)), alike_itself s is)

pub patched_but_for_letters : (z w : Zone) (removed added : List Record) → IsZone z → IsZone w → IsDifference Folded z.records w.records removed added → IsPatchedButForLetters z.records removed added w.records
patched_but_for_letters z w removed added is too d = record {
  there = λ r patched. ⊎_elim
      (λ (has, kept). stays_like z.records w.records removed r d.gone has kept (equal_or_not Folded w.records too.compatible.each r (each_Has IsRecord z.records r is.compatible.each has)))
      (λ new. let has = ((d.come.are r).0 new).0 in (r, has, alike_itself r (each_Has IsRecord w.records r too.compatible.each has))) patched;
  back = λ s has. let own = each_Has IsRecord w.records s too.compatible.each has in
      comes_like z.records w.records removed added s d own has (equal_or_not Folded z.records is.compatible.each s own);
}

-- a record's folded form is one of the others', where it has an equal there
folded_there : (records others : List Record) → AllByRecursion IsRecord records → AllByRecursion IsRecord others → AreOnlyIn Folded records others [] → (low : Record) → HasFolded records low → HasFolded others low
folded_there records others each each_other only low (r, has, is) =
    let (s, there, (l, a, b)) = stays_like records others [] r only has (λ none. none) (equal_or_not Folded others each_other r (each_Has IsRecord records r each has)) in
    (s, there, subst (IsLoweredRecord Every s) (one_folded r l low a is) b)

none_alone : (records others removed : List Record) → AllByRecursion IsRecord records → AreOneFolded records others → AreOnlyIn Folded records others removed → (r : Record) → Has removed r → ⊥
none_alone records others removed each one only r gone =
    let both = (only.are r).0 gone in
    let low = folded_of r (each_Has IsRecord records r each both.0) in
    let (s, there, is) = (one low.0).0 (r, both.0, low.1) in
    both.1 (s, there, (low.0, low.1, is))

pub none_of_one_folded : (z w : Zone) (changes : List Change) → IsZone z → IsZone w → AreChanges Folded z.records w.records changes → (changes ≡ []) ↔ AreOneFolded z.records w.records
none_of_one_folded z w changes is too are = (
  λ none.
      let gone = subst (AreOnlyIn Folded z.records w.records) (ap removed_of none) are.difference.gone in
      let come = subst (AreOnlyIn Folded w.records z.records) (ap added_of none) are.difference.come in
      λ low. (
        folded_there z.records w.records is.compatible.each too.compatible.each gone low,
        folded_there w.records z.records too.compatible.each is.compatible.each come low,
      ),
  λ one. no_changes changes
      (none_left (removed_of changes) (none_alone z.records w.records (removed_of changes) is.compatible.each one are.difference.gone))
      (none_left (added_of changes) (none_alone w.records z.records (added_of changes) too.compatible.each (λ low. ((one low).1, (one low).0)) are.difference.come)),
)
