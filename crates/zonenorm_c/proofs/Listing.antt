-- The records of which another zone has no equal are listed.
use Rattle.std.proofs.Common.{◌≡◌, ◌≤◌, ◌<◌, ◌+◌, ◌==◌, if◌then◌else◌, Bool, ℕ, suc, zero, List, [], ◌∷◌, ◌++◌, Option, Some, None, append-nil, append_assoc, ap, arith, length, min, ne_eqb, refl, sym, ◌∙◌, subst}
use Rattle.std.specs.List.{flat_map}
use Rattle.zone_difference.specs.Difference.{AreOnlyIn}
use Rattle.zone_difference.specs.Lacked.{AreLacking, AreNext, left_in, left_with}
use Rattle.zone_difference.specs.declared.lacking.Lacking.{Lacking}
use Rattle.zone_difference.specs.declared.name_case.NameCase.{NameCase}
use Rattle.zone_rdata.specs.Lent.{record_of}
use Rattle.zone_rdata.specs.Record.{Record}
use Rattle.zone_rdata.specs.declared.lent.RrRef.{RrRef}
use Rattle.zonenorm_c.specs.Difference.{difference_status, form_octets}
use Rattle.zonenorm_c.specs.declared.differing.RecordForm.{RecordForm}

-- with those to come the text and the count are those of all records, counted up to the most
pub record IsListing (most : ℕ) (case : NameCase) (form : RecordForm) (records others : List Record) (l : Lacking) (text : List ℕ) (count : ℕ) : Type 0 where
  pub all : List Record
  pub only : List Record
  pub left : AreLacking case others l only
  pub are : AreOnlyIn case records others all
  pub text_is : text ++ flat_map (form_octets form) only ≡ flat_map (form_octets form) all
  pub count_is : min (count + length only) most ≡ min (length all) most
  pub small : count ≤ most

abbrev pub IsList : ℕ → NameCase → RecordForm → List Record → List Record → List ℕ → ℕ → Type 0
IsList most case form records others text count =
    (only : List Record) × AreOnlyIn case records others only × (text ≡ flat_map (form_octets form) only) × (count ≡ min (length only) most)

none_counted : (most count n : ℕ) → count ≡ 0 → min (count + n) most ≡ min n most
none_counted most count n is = omega (arith, is)

pub begins : (most : ℕ) (case : NameCase) (form : RecordForm) (records others : List Record) (l : Lacking) (text : List ℕ) (count : ℕ) → ((only : List Record) × AreLacking case others l only × AreOnlyIn case records others only) → text ≡ [] → count ≡ 0 → IsListing most case form records others l text count
begins most case form records others l text count (only, left, are) none zero_is = record {
  all = only;
  only = only;
  left = left;
  are = are;
  text_is = ap (λ t. t ++ flat_map (form_octets form) only) none;
  count_is = none_counted most count (length only) zero_is;
  small = omega (arith, zero_is);
}

more_counted : (most count count' n : ℕ) → count ≤ most → count' ≡ min (count + 1) most → min (count' + n) most ≡ min (count + suc n) most
more_counted most count count' n small is = omega (arith, is, small)

at_most : (most count count' : ℕ) → count' ≡ min (count + 1) most → count' ≤ most
at_most most count count' is = omega (arith, is)

all_counted : (most count n : ℕ) → count ≤ most → min (count + 0) most ≡ min n most → count ≡ min n most
all_counted most count n small is = omega (arith, is, small)

module _ (most : ℕ) (case : NameCase) (form : RecordForm) (records others : List Record) (l l' : Lacking) (text text' : List ℕ) (count count' : ℕ) (w : IsListing most case form records others l text count) where
  pub listed_one : (rr : RrRef) → AreNext case others (Some rr) l' w.only → text' ≡ text ++ form_octets form (record_of rr) → count' ≡ min (count + 1) most → IsListing most case form records others l' text' count'
  listed_one rr (more, is, left) grown counted = record {
    all = w.all;
    only = more;
    left = left;
    are = w.are;
    text_is = ap (λ t. t ++ flat_map (form_octets form) more) grown ∙ append_assoc text (form_octets form (record_of rr)) (flat_map (form_octets form) more) ∙ ap (λ o. text ++ flat_map (form_octets form) o) (sym is) ∙ w.text_is;
    count_is = more_counted most count count' (length more) w.small counted ∙ ap (λ o. min (count + length o) most) (sym is) ∙ w.count_is;
    small = at_most most count count' counted;
  }

  pub ended : AreNext case others None l' w.only → IsList most case form records others text count
  ended none = (
    w.all,
    w.are,
    sym (append-nil text) ∙ ap (λ o. text ++ flat_map (form_octets form) o) (sym none) ∙ w.text_is,
    all_counted most count (length w.all) w.small (ap (λ o. min (count + length o) most) (sym none) ∙ w.count_is),
  )

-- fewer are left
pub fewer_left : (head : Option RrRef) (rr : RrRef) (l l' : Lacking) → head ≡ Some rr → left_with head l' ≤ left_in l → left_in l' < left_in l
fewer_left (Some r) rr l l' is fewer = fewer
fewer_left None rr l l' is fewer = absurd cc

abbrev by_zero : Bool → ℕ
by_zero b = if b then 0 else 1

some_status : (count one : ℕ) → one ≡ 1 → 1 ≤ count → (if count == 0 then 0 else 1) ≡ one
some_status count one is some = ap by_zero (ne_eqb count 0 (λ none. omega (arith, none, some))) ∙ sym is

-- the status and the number of both
pub status_is : (most : ℕ) (gone come : List Record) (count : ℕ) → 1 ≤ most → count ≡ min (length gone + length come) most → (if count == 0 then 0 else 1) ≡ difference_status gone come
status_is most [] [] count some is = ap (λ n. if n == 0 then 0 else 1) (let none : count ≡ 0 = omega (arith, is) in none)
status_is most (r ∷ gone) come count some is = some_status count 1 refl (omega (arith, is, some))
status_is most [] (r ∷ come) count some is = some_status count 1 refl (omega (arith, is, some))

pub both_counted : (most m n a b count : ℕ) → a ≡ min m most → b ≡ min n most → count ≡ min (a + b) most → count ≡ min (m + n) most
both_counted most m n a b count is too all = omega (arith, is, too, all)
