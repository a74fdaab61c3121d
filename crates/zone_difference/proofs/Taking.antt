-- The next change is taken.
use Rattle.zone_set.proofs.Common.{◌≡◌, suc, List, [], ◌∷◌, MatchOption, Option, None, Some, refl, sym, subst, Record, record_of}
use Rattle.zone_rdata.specs.declared.lent.RrRef.{RrRef}
use Rattle.zone_difference.proofs.Rrsets.{other_goes}
use Rattle.zone_difference.specs.Difference.{GoesBefore, addition, removal}
use Rattle.zone_difference.specs.Lacked.{AreLacking, AreNext, left_in, left_with}
use Rattle.zone_difference.specs.Left.{AreLeft, IsRemovalFirst, TakesFirst}
use Rattle.zone_difference.specs.Walk.{OnFirst}
use Rattle.zone_difference.specs.declared.changes.Changes.{Changes}
use Rattle.zone_difference.specs.declared.lacking.Lacking.{Lacking}
use Rattle.zone_difference.specs.declared.name_case.NameCase.{NameCase}

-- what holds of a value that was taken, and where there is none
module _ {A : Type 0} (N : Type 0) (S : A → Type 0) where
  pub some_taken : (found : Option A) (value : A) → found ≡ Some value → MatchOption found N S → S value
  some_taken found value is taken = subst (λ o. MatchOption o N S) is taken

  pub none_taken : (found : Option A) → found ≡ None → MatchOption found N S → N
  none_taken found is taken = subst (λ o. MatchOption o N S) is taken

-- the records that follow the one that was taken
abbrev Following : NameCase → List Record → Lacking → RrRef → List Record → Type 0
Following case all l rr only = (more : List Record) × (only ≡ record_of rr ∷ more) × AreLacking case all l more

pub following : (case : NameCase) (all only : List Record) (l : Lacking) (head : Option RrRef) (rr : RrRef) → head ≡ Some rr → AreNext case all head l only → Following case all l rr only
following case all only l head rr is next = subst (λ h. AreNext case all h l only) is next

pub none_following : (case : NameCase) (all only : List Record) (l : Lacking) (head : Option RrRef) → head ≡ None → AreNext case all head l only → only ≡ []
none_following case all only l head is next = subst (λ h. AreNext case all h l only) is next

pub left_more : (l : Lacking) (head : Option RrRef) (rr : RrRef) → head ≡ Some rr → left_with head l ≡ suc (left_in l)
left_more l (Some r) rr is = refl
left_more l None rr is = absurd cc

-- the first that comes, if any, comes after the one that goes
goes_first : (case : NameCase) (all come : List Record) (l : Lacking) (gone : RrRef) (head : Option RrRef) → IsRemovalFirst (Some gone) head → AreNext case all head l come → OnFirst (λ s. GoesBefore (removal (record_of gone)) (addition s)) come
goes_first case all come l gone None first next = subst (OnFirst (λ s. GoesBefore (removal (record_of gone)) (addition s))) (sym next) tt
goes_first case all come l gone (Some a) first next = subst (OnFirst (λ s. GoesBefore (removal (record_of gone)) (addition s))) (sym next.1) first

comes_first : (case : NameCase) (all gone : List Record) (l : Lacking) (come : RrRef) (head : Option RrRef) → (IsRemovalFirst head (Some come) → ⊥) → AreNext case all head l gone → OnFirst (λ r. GoesBefore (addition (record_of come)) (removal r)) gone
comes_first case all gone l come None never next = subst (OnFirst (λ r. GoesBefore (addition (record_of come)) (removal r))) (sym next) tt
comes_first case all gone l come (Some g) never next = subst (OnFirst (λ r. GoesBefore (addition (record_of come)) (removal r))) (sym next.1) (other_goes (record_of g) (record_of come) never)

-- where none comes next and no removal is first, none goes
pub none_goes : (gone come : Option RrRef) → (IsRemovalFirst gone come → ⊥) → come ≡ None → gone ≡ None
none_goes None come never none = refl
none_goes (Some g) None never none = absurd (never tt)
none_goes (Some g) (Some a) never none = absurd cc

pub some_goes : (gone come : Option RrRef) → IsRemovalFirst gone come → gone ≡ None → ⊥
some_goes None come first none = first
some_goes (Some g) come first none = cc

module _ (case : NameCase) (records others gone come : List Record) (c c' : Changes) (rr : RrRef) (left : AreLeft case records others c gone come) where
  pub removal_taken : c.removal ≡ Some rr → IsRemovalFirst c.removal c.addition → ((more : List Record) → AreLacking case others c.removed more → AreNext case others c'.removal c'.removed more) → c'.addition ≡ c.addition → c'.added ≡ c.added → TakesFirst case records others (removal (record_of rr)) c' gone come
  removal_taken is first next same same' =
      let n = following case others gone c.removed c.removal rr is left.removals in
      record {
        gone_after = n.0;
        come_after = come;
        first = (n.1, refl, goes_first case records come c.added rr c.addition (subst (λ h. IsRemovalFirst h c.addition) is first) left.additions);
        left = record {
          removals = next n.0 n.2;
          additions = subst (λ h. AreNext case records h c'.added come) (sym same) (subst (λ l. AreNext case records c.addition l come) (sym same') left.additions);
        };
      }

  pub addition_taken : c.addition ≡ Some rr → (IsRemovalFirst c.removal c.addition → ⊥) → ((more : List Record) → AreLacking case records c.added more → AreNext case records c'.addition c'.added more) → c'.removal ≡ c.removal → c'.removed ≡ c.removed → TakesFirst case records others (addition (record_of rr)) c' gone come
  addition_taken is never next same same' =
      let n = following case records come c.added c.addition rr is left.additions in
      record {
        gone_after = gone;
        come_after = n.0;
        first = (n.1, refl, comes_first case others gone c.removed rr c.removal (subst (λ h. IsRemovalFirst c.removal h → ⊥) is never) left.removals);
        left = record {
          removals = subst (λ h. AreNext case others h c'.removed gone) (sym same) (subst (λ l. AreNext case others c.removal l gone) (sym same') left.removals);
          additions = next n.0 n.2;
        };
      }
