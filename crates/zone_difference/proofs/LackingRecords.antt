-- The records of which another zone has no equal, before the first is taken.
use Rattle.zone_set.proofs.Common.{◌≡◌, List, sym, subst, AllByRecursion, Has, IsRecord, IsZone, Record}
use Rattle.zone_set.proofs.Holding.Together.{each_Has, each_from_Has}
use Rattle.zone_set.specs.Order.{Ascends}
use Rattle.zone_set.specs.Zone.{Zone}
use Rattle.zone_difference.proofs.Alike.{alike_itself, found_lacking}
use Rattle.zone_difference.proofs.Without.{all_found, among, ascend, found_only}
use Rattle.zone_difference.specs.Difference.{AreOnlyIn, HasEqual}
use Rattle.zone_difference.specs.Lacked.{AreLacking, IsFoldedTo}
use Rattle.zone_difference.specs.Walk.{AreSides, AreWithout, others_of}
use Rattle.zone_difference.specs.declared.lacking.Lacking.{Lacking}
use Rattle.zone_difference.specs.declared.name_case.NameCase.{NameCase}
use Rattle.zone_difference.specs.declared.name_case.NameCase.TheVariants.{Exact, Folded}

equal_itself : (case : NameCase) (others : List Record) (r : Record) → IsRecord r → Has others r → HasEqual case others r
equal_itself Exact others r is has = has
equal_itself Folded others r is has = (r, has, alike_itself r is)

-- of the records that the other zone lacks octet by octet, those of which it has no equal
only_of_exact : (case : NameCase) (records others exact only : List Record) → AllByRecursion IsRecord records → Ascends records → AreWithout (Has others) records exact → AreWithout (HasEqual case others) exact only → AreOnlyIn case records others only
only_of_exact case records others exact only each up first are = record {
  ascend = ascend (HasEqual case others) exact only are (ascend (Has others) records exact first up);
  are = λ t. (
    λ has. let own = among (HasEqual case others) exact only are t has in ((among (Has others) records exact first t own.0).0, own.1),
    λ both. all_found (HasEqual case others) exact only are t
        (all_found (Has others) records exact first t both.0 (λ has. both.1 (equal_itself case others t (each_Has IsRecord records t each both.0) has)))
        both.1,
  );
}

pub lacking_from : (case : NameCase) (z w : Zone) (l : Lacking) → IsZone z → IsZone w → l.only.records ≡ z.records → others_of l.only ≡ w.records → AreSides l.only.records (others_of l.only) → ((wanted : List Record) → AllByRecursion IsRecord wanted → Ascends wanted → IsFoldedTo case w.records l.folded wanted) → (only : List Record) × AreLacking case w.records l only × AreOnlyIn case z.records w.records only
lacking_from case z w l is too same same' sides folds =
    let exact = found_only z.records w.records in
    let up = ascend (Has w.records) z.records exact.0 exact.1 is.compatible.ascend in
    let each : AllByRecursion IsRecord exact.0 = each_from_Has IsRecord exact.0 (λ r has. each_Has IsRecord z.records r is.compatible.each (among (Has w.records) z.records exact.0 exact.1 r has).0) in
    let only = found_lacking case exact.0 w.records each too.compatible.each in (
      only.0,
      record {
        exact = exact.0;
        to_come = record {
          sides = sides;
          are = subst (λ o. AreWithout (Has o) l.only.records exact.0) (sym same') (subst (λ rs. AreWithout (Has w.records) rs exact.0) (sym same) exact.1);
        };
        lacked = λ r has. (among (Has w.records) z.records exact.0 exact.1 r has).1;
        are = only.1;
        folded = folds exact.0 each up;
      },
      only_of_exact case z.records w.records exact.0 only.0 is.compatible.each is.compatible.ascend exact.1 only.1,
    )
