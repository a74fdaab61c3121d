-- Any two ascending lists have changes, and any two zones.
use Rattle.zone_set.proofs.Common.{List, IsZone, Record}
use Rattle.zone_set.specs.Order.{Ascends}
use Rattle.zone_set.specs.Zone.{Zone}
use Rattle.zone_difference.proofs.Alike.{found_lacking}
use Rattle.zone_difference.proofs.Merged.{have_merged, merged_changes}
use Rattle.zone_difference.proofs.Without.{difference, found_only}
use Rattle.zone_difference.specs.Difference.{AreChanges, Change, IsDifference}
use Rattle.zone_difference.specs.declared.name_case.NameCase.{NameCase}
use Rattle.zone_difference.specs.declared.name_case.NameCase.TheVariants.{Exact}

pub in_order : (case : NameCase) (records others gone come : List Record) → IsDifference case records others gone come → (changes : List Change) × AreChanges case records others changes
in_order case records others gone come d =
    let merged = have_merged gone come d.gone.ascend d.come.ascend in
    (merged.0, merged_changes case records others gone come merged.0 d merged.1)

pub have_changes : (records others : List Record) → Ascends records → Ascends others → (changes : List Change) × AreChanges Exact records others changes
have_changes records others up up_others =
    let gone = found_only records others in
    let come = found_only others records in
    in_order Exact records others gone.0 come.0 (difference Exact records others gone.0 come.0 gone.1 come.1 up up_others)

pub zones_have_changes : (case : NameCase) (z w : Zone) → IsZone z → IsZone w → (changes : List Change) × AreChanges case z.records w.records changes
zones_have_changes case z w is too =
    let gone = found_lacking case z.records w.records is.compatible.each too.compatible.each in
    let come = found_lacking case w.records z.records too.compatible.each is.compatible.each in
    in_order case z.records w.records gone.0 come.0 (difference case z.records w.records gone.0 come.0 gone.1 come.1 is.compatible.ascend too.compatible.ascend)
