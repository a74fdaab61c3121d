use Rattle.zone_set.proofs.Common.{◌≡◌, true, false, List, [], ◌∷◌, ◌++◌, MatchOption, sym, ◌∙◌, subst, AllByRecursion, IsWithin, Record, record_of, AreCompatible}
use Rattle.zone_set.proofs.Ordering.Interval.{ends_tell}
use Rattle.zone_set.proofs.sets.ZoneBuilder.lies_within.Goals as goal
use Rattle.zone_set.proofs.sets.ZoneBuilder.lies_within.Goals.{then-is_none_outside, else-is_none_outside}

pub returns-then-is_none_outside-2 : goal.returns-then-is_none_outside-2
returns-then-is_none_outside-2 c is =
    elim c.if-is_none_outside.branch [
      | then-is_none_outside w ↦
          subst (AllByRecursion (λ r. IsWithin r.owner c.args.apex.now)) c.iter-records.ensures.records
          (ends_tell c.args.apex.now c.iter-records.result c.next-first.new.self c.next-second.new.self c.next-first.result c.next-second.result c.last-last.result
          (subst AreCompatible (sym c.iter-records.ensures.records) c.iter-records.ensures.compatible)
          c.next-first.ensures.steps c.next-second.ensures.steps
          (subst (λ rs. MatchOption c.last-last.result (rs ≡ []) (λ r. (front : List Record) × (rs ≡ front ++ record_of r ∷ []))) (sym c.iter-records.ensures.records) c.last-last.ensures)
          (c.is_none_outside.ensures.0 w.if-is_none_outside.true) (w.is_none_outside-then-is_none_outside.ensures.0 (sym w.value-is ∙ c.if-is_none_outside-2.true)) (c.is_none_outside-then-is_none_outside-2.ensures.0 is))
      | else-is_none_outside w ↦ let no : true ≡ false = sym c.if-is_none_outside-2.true ∙ w.value-is ∙ w.if-is_none_outside.false in cc
    ]
