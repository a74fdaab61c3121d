use Rattle.zone_words.proofs.Common.{NoneIsFurther, Some, [], parts_after, subst, sym, ◌∙◌, ◌≡◌}
use Rattle.zone_words.proofs.Turns.{none_weaker}
use Rattle.zone_words.specs.Machine.Further.{HasParts, IsForm}
use Rattle.zone_words.proofs.further.further_record.Goals as goal

pub returns-in-Record-clause-none : goal.returns-in-Record-clause-none
returns-in-Record-clause-none c =
    none_weaker _ _ c.record_of.result
    (λ none stated is parts e.
    let has : HasParts stated c.in-Record.parts = subst (IsForm stated) c.in-Record.is is in
    let p : Some (parts_after [] has.items) ≡ Some parts = sym has.split ∙ e in
    subst (λ q. NoneIsFurther q c.args.is_internet) (cc p) (none has.items has.are))
    c.record_of.ensures.none
