use Rattle.zone_name.proofs.Common.{take}
use Rattle.zone_name.proofs.Spelling.Letters.{fold_letters}
use Rattle.zone_name.proofs.reading.set_front.Goals as goal

pub returns-in-Kept-clause-holds : goal.returns-in-Kept-clause-holds
returns-in-Kept-clause-holds c = λ holds. rw c.in-Kept.is holds

pub returns-in-Folded : goal.returns-in-Folded
returns-in-Folded c =
    let fold = fold_letters (take c.args.len c.args.octets.now) (take c.args.len c.fold_front.new.octets) in
    rw c.in-Folded.is (record { holds = λ h. (fold h c.fold_front.ensures).holds; labels = λ h. (fold h c.fold_front.ensures).gives })
