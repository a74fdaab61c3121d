use Rattle.zone_wire.proofs.Common.{false, refl, same_name, sym, true, ◌∙◌, ◌≡◌}
use Rattle.zone_wire.proofs.Transfers.Progress.{told_name}
use Rattle.zone_wire.proofs.transfer.Transfer.is_of_zone.Goals as goal

pub returns-then-is_same : goal.returns-then-is_same
returns-then-is_same c =
    let same : same_name c.args.name.now c.in-Some.zone.name ≡ true = sym (told_name c.is_same.result _ _ (rw c.lend.ensures.value at c.is_same.ensures)) ∙ c.if-is_same.true in
    rw (c.in-Some.is, same) refl

pub returns-else-is_same : goal.returns-else-is_same
returns-else-is_same c =
    let other : same_name c.args.name.now c.in-Some.zone.name ≡ false = sym (told_name c.is_same.result _ _ (rw c.lend.ensures.value at c.is_same.ensures)) ∙ c.if-is_same.false in
    c.if-is_same.false ∙ rw (c.in-Some.is, other) refl
