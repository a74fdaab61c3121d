use Rattle.zone_rdata.proofs.Common.{arith, ends_with_strings, false, true, ◌≡◌}
use Rattle.zone_rdata.proofs.Octets.Building.{ends_at}
use Rattle.zone_rdata.proofs.layout.Layout.part_at.Goals as goal

pub returns-in-Strings : goal.returns-in-Strings
returns-in-Strings c =
    let last : ends_with_strings c.args.self.fields.now ≡ true = grind (arith, ends_at c.args.self.fields.now c.in_ok-last.field-0.now, c.in_ok-last.ensures.item, c.in_ok-last.is, c.in-Strings.is) in
    grind (arith, last, c.field.ensures, c.or.ensures)

pub returns-in_default : goal.returns-in_default
returns-in_default c =
    let last : ends_with_strings c.args.self.fields.now ≡ false = grind (arith, ends_at c.args.self.fields.now c.in_ok-last.field-0.now, c.in_ok-last.ensures.item, c.in_ok-last.is, c.in_default.not-Strings) in
    grind (arith, last, c.field-in_default.ensures)
