use Rattle.std.proofs.Common.{arith, rules, subst}
use Rattle.std.proofs.lemmas.List.{nil_from_length}
use Rattle.zone_files.specs.Machine.Lines.{MayStay}
use Rattle.zone_files.proofs.expansion.holding.Holding.keeps_lines.Goals as goal

pub returns-then-is_empty : goal.returns-then-is_empty
returns-then-is_empty c same =
    subst MayStay c.self.view_is (record {
      own = c.are_same.ensures.0 same;
      none_out = nil_from_length c.self.inside.taken_out.items (search rules);
      line = omega (arith, c.if-self-ge18446744073709551615.false);
    })
