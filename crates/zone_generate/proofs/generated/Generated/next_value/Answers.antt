use Rattle.std.proofs.Common.{suc, ◌-◌, ◌≡◌, ◌∙◌, ap, arith, sym}
use Rattle.zone_generate.proofs.ValueLines.{no_values}
use Rattle.zone_generate.specs.Entry.{Generation}
use Rattle.zone_generate.specs.Range.{values_from}
use Rattle.zone_generate.proofs.generated.Generated.next_value.Goals as goal

pub returns-then-self-eq0-clause-none : goal.returns-then-self-eq0-clause-none
returns-then-self-eq0-clause-none c = ap (λ (g : Generation). g.values) (sym c.self.view_is) ∙ no_values _ _ _ c.if-self-eq0.true

pub returns-clause-some : goal.returns-clause-some
returns-clause-some c =
    let left = c.self.inside.left in
    let e : left.count ≡ suc (left.count - 1) = omega (arith, c.if-self-eq0.false) in
    (left.count - 1, ap (λ (g : Generation). g.values) (sym c.self.view_is) ∙ ap (λ n. values_from n left.step left.start) e)
