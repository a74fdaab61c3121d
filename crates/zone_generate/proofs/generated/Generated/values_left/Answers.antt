use Rattle.std.proofs.Common.{ap, length, ◌∙◌}
use Rattle.zone_generate.proofs.ValueLines.{values_count}
use Rattle.zone_generate.specs.Entry.{Generation}
use Rattle.zone_generate.proofs.generated.Generated.values_left.Goals as goal

pub returns : goal.returns
returns c =
    let left = c.self.inside.left in
    values_count left.count left.step left.start ∙ ap (λ (g : Generation). length g.values) c.self.view_is
