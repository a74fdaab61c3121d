use Rattle.std.proofs.lemmas.Simd.{bitmask_splat, ones-mask_l}
use Rattle.std.proofs.Common.{eqb, w8}
use Rattle.std.specs.Int.RustNames.{count_ones}
use Rattle.zone_text.proofs.Common.{ap, arith, length-take, take, ◌==◌, ◌∙◌}
use Rattle.zone_text.proofs.feeds.counted_ahead.Goals as goal

pub returns-clause-count : goal.returns-clause-count
returns-clause-count c =
    let v = take 64 c.args.octets.now in
    ap count_ones (bitmask_splat w8 eqb v 64 10 (omega (arith, c.requires, length-take 64 c.args.octets.now)) (omega arith)) ∙ ones-mask_l (λ c. c == 10) v
