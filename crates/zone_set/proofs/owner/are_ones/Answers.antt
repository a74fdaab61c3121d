use Rattle.zone_set.proofs.Common.{arith, eqb-true, sym, ◌∙◌}
use Rattle.std.proofs.Common.{eqb, w8}
use Rattle.std.proofs.lemmas.Simd.{bitmask_splat}
use Rattle.std.proofs.lemmas.List.{length-take-le}
use Rattle.std.specs.Prelude.{take}
use Rattle.zone_name.proofs.InOctets.Evens.{evens_of}
use Rattle.zone_set.proofs.owner.are_ones.Goals as goal

pub returns : goal.returns
returns c = λ all.
    let v = take 16 c.args.octets.now in
    let long = length-take-le 16 c.args.octets.now c.requires in
    let evens = evens_of 1 1 8 v (omega (arith, long)) (sym (bitmask_splat w8 eqb v 16 1 long (omega arith)) ∙ eqb-true _ _ all) in
    (evens.others, evens.before)
