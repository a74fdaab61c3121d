use Rattle.zone_rdata.proofs.Common.{ap, arith, sym, ◌∙◌, leading_from_mask_l, length-chunk, trailing_mask_l, is_escaped}
use Rattle.std.specs.Int.Count.{count_trailing_zeros}
use Rattle.zone_rdata.proofs.unescaped.unescaped_run.Goals as goal
use lib.Lanes.{chunk}

pub returns-then-bits-eq0 : goal.returns-then-bits-eq0
returns-then-bits-eq0 c =
    sym (leading_from_mask_l is_escaped (chunk c.args.at 16 c.args.octets.now) (sym c.escape_bits-bits.ensures ∙ c.if-bits-eq0.true)
    ∙ length-chunk c.args.at 16 c.args.octets.now c.requires)

pub returns-else-bits-eq0 : goal.returns-else-bits-eq0
returns-else-bits-eq0 c =
    ap (count_trailing_zeros 64) c.escape_bits-bits.ensures
    ∙ trailing_mask_l is_escaped 64 (chunk c.args.at 16 c.args.octets.now) (omega (arith, length-chunk c.args.at 16 c.args.octets.now c.requires)) (omega (arith, c.escape_bits-bits.ensures, c.if-bits-eq0.false))
