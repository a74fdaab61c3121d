use Rattle.zone_name.proofs.Common.{arith, chunk-fits, is_mark, length-chunk, refl, w8, zip2_of_maps, zip2_splat}
use Rattle.zone_name.proofs.InOctets.OctetLanes.{mask_is}
use Rattle.zone_name.proofs.lanes.mark_bits.Goals as goal
use lib.Lanes.{chunk}

pub returns : goal.returns
returns c =
    let v = chunk c.args.at 16 c.args.octets.now in
    let long = length-chunk c.args.at 16 c.args.octets.now c.requires in
    mask_is is_mark v (omega (arith, long)) (chunk-fits w8 c.args.at 16 c.args.octets.now c.type_inv.octets) _ _
    (zip2_of_maps _ _ _ v (zip2_splat _ v 16 46 long) (zip2_splat _ v 16 92 long)) refl
