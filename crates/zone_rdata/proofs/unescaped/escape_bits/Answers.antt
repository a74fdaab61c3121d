use Rattle.zone_rdata.proofs.Common.{arith, chunk-fits, cond, is_escaped, length-chunk, ltb, refl, splat_is_map, sym, w8, zip2_of_maps, zip2_splat}
use Rattle.zone_name.proofs.InOctets.OctetLanes.{mask_is}
use Rattle.zone_rdata.proofs.unescaped.escape_bits.Goals as goal
use lib.Lanes.{chunk}
use Rattle.std.proofs.lemmas.List.{map-id}

pub returns : goal.returns
returns c =
    let v = chunk c.args.at 16 c.args.octets.now in
    let long = length-chunk c.args.at 16 c.args.octets.now c.requires in
    mask_is is_escaped v (omega (arith, long)) (chunk-fits w8 c.args.at 16 c.args.octets.now c.type_inv.octets) _ _
    (zip2_of_maps _ _ _ v (zip2_of_maps _ _ _ v (zip2_of_maps _ _ _ v
    (zip2_splat _ v 16 32 long)
    (zip2_of_maps (λ a b. cond (ltb a b) 255 0) _ _ v (splat_is_map v 16 126 long) (sym (map-id v))))
    (zip2_splat _ v 16 34 long)) (zip2_splat _ v 16 92 long)) refl
