use Rattle.std.proofs.Common.{ap, cond, leb, map, refl, sym, w8, ◌∙◌}
use Rattle.zone_wire.proofs.Common.{chunk-fits, folded_octet, length-chunk, map-map, splat_is_map, zip2_of_maps, zip2_splat}
use Rattle.zone_name.proofs.InOctets.OctetLanes.{chosen, same_lanes}
use Rattle.zone_wire.proofs.labels.copy_lanes.Goals as goal
use lib.Lanes.{chunk, put_chunk, top}
use Rattle.std.proofs.lemmas.List.{map-id}

pub returns : goal.returns
returns c =
    let v = chunk c.args.start 16 c.args.message.now in
    let long = length-chunk c.args.start 16 c.args.message.now c.requires.part in
    let capitals = zip2_of_maps _ _ _ v
    (zip2_of_maps (λ a b. cond (leb a b) 255 0) _ _ v (splat_is_map v 16 65 long) (sym (map-id v))) (zip2_splat _ v 16 90 long) in
    let bits = chosen _ _ _ v (ap (map (top 7)) capitals ∙ map-map (top 7) _ v) (splat_is_map v 16 32 long) (splat_is_map v 16 0 long) in
    ap (put_chunk c.args.at c.args.room.now)
    (zip2_of_maps _ _ _ v (sym (map-id v)) bits ∙ same_lanes _ folded_octet v (chunk-fits w8 c.args.start 16 c.args.message.now c.type_inv.message) refl)
