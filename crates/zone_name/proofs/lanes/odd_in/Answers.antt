use Rattle.std.proofs.lemmas.Simd.{swz_l}
use Rattle.std.specs.Int.Bits.{bit_and}
use Rattle.zone_name.proofs.Common.{List, ap, arith, chunk-fits, cond, count_ones, eqb, get_or, is_odd, length, length-chunk, ltb, map, ones-mask_l, refl, replicate, splat_is_map, sym, w8, zip2_of_maps, zip2_splat, ℕ, ◌∙◌, ◌≡◌}
use Rattle.zone_name.proofs.InOctets.LookedUp.{looked_up, low_places}
use Rattle.zone_name.proofs.InOctets.OctetLanes.{mask_is}
use Rattle.zone_name.specs.declared.lanes.TheConstants.{ODD_BY_LOW_BITS}
use Rattle.zone_name.proofs.lanes.odd_in.Goals as goal
use lib.Lanes.{chunk, zip2}
use Rattle.std.proofs.lemmas.List.{map-id}

-- the octet of the table that has the low bits of each
read : (v : List ℕ) → length v ≡ 16 → swz_l w8 16 ODD_BY_LOW_BITS 0 (zip2 bit_and v (replicate 16 15)) ≡ map (λ x. get_or ODD_BY_LOW_BITS (bit_and x 15) 0) v
read v long = looked_up 16 ODD_BY_LOW_BITS ODD_BY_LOW_BITS v _ long (zip2_splat bit_and v 16 15 long) refl

pub swizzle-alike : goal.swizzle-alike
swizzle-alike c =
    low_places 1 16 (chunk c.args.at 16 c.args.octets.now) refl (length-chunk c.args.at 16 c.args.octets.now c.requires)

pub returns : goal.returns
returns c =
    let v = chunk c.args.at 16 c.args.octets.now in
    let long = length-chunk c.args.at 16 c.args.octets.now c.requires in
    ap count_ones (mask_is is_odd v (omega (arith, long)) (chunk-fits w8 c.args.at 16 c.args.octets.now c.type_inv.octets) _ _
    (zip2_of_maps _ _ _ v (zip2_of_maps _ _ _ v
    (zip2_splat _ v 16 33 long)
    (zip2_of_maps (λ a b. cond (ltb a b) 255 0) _ _ v (splat_is_map v 16 126 long) (sym (map-id v))))
    (zip2_of_maps (λ a b. cond (eqb a b) 255 0) _ _ v (sym (map-id v)) (read v long))) refl) ∙ ones-mask_l is_odd v
