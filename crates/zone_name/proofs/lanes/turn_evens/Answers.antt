use Rattle.zone_name.proofs.Common.{Bool, ap, arith, bitmask_splat, cond, eqb, false, length-chunk, map, map-map, refl, splat_is_map, sym, true, w8, zip2_splat, ℕ, ◌∙◌, ◌≡◌}
use Rattle.zone_name.proofs.InOctets.Evens.{evens_of}
use Rattle.zone_name.proofs.InOctets.OctetLanes.{chosen}
use Rattle.zone_name.proofs.lanes.turn_evens.Goals as goal
use lib.Lanes.{chunk, put_chunk, top}
use Rattle.std.proofs.lemmas.List.{map-id}

top_of : (b : Bool) → top 7 (cond b 255 0) ≡ b
top_of true = refl
top_of false = refl

pub returns-clause-turned : goal.returns-clause-turned
returns-clause-turned c =
    let v = chunk c.args.at 16 c.args.octets.now in
    let long = length-chunk c.args.at 16 c.args.octets.now c.requires in
    let found = bitmask_splat w8 eqb v 16 c.args.from long (omega arith) in
    let evens = evens_of c.args.from c.args.to 8 v (omega (arith, long)) (sym found ∙ c.if-found-ne-EVENS.false) in
    let tests = ap (map (top 7)) (zip2_splat (λ a b. cond (eqb a b) 255 0) v 16 c.args.from long) ∙ map-map (top 7) _ v ∙ ap (λ (f : ℕ → Bool). map f v) (λ i x. top_of (eqb x c.args.from) i) in
    let turned = chosen (λ x. eqb x c.args.from) _ _ v tests (splat_is_map v 16 c.args.to long) (sym (map-id v)) in
    λ _. record { others = evens.others; eight = evens.count; before = evens.before; after = ap (put_chunk c.args.at c.args.octets.now) (turned ∙ evens.after) }
