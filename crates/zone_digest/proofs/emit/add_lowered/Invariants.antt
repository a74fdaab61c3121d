use Rattle.std.proofs.Common.{List, ℕ, ◌≡◌, ◌<◌, map, length, ◌++◌}
use Rattle.std.specs.List.{flat_map}
use Rattle.zone_rdata.specs.Lent.{record_of}
use Rattle.zone_digest.specs.Digest.{octets_with}
use Rattle.zone_digest.specs.Machine.Sets.{HasOctets}
use Rattle.zone_digest.proofs.emit.add_lowered.Given as goal

abbrev pub invariant-loop-octets : goal.invariant-loop-octets
invariant-loop-octets g l =
    ((octets : List ℕ) → HasOctets l.left.keys octets → length octets < 65536)
    × ((m : List ℕ) → g.D.Digest.holds l.initial.hasher m → (n : List ℕ) × g.D.Digest.holds l.hasher n × (n ++ flat_map (octets_with (record_of l.rr)) (map (λ v. v.items) l.left.keys) ≡ m ++ flat_map (octets_with (record_of l.rr)) (map (λ v. v.items) l.fn.many.keys)))

abbrev pub decreases-loop-octets : goal.decreases-loop-octets
decreases-loop-octets g l = length l.left.keys
