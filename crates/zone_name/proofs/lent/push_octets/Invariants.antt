use Rattle.zone_name.proofs.Common.{◌≡◌, ◌++◌, flat_map, length, octet_text}
use Rattle.zone_name.proofs.Texts.Sinks.{Took}
use Rattle.zone_name.proofs.lent.push_octets.Given as goal

-- the octets so far and those to come are the label
abbrev pub invariant-loop-rest : goal.invariant-loop-rest
invariant-loop-rest g l = Took g.S.Sink.takes l.fn.out l.out (λ text. text ++ flat_map octet_text l.rest ≡ flat_map octet_text l.label)

abbrev pub decreases-loop-rest : goal.decreases-loop-rest
decreases-loop-rest g l = length l.rest
