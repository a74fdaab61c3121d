use Rattle.zone_name.proofs.Common.{◌≡◌, ◌≤◌, ◌*◌, length, take, flat_map, octet_text}
use Rattle.zone_name.proofs.escape.spell.Given as goal

-- the octets so far are spelled
abbrev pub invariant-loop-octet : goal.invariant-loop-octet
invariant-loop-octet l = (length l.room ≡ length l.fn.room) × (l.at ≤ 4 * l.octet-index) × (take l.at l.room ≡ flat_map octet_text (take l.octet-index l.octets))
