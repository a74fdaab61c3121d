use Rattle.zone_rdata.proofs.Common.{◌≤◌, length, drop, map, raw}
use Rattle.zone_rdata.proofs.Items.Values.{HaveRead}
use Rattle.zone_rdata.proofs.reading.read_words.Given as goal

abbrev pub invariant-loop-field : goal.invariant-loop-field
invariant-loop-field l = (l.place ≤ length l.items) × HaveRead l.origin l.field-items (map raw l.items) (drop l.field-index l.field-items) (map raw (drop l.place l.items)) l.octets.items
