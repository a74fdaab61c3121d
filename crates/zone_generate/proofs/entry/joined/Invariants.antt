use Rattle.std.proofs.Common.{◌≡◌, ◌++◌, drop, map}
use Rattle.std.specs.List.{flat_map}
use Rattle.zone_rdata.specs.Item.{raw}
use Rattle.zone_generate.specs.Machine.{item_and_blank}
use Rattle.zone_generate.proofs.entry.joined.Given as goal

abbrev pub invariant-loop-word : goal.invariant-loop-word
invariant-loop-word l = l.joined.items ++ flat_map item_and_blank (map raw (drop l.word-index l.words)) ≡ flat_map item_and_blank (map raw l.words)
