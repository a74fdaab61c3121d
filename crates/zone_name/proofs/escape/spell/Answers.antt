use Rattle.std.proofs.Common.{rules}
use Rattle.zone_name.proofs.Texts.Lengths.{spells_more}
use Rattle.zone_name.proofs.escape.spell.Goals as goal

pub loop-octet-preserved : goal.loop-octet-preserved
loop-octet-preserved c =
    (search rules, search rules, spells_more c.args.octets.now c.loop-octet.room c.put.new.room _ c.loop-octet.at c.spelled-len.result.1 c.loop-octet.octet-index c.put.ensures (search rules) c.loop-octet.invariant.1 (search rules) c.loop-octet-test.true c.spelled-len.ensures.len c.spelled-len.ensures.text c.loop-octet.invariant.2)
