use Rattle.std.proofs.Common.{arith}
use Rattle.zone_name.proofs.Spelling.WholeText.{few_odd, odd_more}
use Rattle.zone_name.proofs.shown.count_odd.Goals as goal

pub overflow_add-odd : goal.overflow_add-odd
overflow_add-odd c =
    omega (arith, few_odd c.args.octets.now 0 c.loop-at.at c.loop-at.odd c.loop-at.invariant.1, few_odd c.args.octets.now c.loop-at.at 16 c.odd_in-odd.result c.odd_in-odd.ensures, c.requires, c.loop-at-test.true)

pub loop-at-preserved : goal.loop-at-preserved
loop-at-preserved c =
    (omega (arith, c.loop-at-test.true), odd_more c.args.octets.now c.loop-at.at 16 c.loop-at.odd c.odd_in-odd.result c.loop-at.invariant.1 c.odd_in-odd.ensures)
