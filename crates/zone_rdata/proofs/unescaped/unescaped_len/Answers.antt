use Rattle.zone_rdata.proofs.Common.{length, ◌-◌, arith, prefix_len-le-length, is_unescaped, run_tells}
use Rattle.zone_rdata.proofs.unescaped.unescaped_len.Goals as goal

pub returns-then-run-lt-LANES : goal.returns-then-run-lt-LANES
returns-then-run-lt-LANES c =
    (run_tells is_unescaped c.args.octets.now c.loop-at.at 16 c.unescaped_run-run.result c.loop-at.invariant c.unescaped_run-run.ensures).ends c.if-run-lt-LANES.true

pub loop-at-preserved : goal.loop-at-preserved
loop-at-preserved c = omega (arith, (run_tells is_unescaped c.args.octets.now c.loop-at.at 16 c.unescaped_run-run.result c.loop-at.invariant c.unescaped_run-run.ensures).passed, c.if-run-lt-LANES.false)

pub overflow_add-result-2 : goal.overflow_add-result-2
overflow_add-result-2 c = omega (arith, (run_tells is_unescaped c.args.octets.now (length c.args.octets.now - 16) 16 c.unescaped_run.result (omega (arith, c.loop-at.invariant, c.loop-at-test.false)) c.unescaped_run.ensures).within, c.if-octets-lt-LANES.false)

pub returns : goal.returns
returns c =
    let run = run_tells is_unescaped c.args.octets.now (length c.args.octets.now - 16) 16 c.unescaped_run.result (omega (arith, c.loop-at.invariant, c.loop-at-test.false)) c.unescaped_run.ensures in
    grind (arith, run, c.if-octets-lt-LANES.false, prefix_len-le-length is_unescaped c.args.octets.now)
