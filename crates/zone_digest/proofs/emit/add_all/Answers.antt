use Rattle.std.proofs.Common.{arith, subst}
use Rattle.zone_digest.proofs.Sets.{held_more}
use Rattle.zone_digest.proofs.emit.add_all.Goals as goal

pub loop-rr-preserved : goal.loop-rr-preserved
loop-rr-preserved g c m held = subst (g.D.Digest.holds c.add.new.hasher) (held_more m c.args.set.now c.loop-rr.rr-index c.rr-item.result c.rr-item.is (omega (arith, c.loop-rr-test.true))) (c.add.ensures _ (c.loop-rr.invariant m held))
