use Rattle.std.proofs.Common.{arith, subst}
use Rattle.zone_digest.proofs.Sets.{stays_more, own_form}
use Rattle.data_names.specs.NamesInData.{IsLowered, names_of}
use Rattle.zone_digest.proofs.emit.all_stay.Goals as goal

pub loop-rr-preserved : goal.loop-rr-preserved
loop-rr-preserved c = stays_more c.args.set.now c.loop-rr.rr-index c.rr-item.result c.rr-item.is (omega (arith, c.loop-rr-test.true)) c.loop-rr.invariant (subst (λ o. IsLowered (names_of c.rr-item.result.kind c.rr-item.result.rdata.octets) c.rr-item.result.rdata.octets o) c.octets.ensures (own_form (λ k o l. IsLowered (names_of k o) o l) c.rr-item.result c.number.result c.octets.result.now c.octets.result.now c.number.ensures.value c.octets.ensures (c.stays_low.ensures.0 c.if-not-stays_low.false)))
