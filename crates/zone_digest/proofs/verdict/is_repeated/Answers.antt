-- The first that is like it, or none.
use Rattle.std.proofs.Common.{refl, arith}
use Rattle.zone_rdata.specs.Lent.{record_of}
use Rattle.zone_digest.specs.Machine.Reading.{fields_of}
use Rattle.zone_digest.proofs.FieldsOf.{has_this, none_more}
use Rattle.zone_digest.proofs.verdict.is_repeated.Goals as goal

pub returns-then-is_other_like : goal.returns-then-is_other_like
returns-then-is_other_like c = (
  λ is. has_this c.args.found.now c.loop-other.other-index c.other-item.result (record_of c.args.rr.now) (fields_of c.args.fields.now) c.other-item.is (omega (arith, c.loop-other-test.true)) (c.is_other_like.ensures.0 c.if-is_other_like.true),
  λ has. refl,
)

pub loop-other-preserved : goal.loop-other-preserved
loop-other-preserved c =
    none_more c.args.found.now c.loop-other.other-index c.other-item.result (record_of c.args.rr.now) (fields_of c.args.fields.now) c.other-item.is (omega (arith, c.loop-other-test.true)) c.loop-other.invariant
    (λ like. (let is = c.is_other_like.ensures.1 like in grind (arith, is, c.if-is_other_like.false)))
