use Rattle.zone_rdata.proofs.Common.{[], refl, spaced, Took-more, stops_after}
use Rattle.zone_rdata.proofs.Texts.FieldTexts.{no_space, printed_more, space_taken}
use Rattle.zone_rdata.proofs.printing.push_fields.Goals as goal
use Rattle.zone_rdata.proofs.printing.push_fields.Goals.{then-i-gt0+in_ok-push, else-i-gt0}

pub returns-in_err-push-clause-err : goal.returns-in_err-push-clause-err
returns-in_err-push-clause-err g c = stops_after _ _ g.met.S.Sink.joins _ _ _ _ c.loop-i.invariant.taken (_, c.in_err-push.ensures.err)

pub returns-in_err-rest-clause-err : goal.returns-in_err-rest-clause-err
returns-in_err-rest-clause-err g c =
    let parted : g.S.Sink.takes c.loop-i.out (spaced c.loop-i.i []) c.if-i-gt0.out = elim c.if-i-gt0.branch [
      | then-i-gt0+in_ok-push w ↦ rw w.out-is (space_taken g.S.Sink.takes c.loop-i.i _ _ w.if-i-gt0.true w.in_ok-push.ensures.ok)
      | else-i-gt0 w ↦ rw w.out-is (no_space g.S.Sink.takes c.loop-i.i _ _ w.if-i-gt0.false (g.met.S.Sink.nothing c.loop-i.out))
    ] in
    stops_after _ _ g.met.S.Sink.joins _ _ _ _ (g.met.S.Sink.joins _ _ _ _ _ c.loop-i.invariant.taken parted) c.in_err-rest.ensures.err

pub loop-i-preserved : goal.loop-i-preserved
loop-i-preserved g c =
    let parted : g.S.Sink.takes c.loop-i.out (spaced c.loop-i.i []) c.if-i-gt0.out = elim c.if-i-gt0.branch [
      | then-i-gt0+in_ok-push w ↦ rw w.out-is (space_taken g.S.Sink.takes c.loop-i.i _ _ w.if-i-gt0.true w.in_ok-push.ensures.ok)
      | else-i-gt0 w ↦ rw w.out-is (no_space g.S.Sink.takes c.loop-i.i _ _ w.if-i-gt0.false (g.met.S.Sink.nothing c.loop-i.out))
    ] in
    Took-more _ g.met.S.Sink.joins _ _ _ _ _ _ c.loop-i.invariant (g.met.S.Sink.joins _ _ _ _ _ parted c.in_ok-rest.ensures.ok)
    (printed_more _ _ _ _ _ c.loop-i.i _ _ c.loop-i-test.true refl c.loop-i.invariant.known c.in_ok-rest.ensures.rest)
