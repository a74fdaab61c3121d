-- The writer took all but the lines that are gathered and those to come, or a part of them.
use Rattle.zone_print.proofs.Common.{err_from_is_err_and, MatchResult-weaker}
use Rattle.zone_difference.proofs.Taking.{none_taken, some_taken}
use Rattle.zone_difference.proofs.Written.{begins, ended, ended_part, gathered, interrupted, not_begun, refused, stopped, taken}
use Rattle.zone_difference.specs.Walk.{change_of}
use Rattle.zone_difference.proofs.write.write_difference.Goals as goal

pub returns-in_err-push_change-clause-part : goal.returns-in_err-push_change-clause-part
returns-in_err-push_change-clause-part g c =
    let p = err_from_is_err_and c.from_residual-in_err-push_change.result c.from_residual-in_err-push_change.ensures.1 in
    let w = c.walk.invariant.write in
    rw p.1 (refused _ _ _ _ _ _ _ _ _ (change_of c.in-Some.change) w (some_taken _ _ _ _ c.in-Some.is (c.in_ok-change.ensures.taken c.args.case c.args.zone.now.records c.args.other.now.records w.gone w.come w.left_are)))

pub returns-in_err-write_octets-clause-part : goal.returns-in_err-write_octets-clause-part
returns-in_err-write_octets-clause-part g c =
    let p = err_from_is_err_and c.from_residual-in_err-write_octets.result c.from_residual-in_err-write_octets.ensures.1 in
    let v = c.walk.invariant.write in
    let w = gathered _ _ _ _ _ _ _ _ _ _ (change_of c.in-Some.change) v (some_taken _ _ _ _ c.in-Some.is (c.in_ok-change.ensures.taken c.args.case c.args.zone.now.records c.args.other.now.records v.gone v.come v.left_are)) c.in_ok-push_change.ensures in
    rw p.1 (stopped _ _ _ _ _ _ _ _ _ _ w c.deref.ensures.value c.in_err-write_octets.ensures.part)

pub walk-preserved-then-len-ge-WRITE_LEN : goal.walk-preserved-then-len-ge-WRITE_LEN
walk-preserved-then-len-ge-WRITE_LEN g c =
    let v = c.walk.invariant.write in
    let w = gathered _ _ _ _ _ _ _ _ _ _ (change_of c.in-Some.change) v (some_taken _ _ _ _ c.in-Some.is (c.in_ok-change.ensures.taken c.args.case c.args.zone.now.records c.args.other.now.records v.gone v.come v.left_are)) c.in_ok-push_change.ensures in
    record {
      write = rw c.clear.ensures.items (taken _ _ _ _ _ _ _ _ _ _ w c.deref.ensures.value c.in_ok-write_octets.ensures.written);
      works = λ worked. c.in_ok-write_octets.ensures.works (c.walk.invariant.works worked);
    }

pub walk-preserved : goal.walk-preserved
walk-preserved g c =
    let v = c.walk.invariant.write in
    record {
      write = gathered _ _ _ _ _ _ _ _ _ _ (change_of c.in-Some.change) v (some_taken _ _ _ _ c.in-Some.is (c.in_ok-change.ensures.taken c.args.case c.args.zone.now.records c.args.other.now.records v.gone v.come v.left_are)) c.in_ok-push_change.ensures;
      works = c.walk.invariant.works;
    }

pub returns-clause-text : goal.returns-clause-text
returns-clause-text g c =
    let w = c.walk.invariant.write in
    ended _ _ _ _ _ _ _ _ _ _ w (none_taken _ _ _ c.in_default.is (c.in_ok-change.ensures.taken c.args.case c.args.zone.now.records c.args.other.now.records w.gone w.come w.left_are)) c.deref-2.ensures.value c.in_ok-write_octets-2.ensures.written

pub returns-in_err-write_octets-2-clause-part : goal.returns-in_err-write_octets-2-clause-part
returns-in_err-write_octets-2-clause-part g c =
    let p = err_from_is_err_and c.from_residual-in_err-write_octets-2.result c.from_residual-in_err-write_octets-2.ensures.1 in
    let w = c.walk.invariant.write in
    rw p.1 (ended_part _ _ _ _ _ _ _ _ _ _ w (none_taken _ _ _ c.in_default.is (c.in_ok-change.ensures.taken c.args.case c.args.zone.now.records c.args.other.now.records w.gone w.come w.left_are)) c.deref-2.ensures.value c.in_err-write_octets-2.ensures.part)

pub returns-in_err-changes-clause-part : goal.returns-in_err-changes-clause-part
returns-in_err-changes-clause-part g c =
    let p = err_from_is_err_and c.from_residual.result c.from_residual.ensures.1 in
    let fails = c.in_err-changes.ensures.fails in
    rw p.1 (not_begun _ _ _ _ fails.1.0 fails.1.1 fails.0)

pub returns-in_err-change-clause-part : goal.returns-in_err-change-clause-part
returns-in_err-change-clause-part g c =
    let p = err_from_is_err_and c.from_residual-in_err-change.result c.from_residual-in_err-change.ensures.1 in
    let w = c.walk.invariant.write in
    rw p.1 (interrupted _ _ _ _ _ _ _ _ w (c.in_err-change.ensures.fails c.args.case c.args.zone.now.records c.args.other.now.records w.gone w.come w.left_are))
