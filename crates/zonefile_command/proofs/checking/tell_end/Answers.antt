use Rattle.std.proofs.KnownBytes.{Keeps-refl}
use Rattle.zonefile_command.proofs.Counted.{after, some_faults}
use Rattle.zonefile_command.proofs.checking.tell_end.Goals as goal

pub returns-then-count-eq0 : goal.returns-then-count-eq0
returns-then-count-eq0 g c = rw (c.in-Accepted.is, c.if-count-eq0.true) (after _ _ _ _ c.tell_count.ensures)

pub returns-else-count-eq0 : goal.returns-else-count-eq0
returns-else-count-eq0 g c = rw c.in-Accepted.is (some_faults _ c.args.count c.in-Accepted.records _ _ c.if-count-eq0.false (after _ _ _ _ c.tell_faults.ensures))

pub returns-in-Enough : goal.returns-in-Enough
returns-in-Enough g c = rw c.in-Enough.is (after _ _ _ _ c.tell_faults-in-Enough.ensures)

pub returns-in-Last : goal.returns-in-Last
returns-in-Last g c = rw c.in-Last.is (after _ _ _ _ c.tell_faults-in-Last.ensures)

pub returns-in-Unread : goal.returns-in-Unread
returns-in-Unread g c =
    let t = c.tell_stop.ensures in
    rw c.in-Unread.is (record { line = t.0; is = t.1; telling = t.2; keeps = Keeps-refl _; works = λ w. w })
