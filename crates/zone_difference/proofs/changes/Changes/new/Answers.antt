-- The first record that goes and the first that comes are taken.
use Rattle.std.proofs.lemmas.Result.{err_from_is_err_and}
use Rattle.zone_difference.proofs.HaveChanges.{in_order}
use Rattle.zone_difference.proofs.changes.Changes.new.Goals as goal

pub next-requires : goal.next-requires
next-requires c = let l = c.new-removed.ensures in (c.args.case, c.args.other.now.records, l.0, l.1)

pub next-requires-2 : goal.next-requires-2
next-requires-2 c = let l = c.new-added.ensures in (c.args.case, c.args.zone.now.records, l.0, l.1)

pub returns-clause-left : goal.returns-clause-left
returns-clause-left c =
    let gone = c.new-removed.ensures in
    let come = c.new-added.ensures in (
      gone.0,
      come.0,
      record {
        removals = c.in_ok-removal.ensures.taken c.args.case c.args.other.now.records gone.0 gone.1;
        additions = c.in_ok-addition.ensures.taken c.args.case c.args.zone.now.records come.0 come.1;
      },
      record { gone = gone.2; come = come.2 },
    )

pub returns-in_err-removal-clause-fails : goal.returns-in_err-removal-clause-fails
returns-in_err-removal-clause-fails c =
    let p = err_from_is_err_and c.from_residual.result c.from_residual.ensures.1 in
    let gone = c.new-removed.ensures in
    let come = c.new-added.ensures in
    rw p.1 (c.in_err-removal.ensures.fails c.args.case c.args.other.now.records gone.0 gone.1, in_order c.args.case _ _ gone.0 come.0 (record { gone = gone.2; come = come.2 }))

pub returns-in_err-addition-clause-fails : goal.returns-in_err-addition-clause-fails
returns-in_err-addition-clause-fails c =
    let p = err_from_is_err_and c.from_residual-in_err-addition.result c.from_residual-in_err-addition.ensures.1 in
    let gone = c.new-removed.ensures in
    let come = c.new-added.ensures in
    rw p.1 (c.in_err-addition.ensures.fails c.args.case c.args.zone.now.records come.0 come.1, in_order c.args.case _ _ gone.0 come.0 (record { gone = gone.2; come = come.2 }))
