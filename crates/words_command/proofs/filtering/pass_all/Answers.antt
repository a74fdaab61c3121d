use Rattle.words_command.proofs.Halting.{[], ◌++◌, Appends-trans}
use Rattle.std.proofs.lemmas.Result.{err_from_is_err_and}
use Rattle.words_command.proofs.Feeding.{halts_begun, halts_memory, halts_unwritten}
use Rattle.words_command.specs.Filtering as runs
use Rattle.words_command.proofs.filtering.pass_all.Goals as goal

pub returns-in_err-piece-clause-halted : goal.returns-in_err-piece-clause-halted
returns-in_err-piece-clause-halted g c =
    let p = err_from_is_err_and c.from_residual.result c.from_residual.ensures.1 in
    rw (p.1, p.2) (λ under begun. halts_begun (g.F.Filter.writes under) _ _ _ _ c.requires.begun (g.met.F.Filter.so_far under c.args.filter.now [] [] begun))

pub returns-in_err-feed_all-clause-halted : goal.returns-in_err-feed_all-clause-halted
returns-in_err-feed_all-clause-halted g c =
    let p = err_from_is_err_and c.from_residual-in_err-feed_all.result c.from_residual-in_err-feed_all.ensures.1 in
    rw (p.1, p.2) c.in_err-feed_all.ensures.halted

pub returns-in_err-finish-clause-halted : goal.returns-in_err-finish-clause-halted
returns-in_err-finish-clause-halted g c =
    let p = err_from_is_err_and c.from_residual-in_err-finish.result c.from_residual-in_err-finish.ensures.1 in
    rw (p.1, p.2) (λ under begun.
    let fed = c.in_ok-feed_all.ensures.read under begun in
    halts_memory (g.F.Filter.writes under) _ _ _ _ _ _ fed.octets fed.text fed.read fed.written fed.is.1 fed.works (c.in_err-finish.ensures.in_part under fed.octets fed.text fed.is.0))

pub returns-in_err-write_held-clause-halted : goal.returns-in_err-write_held-clause-halted
returns-in_err-write_held-clause-halted g c =
    let p = err_from_is_err_and c.from_residual-in_err-write_held.result c.from_residual-in_err-write_held.ensures.1 in
    rw (p.1, p.2, c.in_err-write_held.ensures.write) (λ under begun.
    let fed = c.in_ok-feed_all.ensures.read under begun in
    halts_unwritten (g.F.Filter.writes under) _ _ _ _ _ (g.W.OctetWriter.state c.feed_all.new.output) fed.octets fed.text fed.read fed.written fed.is.1 fed.works (g.F.Filter.held c.finish.new.self) _
    (runs.all (g.met.F.Filter.all under c.finish.new.self _ _ (c.in_ok-finish.ensures.whole under fed.octets fed.text fed.is.0))) c.in_err-write_held.ensures.part c.in_err-write_held.ensures.failed _)

pub returns-clause-done : goal.returns-clause-done
returns-clause-done g c = λ under begun.
    let fed = c.in_ok-feed_all.ensures.read under begun in
    record {
      octets = fed.octets;
      read = fed.read;
      to_end = fed.to_end;
      text = fed.text ++ g.F.Filter.held c.finish.new.self;
      is = c.in_ok-write_held.ensures.whole under _ _ (c.in_ok-finish.ensures.whole under fed.octets fed.text fed.is.0);
      written = Appends-trans _ _ _ _ _ fed.written c.in_ok-write_held.ensures.written;
      works = (fed.works.0, λ w. c.in_ok-write_held.ensures.works (fed.works.1 w));
    }
