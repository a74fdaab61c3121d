use Rattle.words_command.proofs.Halting.{◌<◌, ◌++◌, [], length, refl, sym, arith, Appends-trans, Consumes-trans, inside_grown, most_octets}
use Rattle.std.proofs.Common.{◌∙◌, length-append, rules}
use Rattle.std.proofs.KnownBytes.{Appends-nil, Consumes-nil}
use Rattle.std.proofs.lemmas.Result.{err_from_is_err_and}
use Rattle.zone_engine.proofs.Feeding.{consumed_none, no_octets}
use Rattle.words_command.proofs.Feeding.{halts_unread, halts_long, halts_memory, halts_unwritten}
use Rattle.words_command.specs.Filtering as runs
use Rattle.words_command.proofs.filtering.feed_all.Goals as goal

pub loop-count-init : goal.loop-count-init
loop-count-init g c = record {
  octets = [];
  given = [];
  read = Consumes-nil _;
  written = Appends-nil _;
  ends = c.requires.begun;
  works = (λ w. w, λ w. w);
  counted = refl;
  few = rw c.requires.unfed (search rules);
  going = c.requires.going;
  stands = λ under begun. begun;
}

pub returns-then-is_empty-clause-read : goal.returns-then-is_empty-clause-read
returns-then-is_empty-clause-read g c = λ under begun.
    let fed = c.loop-count.invariant in
    let nothing = no_octets _ (sym c.is_empty.ensures ∙ c.if-is_empty.true) in
    record {
      octets = fed.octets;
      read = consumed_none _ _ _ _ _ fed.read c.in_ok-given.ensures.taken nothing;
      to_end = c.in_ok-given.ensures.end nothing;
      text = fed.given;
      is = (fed.stands under begun, fed.ends);
      written = fed.written;
      works = (λ w. c.in_ok-given.ensures.works (fed.works.0 w), fed.works.1);
    }

pub returns-in_err-given-clause-halted : goal.returns-in_err-given-clause-halted
returns-in_err-given-clause-halted g c =
    let fed = c.loop-count.invariant in
    let p = err_from_is_err_and c.from_residual.result c.from_residual.ensures.1 in
    rw (p.1, p.2, c.in_err-given.ensures.read) (λ under begun.
    halts_unread (g.F.Filter.writes under) _ _ _ (g.R.OctetReader.state c.loop-count.input) _ _ fed.octets fed.given fed.read fed.written fed.ends fed.works _ (g.met.F.Filter.so_far under c.loop-count.filter fed.octets fed.given (fed.stands under begun)) c.in_err-given.ensures.kept c.in_err-given.ensures.failed)

pub returns-in_err-feed-clause-halted : goal.returns-in_err-feed-clause-halted
returns-in_err-feed-clause-halted g c =
    let fed = c.loop-count.invariant in
    let p = err_from_is_err_and c.from_residual-in_err-feed.result c.from_residual-in_err-feed.ensures.1 in
    rw (p.1, p.2) (λ under begun.
    halts_memory (g.F.Filter.writes under) _ _ _ _ _ _ (fed.octets ++ c.in_ok-given.given.now) fed.given (Consumes-trans _ _ _ _ _ fed.read c.in_ok-given.ensures.taken) fed.written fed.ends
    (λ w. c.in_ok-given.ensures.works (fed.works.0 w), fed.works.1) (c.in_err-feed.ensures.in_part under fed.octets fed.given (fed.stands under begun)))

pub returns-in_err-write_held-clause-halted : goal.returns-in_err-write_held-clause-halted
returns-in_err-write_held-clause-halted g c =
    let fed = c.loop-count.invariant in
    let p = err_from_is_err_and c.from_residual-in_err-write_held.result c.from_residual-in_err-write_held.ensures.1 in
    rw (p.1, p.2, c.in_err-write_held.ensures.write) (λ under begun.
    halts_unwritten (g.F.Filter.writes under) _ _ _ _ _ (g.W.OctetWriter.state c.loop-count.output) (fed.octets ++ c.in_ok-given.given.now) fed.given (Consumes-trans _ _ _ _ _ fed.read c.in_ok-given.ensures.taken) fed.written fed.ends
    (λ w. c.in_ok-given.ensures.works (fed.works.0 w), fed.works.1) (g.F.Filter.held c.feed.new.self) _
    (runs.so_far (g.met.F.Filter.so_far under c.feed.new.self _ _ (c.in_ok-feed.ensures.stands under fed.octets fed.given (fed.stands under begun)))) c.in_err-write_held.ensures.part c.in_err-write_held.ensures.failed _)

pub loop-count-preserved : goal.loop-count-preserved
loop-count-preserved g c =
    let fed = c.loop-count.invariant in
    record {
      octets = fed.octets ++ c.in_ok-given.given.now;
      given = fed.given ++ g.F.Filter.held c.feed.new.self;
      read = Consumes-trans _ _ _ _ _ fed.read c.in_ok-given.ensures.taken;
      written = Appends-trans _ _ _ _ _ fed.written c.in_ok-write_held.ensures.written;
      ends = inside_grown _ _ fed.given (g.F.Filter.held c.feed.new.self) fed.ends c.in_ok-write_held.ensures.inside;
      works = (λ w. c.in_ok-given.ensures.works (fed.works.0 w), λ w. c.in_ok-write_held.ensures.works (fed.works.1 w));
      counted = rw length-append (rw fed.counted refl);
      few = rw (length-append, c.in_ok-write_held.ensures.count) (omega (arith, c.in_ok-feed.ensures.count, fed.few));
      going = c.in_ok-write_held.ensures.going c.in_ok-feed.ensures.going;
      stands = λ under begun. c.in_ok-write_held.ensures.stands under _ _ (c.in_ok-feed.ensures.stands under fed.octets fed.given (fed.stands under begun));
    }

pub returns-clause-halted : goal.returns-clause-halted
returns-clause-halted g c = λ under begun.
    let fed = c.loop-count.invariant in
    let long : most_octets < length fed.octets = rw (sym fed.counted) (omega arith) in
    halts_long (g.F.Filter.writes under) _ _ _ _ _ _ fed.octets fed.given fed.read fed.written fed.ends fed.works (g.met.F.Filter.so_far under c.loop-count.filter fed.octets fed.given (fed.stands under begun)) long
