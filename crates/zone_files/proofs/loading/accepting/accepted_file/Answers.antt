use Rattle.std.proofs.Common.{◌≡◌, ◌<◌, ◌≤◌, ◌+◌, ◌++◌, [], length, length-append, refl, sym, ◌∙◌, arith, rules}
use Rattle.std.proofs.KnownBytes.{Consumes-nil, Consumes-trans, Consumes-whole}
use Rattle.std.proofs.lemmas.Result.{MatchResult-weaker}
use Rattle.zone_print.specs.Canonical.{text_limit}
use Rattle.zone_files.specs.Loading.Reading.{IsRefusalOf}
use Rattle.zone_files.specs.Presentation.{PresentationDenotes, master_file}
use Rattle.zone_files.proofs.Presenting.Readers.{consumed_none, failed_is_of_reading, judged, no_octets, of_reading, stops_failed, stops_long, stops_memory, too_many}
use Rattle.zone_files.proofs.loading.accepting.accepted_file.Goals as goal

pub returns-in-Err-clause-read : goal.returns-in-Err-clause-read
returns-in-Err-clause-read g c =
    let fed = c.loop-count.invariant.fed in
    rw c.of_stop.ensures (stops_failed (master_file c.args.origin.now) _ _ (g.R.OctetReader.state c.loop-count.reader) fed.given c.in-Err.stop fed.consumed (rw fed.counted fed.few) c.loop-count.invariant.works c.in-Err.ensures.kept c.in-Err.ensures.failed)

pub returns-then-is_empty-clause-zone : goal.returns-then-is_empty-clause-zone
returns-then-is_empty-clause-zone g c =
    let fed = c.loop-count.invariant.fed in
    let nothing = no_octets _ (sym c.is_empty.ensures ∙ c.if-is_empty.true) in
    MatchResult-weaker c.finish.result c.finish.ensures.zone (λ z own.
    Consumes-whole _ _ fed.given (λ octets. PresentationDenotes c.args.origin.now octets z) (consumed_none _ _ _ _ _ fed.consumed c.in-Ok.ensures.taken nothing) (c.in-Ok.ensures.end nothing)
    (own c.args.origin.now fed.given fed.taken)) (λ refusal h. h)

pub returns-then-is_empty-clause-read : goal.returns-then-is_empty-clause-read
returns-then-is_empty-clause-read g c =
    let fed = c.loop-count.invariant.fed in
    let nothing = no_octets _ (sym c.is_empty.ensures ∙ c.if-is_empty.true) in
    let consumed = consumed_none _ _ _ _ _ fed.consumed c.in-Ok.ensures.taken nothing in
    judged (master_file c.args.origin.now) _ _ c.finish.result
    (record { few = (fed.given, rw fed.counted fed.few, consumed); whole = c.in-Ok.ensures.end nothing; works = λ worked. c.in-Ok.ensures.works (c.loop-count.invariant.works worked) })
    c.finish.ensures.stopped
    (MatchResult-weaker c.finish.result c.finish.ensures.fault (λ z h. h) (λ refusal own.
    Consumes-whole _ _ fed.given (λ octets. IsRefusalOf (master_file c.args.origin.now octets) refusal) consumed (c.in-Ok.ensures.end nothing)
    (own c.args.origin.now fed.given fed.taken)))

pub returns-in-Err-feed-clause-read : goal.returns-in-Err-feed-clause-read
returns-in-Err-feed-clause-read g c =
    let fed = c.loop-count.invariant.fed in
    let more : c.loop-count.count + length c.in-Ok.given.now ≤ text_limit + 1 = search rules in
    rw c.of_stop-memory.ensures (stops_memory (master_file c.args.origin.now) _ _ c.in-Err-feed.stop
    (fed.given ++ c.in-Ok.given.now, rw length-append (rw fed.counted more), Consumes-trans _ _ _ _ _ fed.consumed c.in-Ok.ensures.taken)
    (λ worked. c.in-Ok.ensures.works (c.loop-count.invariant.works worked)) c.in-Err-feed.ensures.memory)

pub loop-count-preserved : goal.loop-count-preserved
loop-count-preserved g c =
    let fed = c.loop-count.invariant.fed in
    record {
      fed = record {
        given = fed.given ++ c.in-Ok.given.now;
        consumed = Consumes-trans _ _ _ _ _ fed.consumed c.in-Ok.ensures.taken;
        counted = rw length-append (rw fed.counted refl);
        few = search rules;
        taken = c.in-Ok-feed.ensures.stands c.args.origin.now fed.given fed.taken;
      };
      works = λ worked. c.in-Ok.ensures.works (c.loop-count.invariant.works worked);
    }

pub returns-clause-read : goal.returns-clause-read
returns-clause-read g c =
    let fed = c.loop-count.invariant.fed in
    let long : length fed.given ≡ text_limit + 1 = rw fed.counted (omega (arith, fed.few)) in
    rw c.of_stop-long.ensures (stops_long (master_file c.args.origin.now) _ _ fed.given fed.consumed long c.loop-count.invariant.works
    (too_many c.args.origin.now _ _ fed.given fed.consumed (rw fed.counted (omega arith))))
