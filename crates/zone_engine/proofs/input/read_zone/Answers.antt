use Rattle.zone_engine.proofs.Common.{◌≡◌, rules, refl, sym, ◌∙◌, ◌<◌, ◌≤◌, ◌+◌, ◌++◌, err_from_is_err_and, [], length, length-append, arith, MatchResult-weaker, input_of, ReadsZoneWithin, IfRefused, IsRefusalWithin, Consumes-nil, Consumes-trans, Consumes-whole}
use Rattle.zone_name.proofs.InOctets.Pushing.{AllByRecursion-append}
use Rattle.zone_engine.proofs.Feeding.{begun, within, refused_within, too_many, consumed_none, of_reading, no_octets}
use Rattle.zone_engine.proofs.Reading.Readers.{judged, stops_failed, stops_memory, stops_too_long}
use Rattle.zone_engine.proofs.input.read_zone.Goals as goal

pub loop-count-init : goal.loop-count-init
loop-count-init g c = record {
  fed = record {
    given = [];
    consumed = Consumes-nil _;
    counted = refl;
    each = tt;
    few = search rules;
    fed_few = rw c.requires.unfed (search rules);
    taken = λ form begins. begun g.S.FedSource.IsOf g.S.FedSource.Leave form _ _ _ _ c.new-loader.ensures.lists c.new-loader.ensures.refuses begins;
  };
  works = λ worked. worked;
  going = c.requires.«open»;
}

pub returns-then-is_empty-clause-zone : goal.returns-then-is_empty-clause-zone
returns-then-is_empty-clause-zone g c =
    let fed = c.loop-count.invariant.fed in
    let nothing = no_octets _ (sym c.is_empty.ensures ∙ c.if-is_empty.true) in
    let short : length fed.given ≤ c.args.limit = rw fed.counted (omega arith) in
    MatchResult-weaker c.finish.result c.finish.ensures.zone (λ z reads form begins.
    Consumes-whole _ _ fed.given (λ octets. ReadsZoneWithin c.args.limit (input_of form octets) z) (consumed_none _ _ _ _ _ fed.consumed c.in_ok-given.ensures.taken nothing) (c.in_ok-given.ensures.end nothing)
    (within c.args.limit form fed.given z fed.each short (reads form fed.given (fed.taken form begins)))) (λ stop h. h)

pub returns-then-is_empty-clause-read : goal.returns-then-is_empty-clause-read
returns-then-is_empty-clause-read g c = λ form is begins.
    let fed = c.loop-count.invariant.fed in
    let nothing = no_octets _ (sym c.is_empty.ensures ∙ c.if-is_empty.true) in
    let short : length fed.given ≤ c.args.limit = rw fed.counted (omega arith) in
    let consumed = consumed_none _ _ _ _ _ fed.consumed c.in_ok-given.ensures.taken nothing in
    judged c.args.limit (input_of form) _ _ c.finish.result _
    (record { few = (fed.given, rw fed.counted fed.few, consumed); whole = c.in_ok-given.ensures.end nothing; works = λ worked. c.in_ok-given.ensures.works (c.loop-count.invariant.works worked) })
    c.finish.ensures.stopped c.finish.ensures.fault
    (λ stop refuses. Consumes-whole _ _ fed.given (λ octets. IfRefused stop (IsRefusalWithin c.args.limit (input_of form octets))) consumed (c.in_ok-given.ensures.end nothing)
    (refused_within c.args.limit form fed.given stop short (refuses form fed.given is fed.each (fed.taken form begins))))

pub returns-then-is_empty-clause-stopped : goal.returns-then-is_empty-clause-stopped
returns-then-is_empty-clause-stopped g c = MatchResult-weaker c.finish.result c.finish.ensures.stopped (λ z h. h) of_reading

pub returns-in_err-given-clause-read : goal.returns-in_err-given-clause-read
returns-in_err-given-clause-read g c =
    let fed = c.loop-count.invariant.fed in
    let p = err_from_is_err_and c.from_residual.result c.from_residual.ensures.1 in
    rw (p.1, p.2) (λ form is begins. stops_failed c.args.limit (input_of form) _ (g.R.OctetReader.state c.loop-count.reader) _ fed.given _ fed.consumed (rw fed.counted fed.few) c.loop-count.invariant.works c.in_err-given.ensures.kept c.in_err-given.ensures.failed)

pub returns-in_err-take-clause-read : goal.returns-in_err-take-clause-read
returns-in_err-take-clause-read g c =
    let fed = c.loop-count.invariant.fed in
    let p = err_from_is_err_and c.from_residual-in_err-take.result c.from_residual-in_err-take.ensures.1 in
    let more : c.loop-count.count + length c.in_ok-given.given.now ≤ c.args.limit + 1 = search rules in
    rw (p.1, p.2) (λ form is begins. stops_memory c.args.limit (input_of form) _ _ _
    (fed.given ++ c.in_ok-given.given.now, rw length-append (rw fed.counted more), Consumes-trans _ _ _ _ _ fed.consumed c.in_ok-given.ensures.taken)
    (λ worked. c.in_ok-given.ensures.works (c.loop-count.invariant.works worked)) c.in_err-take.ensures.stopped)

pub loop-count-preserved : goal.loop-count-preserved
loop-count-preserved g c =
    let fed = c.loop-count.invariant.fed in
    record {
      fed = record {
        given = fed.given ++ c.in_ok-given.given.now;
        consumed = Consumes-trans _ _ _ _ _ fed.consumed c.in_ok-given.ensures.taken;
        counted = rw length-append (rw fed.counted refl);
        each = AllByRecursion-append (λ c. c < 256) fed.given c.in_ok-given.given.now fed.each c.take.ensures.octets;
        few = search rules;
        fed_few = search (rules, c.take.ensures.fed, fed.fed_few);
        taken = λ form begins. c.in_ok-take.ensures.taken form fed.given (fed.taken form begins);
      };
      works = λ worked. c.in_ok-given.ensures.works (c.loop-count.invariant.works worked);
      going = c.in_ok-take.ensures.«open»;
    }

pub returns-clause-read : goal.returns-clause-read
returns-clause-read g c = λ form is begins.
    let fed = c.loop-count.invariant.fed in
    let long : length fed.given ≡ c.args.limit + 1 = rw fed.counted (omega (arith, fed.few)) in
    stops_too_long c.args.limit (input_of form) _ _ fed.given fed.consumed long c.loop-count.invariant.works
    (too_many c.args.limit form _ _ fed.given fed.consumed (rw fed.counted (omega arith)))
