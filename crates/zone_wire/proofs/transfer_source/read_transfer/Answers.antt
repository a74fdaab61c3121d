use Rattle.std.specs.Prelude.{OnOk, is_ok}
use Rattle.zone_rdata.specs.FedSource.{SourceState}
use Rattle.zone_wire.proofs.Common.{Err, Ok, Result, StreamKept, StreamReads, [], subst, sym, ◌≡◌}
use Rattle.zone_wire.proofs.transfer_source.read_transfer.Goals as goal

-- what a call ensures of `Ok`, where `?` after `map_err` found it
if_ok : {T E D P : Type 0} {x : T} (r : Result T E) (mapped : Result T D) → is_ok mapped ≡ is_ok r → mapped ≡ Ok x → OnOk r P → P
if_ok (Ok y) mapped same is holds = holds
if_ok (Err e) mapped same is holds = cc

pub returns : goal.returns
returns c =
    let fed = if_ok c.feed.result _ c.map_err.ensures.variant c.in_ok-map_err.was c.feed.ensures.stands in
    let ended = if_ok c.finish.result _ c.map_err-2.ensures.variant c.in_ok-map_err-2.was c.finish.ensures.stands in
    let finished = if_ok c.finish.result _ c.map_err-2.ensures.variant c.in_ok-map_err-2.was c.finish.ensures.finishes.finished in
    let stands = ended c.args.stream.now [] (fed [] [] c.new-source.ensures.stands) in
    rw (c.into_reading.ensures.records, c.into_reading.ensures.ending)
    (subst (λ (s : SourceState StreamKept). StreamReads c.args.stream.now s.pending.records s.pending.ending) (sym c.source-2.view_is) (stands.read finished))
