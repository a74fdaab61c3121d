use Rattle.zone_engine.proofs.Common.{◌≡◌, ◌-◌, ◌+◌, false, BeginsAs, IsLoadedOf, WorksOn}
use Rattle.zone_engine.proofs.Feeding.{HasFed}
use Rattle.zone_engine.proofs.input.read_zone.Given as goal

-- what the reader gave so far was taken, and is at most one octet over the limit
abbrev pub invariant-loop-count : goal.invariant-loop-count
invariant-loop-count g l =
    let state = g.R.OctetReader.state in
    let source = l.initial.source in
    record {
      fed : HasFed (BeginsAs g.S.FedSource.IsOf g.S.FedSource.Leave (g.S.RrSource.pending source) (g.S.FedSource.held source)) (IsLoadedOf g.S.FedSource.IsOf g.S.FedSource.Leave (g.S.RrSource.pending l.source) (g.S.FedSource.held l.source) l.loader.list l.loader.refusal) (state l.initial.reader).octets (state l.reader).octets l.count (g.S.FedSource.held l.source).fed l.limit;
      works : WorksOn (state l.initial.reader) (state l.reader);
      going : (g.S.FedSource.held l.source).finished ≡ false;
    }

-- the octets that may still come
abbrev pub decreases-loop-count : goal.decreases-loop-count
decreases-loop-count g l = l.limit + 1 - l.count
