use Rattle.zone_engine.proofs.Common.{err_from_is_err_and, MatchResult-weaker}
use Rattle.zone_engine.proofs.Reading.Taken.{zone_of_records, zone_read, listing_refused, settling_refused, settling_is_of_bytes, finishing_is_of_bytes, finishing_refused, first_is_of_bytes}
use Rattle.zone_engine.proofs.loader.ZoneLoader.finish.Goals as goal

pub returns-in-Err-clause-fault : goal.returns-in-Err-clause-fault
returns-in-Err-clause-fault g c = λ form octets is each taken.
    listing_refused g.S.FedSource.IsOf g.S.FedSource.Leave form _ (g.S.RrSource.pending c.finish.new.self) _ (g.S.FedSource.held c.finish.new.self) c.args.self.list octets c.args.self.refusal c.in-None.is
    c.in_ok-finish-in-None.ensures.finishes.finished (λ given. c.in_ok-finish-in-None.ensures.stands form octets given) c.take_lent.new.self _ c.in-Err.stop c.first_stop.result c.in-Err.ensures.stopped c.first_stop.ensures taken

pub returns-in-Err-clause-stopped : goal.returns-in-Err-clause-stopped
returns-in-Err-clause-stopped g c = first_is_of_bytes _ _ _ _ _ _ c.in-Err.ensures.stopped c.first_stop.ensures

pub returns-in_err-settle-in-Ok-clause-fault : goal.returns-in_err-settle-in-Ok-clause-fault
returns-in_err-settle-in-Ok-clause-fault g c =
    let p = err_from_is_err_and c.from_residual-in_err-settle-in-Ok.result c.from_residual-in_err-settle-in-Ok.ensures.1 in
    rw (p.1, p.2) (λ form octets is each taken.
    settling_refused g.S.FedSource.IsOf g.S.FedSource.Leave form _ (g.S.RrSource.pending c.finish.new.self) _ (g.S.FedSource.held c.finish.new.self) c.args.self.list octets c.args.self.refusal c.in-None.is
    c.in_ok-finish-in-None.ensures.finishes.finished (λ given. c.in_ok-finish-in-None.ensures.stands form octets given) c.take_lent.new.self _ _ c.in-Ok.ensures.taken c.in_err-settle-in-Ok.ensures.refused taken)

pub returns-in_err-settle-in-Ok-clause-stopped : goal.returns-in_err-settle-in-Ok-clause-stopped
returns-in_err-settle-in-Ok-clause-stopped g c =
    let p = err_from_is_err_and c.from_residual-in_err-settle-in-Ok.result c.from_residual-in_err-settle-in-Ok.ensures.1 in
    rw (p.1, p.2) (settling_is_of_bytes _ _ c.in_err-settle-in-Ok.ensures.refused)

pub returns-in_ok-settle-in-Ok-clause-zone : goal.returns-in_ok-settle-in-Ok-clause-zone
returns-in_ok-settle-in-Ok-clause-zone g c =
    MatchResult-weaker c.finish-in-Ok.result (zone_of_records c.finish-in-Ok.result _ c.finish-in-Ok.ensures.zone c.finish-in-Ok.ensures.records) (λ z (zone, records) form octets taken.
    zone_read g.S.FedSource.IsOf g.S.FedSource.Leave form _ (g.S.RrSource.pending c.finish.new.self) _ (g.S.FedSource.held c.finish.new.self) c.args.self.list octets c.args.self.refusal c.in-None.is
    c.in_ok-finish-in-None.ensures.finishes.finished (λ given. c.in_ok-finish-in-None.ensures.stands form octets given) c.take_lent.new.self _ _ z c.in-Ok.ensures.taken c.in_ok-settle-in-Ok.ensures.taken zone records taken) (λ stop h. h)

pub returns-in_ok-settle-in-Ok-clause-fault : goal.returns-in_ok-settle-in-Ok-clause-fault
returns-in_ok-settle-in-Ok-clause-fault g c =
    MatchResult-weaker c.finish-in-Ok.result c.finish-in-Ok.ensures.stopped (λ z h. h) (λ stop stops form octets is each taken.
    finishing_refused g.S.FedSource.IsOf g.S.FedSource.Leave form _ (g.S.RrSource.pending c.finish.new.self) _ (g.S.FedSource.held c.finish.new.self) c.args.self.list octets c.args.self.refusal c.in-None.is
    c.in_ok-finish-in-None.ensures.finishes.finished (λ given. c.in_ok-finish-in-None.ensures.stands form octets given) c.take_lent.new.self _ _ stop c.in-Ok.ensures.taken c.in_ok-settle-in-Ok.ensures.taken stops taken)

pub returns-in_ok-settle-in-Ok-clause-stopped : goal.returns-in_ok-settle-in-Ok-clause-stopped
returns-in_ok-settle-in-Ok-clause-stopped g c =
    MatchResult-weaker c.finish-in-Ok.result c.finish-in-Ok.ensures.stopped (λ z h. h) (λ stop stops. finishing_is_of_bytes _ stop stops)
