use Rattle.zone_engine.proofs.Common.{err_from_is_err_and, IfSome_then}
use Rattle.zone_engine.proofs.Feeding.{is_input}
use Rattle.zone_engine.proofs.Written.{normalises, stops_unwritten, stops_when_read, stops_writing}
use Rattle.zone_engine.proofs.engine.normalise.Goals as goal

pub returns-in_err-zone-clause-stopped : goal.returns-in_err-zone-clause-stopped
returns-in_err-zone-clause-stopped g c =
    let p = err_from_is_err_and c.from_residual.result c.from_residual.ensures.1 in
    rw (p.1, p.2) (stops_unwritten _ _ _ _ c.in_err-zone.ensures.stopped)

pub returns-in_err-write_zone-clause-stopped : goal.returns-in_err-write_zone-clause-stopped
returns-in_err-write_zone-clause-stopped g c =
    let p = err_from_is_err_and c.from_residual-in_err-write_zone.result c.from_residual-in_err-write_zone.ensures.1 in
    rw (p.1, p.2) (stops_writing _ _ _ _ _ _ c.in_ok-zone.ensures.zone c.in_err-write_zone.ensures.stopped c.what_is_read_is_stated.ensures (λ octets reads. is_input _ octets c.in_ok-zone.ensures.form reads.each))

pub returns-in_err-write_zone-clause-read : goal.returns-in_err-write_zone-clause-read
returns-in_err-write_zone-clause-read g c =
    let p = err_from_is_err_and c.from_residual-in_err-write_zone.result c.from_residual-in_err-write_zone.ensures.1 in
    rw (p.1, p.2) (stops_when_read _ _ _ _ _ _ c.in_ok-zone.ensures.zone c.in_err-write_zone.ensures.stopped _ c.in_ok-zone.ensures.read)

pub returns-clause-accepted : goal.returns-clause-accepted
returns-clause-accepted g c =
    IfSome_then _ c.in_ok-zone.ensures.zone (λ octets reads. normalises _ _ reads c.what_is_read_is_stated.ensures (is_input _ octets c.in_ok-zone.ensures.form reads.each) _ _ _ c.in_ok-write_zone.ensures.text c.in_ok-write_zone.ensures.short c.len.ensures)
