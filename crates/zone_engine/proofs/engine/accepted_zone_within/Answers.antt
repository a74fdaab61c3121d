use Rattle.zone_engine.proofs.Common.{◌≤◌, ◌<◌, length, refl, arith, false≢true, canon, text_limit, IfSome_then}
use Rattle.zone_engine.proofs.Feeding.{is_input}
use Rattle.zone_engine.proofs.Reading.Readers.{stops_refused}
use Rattle.zone_engine.proofs.Written.{denotes_zone, large}
use Rattle.zone_engine.proofs.engine.accepted_zone_within.Goals as goal

pub returns-then-not-text_fits-clause-read : goal.returns-then-not-text_fits-clause-read
returns-then-not-text_fits-clause-read g c =
    let never : length (canon c.in_ok-stated.stated) ≤ text_limit → ⊥ = λ short. false≢true (c.if-not-text_fits.ensures.1 short) in
    let long : text_limit < length (canon c.in_ok-stated.stated) = omega (arith, never) in
    stops_refused _ _ _ _ _ _ c.in_ok-stated.ensures.read (IfSome_then _ c.in_ok-stated.ensures.zone (λ octets reads. large _ c.requires _ _ reads long))

pub returns-clause-zone : goal.returns-clause-zone
returns-clause-zone g c =
    let short : length (canon c.in_ok-stated.stated) ≤ text_limit = c.if-not-text_fits.ensures.0 refl in
    IfSome_then _ c.in_ok-stated.ensures.zone (λ octets reads. denotes_zone _ c.requires _ _ reads c.what_is_read_is_stated.ensures (is_input _ octets c.in_ok-stated.ensures.form reads.each) short)
