-- Each source begins with nothing, as a source of its form.
use Rattle.zone_engine.proofs.Common.{MatchResult-weaker, as_file, as_transfer}
use Rattle.zone_engine.proofs.Feeding.{file_begins, transfer_begins}
use Rattle.zone_engine.proofs.engine.zone_of.Goals as goal

pub returns-in_ok-zeros-in-File-clause-zone : goal.returns-in_ok-zeros-in-File-clause-zone
returns-in_ok-zeros-in-File-clause-zone g c =
    let new = c.new-source in
    rw c.in-File.is (MatchResult-weaker c.read_zone.result c.read_zone.ensures.zone (λ z reads. reads (as_file _) (file_begins (λ origin placed ending. (c.of_nothing_nothing_is_decided.ensures origin placed ending).0) _ new.result new.ensures.stands new.ensures.going)) (λ stop h. h))

pub returns-in_ok-zeros-in-File-clause-read : goal.returns-in_ok-zeros-in-File-clause-read
returns-in_ok-zeros-in-File-clause-read g c =
    let new = c.new-source in
    rw c.in-File.is (c.read_zone.ensures.read (as_file _) c.known.ensures.name (file_begins (λ origin placed ending. (c.of_nothing_nothing_is_decided.ensures origin placed ending).0) _ new.result new.ensures.stands new.ensures.going))

pub returns-in_ok-zeros-in-Transfer-clause-zone : goal.returns-in_ok-zeros-in-Transfer-clause-zone
returns-in_ok-zeros-in-Transfer-clause-zone g c =
    let new = c.new-source-in-Transfer in
    rw c.in-Transfer.is (MatchResult-weaker c.read_zone-in-Transfer.result c.read_zone-in-Transfer.ensures.zone (λ z reads. reads as_transfer (transfer_begins new.result new.ensures.stands new.ensures.records new.ensures.undecided)) (λ stop h. h))

pub returns-in_ok-zeros-in-Transfer-clause-read : goal.returns-in_ok-zeros-in-Transfer-clause-read
returns-in_ok-zeros-in-Transfer-clause-read g c =
    let new = c.new-source-in-Transfer in
    rw c.in-Transfer.is (c.read_zone-in-Transfer.ensures.read as_transfer tt (transfer_begins new.result new.ensures.stands new.ensures.records new.ensures.undecided))

pub returns-in_ok-zeros-in-File-clause-form : goal.returns-in_ok-zeros-in-File-clause-form
returns-in_ok-zeros-in-File-clause-form g c = rw c.in-File.is c.known.ensures.name
