use Rattle.std.proofs.Common.{sym, ◌∙◌}
use Rattle.zone_rdata.specs.Lent.{record_of}
use Rattle.zone_digest.proofs.SoaNumbers.{soa_numbers}
use Rattle.zone_digest.proofs.serial.soa_of.Goals as goal

pub returns-clause-numbers : goal.returns-clause-numbers
returns-clause-numbers c = soa_numbers c.args.zone.now c.records.ensures.zone (record_of c.in-Some.soa) c.next.new.self (sym c.records.ensures.records ∙ c.in-Some.ensures.steps)
