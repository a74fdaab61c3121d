use Rattle.zone_rdata.proofs.Strings.StringLaws.{string-never_both}
use Rattle.zone_rdata.proofs.laws.string.faulty_string_spells_none.Goals as goal

pub returns : goal.returns
returns c = string-never_both
