use Rattle.zone_rdata.proofs.Common.{lower_digits, refl}
use Rattle.zone_rdata.proofs.digits.digits_of.Goals as goal

pub returns : goal.returns
returns c = c.written_by.ensures lower_digits refl refl
