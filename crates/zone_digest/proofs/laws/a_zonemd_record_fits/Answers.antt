-- It is put where the order has it.
use Rattle.zone_digest.proofs.Fits.{fits}
use Rattle.zone_digest.proofs.laws.a_zonemd_record_fits.Goals as goal

pub returns : goal.returns
returns c = fits
