use Rattle.zone_rdata.proofs.Common.{refl}
use Rattle.zone_rdata.proofs.Items.Forms.{stated_data, stated_low}
use Rattle.zone_rdata.proofs.laws.items.stated_data_is_data.Goals as goal

pub returns : goal.returns
returns c = λ origin class kind items octets x. stated_data origin class kind _ items octets refl x.stated (stated_low origin _ items octets x.stated)
