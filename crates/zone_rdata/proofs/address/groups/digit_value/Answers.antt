use Rattle.std.proofs.lemmas.Bool.{agree_below_at}
use Rattle.zone_rdata.proofs.Common.{eqb-true, get_or, refl, true, ◌==◌}
use Rattle.hex.specs.Hex.{hex_digit_value}
use Rattle.zone_rdata.specs.Machine.AddressReading.{value_or_255}
use Rattle.zone_rdata.specs.declared.address.groups.TheConstants.{DIGIT_VALUES}
use Rattle.zone_rdata.proofs.address.groups.digit_value.Goals as goal

pub returns : goal.returns
returns c =
    eqb-true (get_or DIGIT_VALUES c.args.octet 0) (value_or_255 (hex_digit_value c.args.octet))
    (agree_below_at (λ octet. get_or DIGIT_VALUES octet 0 == value_or_255 (hex_digit_value octet)) (λ octet. true) 256 c.args.octet refl c.ranges.octet.fits)
