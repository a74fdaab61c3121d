-- Character-strings have few items.
use Rattle.type_data.proofs.Common.{List, RawItem, ap, arith, length, length-map, ℕ, ◌≤◌}
use Rattle.zone_name.proofs.InOctets.Octets.{length-frames}
use Rattle.zone_rdata.specs.Item.{quoted}
use Rattle.zone_rdata.specs.Strings.{inside_text}
use Rattle.type_data.specs.Kinds.Strings.{PrintsStrings}

pub strings_few : (items : List RawItem) (octets : List ℕ) → PrintsStrings items octets → length items ≤ length octets
strings_few items octets printed = omega (arith, ap length printed.printed, ap length printed.value, length-frames printed.strings, length-map printed.strings (λ string. quoted (inside_text string)))
