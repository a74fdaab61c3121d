-- Domain names have few items.
use Rattle.type_data.proofs.Common.{AllZip, List, RawItem, [], ap, arith, flat_map, length, length-append, length-map, with_length, ℕ, ◌∷◌, ◌≤◌}
use Rattle.zone_rdata.specs.Item.{bare}
use Rattle.type_data.specs.EachItem.{EachIsPrinted}
use Rattle.type_data.specs.PrintedData.{PrintsBare}
use Rattle.type_data.specs.declared.field.BareKind.TheVariants.{Name}

names_count : (texts parts : List (List ℕ)) → AllZip (PrintsBare Name) texts parts → length texts ≤ length (flat_map (λ part. part) parts)
names_count [] [] each = omega arith
names_count [] (part ∷ parts) each = absurd each
names_count (text ∷ texts) [] each = absurd each
names_count (text ∷ texts) (part ∷ parts) each =
    omega (arith, names_count texts parts each.1, ap length each.0.3, length-append (flat_map with_length each.0.0) (0 ∷ []), length-append part (flat_map (λ part. part) parts))

pub names_few : (items : List RawItem) (octets : List ℕ) → EachIsPrinted (PrintsBare Name) items octets → length items ≤ length octets
names_few items octets printed = omega (arith, ap length printed.printed, ap length printed.value, names_count printed.texts printed.parts printed.each, length-map printed.texts bare)
