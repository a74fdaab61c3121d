-- Character-strings that are printed state their octets.
use Rattle.type_data.proofs.Common.{AllByRecursion, AllZip, List, RawItem, [], arith, length, map, refl, subst, sym, ℕ, ◌∷◌, ◌≡◌}
use Rattle.zone_rdata.proofs.Strings.StringLaws.{printed_spells}
use Rattle.zone_rdata.specs.Item.{quoted}
use Rattle.zone_rdata.specs.Strings.{IsString, SpellsString, inside_text}
use Rattle.type_data.proofs.OfKinds.Strings.Printed.{as_item}
use Rattle.type_data.specs.Kinds.Salt.{some}
use Rattle.type_data.specs.Kinds.Strings.{IsAString, PrintsString, PrintsStrings, StatesStrings}

pub string_printed_states : (text octets : List ℕ) → PrintsString text octets → IsAString text octets
string_printed_states text octets printed =
    (quoted (inside_text printed.string), record { string = printed.string; spelt = printed_spells printed.string printed.is; value = printed.value }, printed.printed)

each_spelt : (strings : List (List ℕ)) → AllByRecursion IsString strings → AllZip SpellsString (map as_item strings) strings
each_spelt [] each = tt
each_spelt (s ∷ strings) each = (printed_spells s each.0, each_spelt strings each.1)

as_many : (strings : List (List ℕ)) → length (map as_item strings) ≡ length strings
as_many [] = refl
as_many (s ∷ strings) = omega (arith, as_many strings)

pub strings_printed_states : (items : List RawItem) (octets : List ℕ) → PrintsStrings items octets → StatesStrings items octets
strings_printed_states items octets printed =
    let some = printed.are.some in
    subst (λ items. StatesStrings items octets) (sym printed.printed) (record {
      strings = printed.strings;
      spelt = record { some = omega (arith, some, as_many printed.strings); each = each_spelt printed.strings printed.are.each };
      value = printed.value;
    })
