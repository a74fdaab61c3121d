-- Character-strings that are printed stand on a line as they are, of octets that a
-- terminal shows.
use Rattle.zone_rdata.specs.Item.{quoted}
use Rattle.zone_rdata.specs.Strings.{IsString, inside_text}
use Rattle.type_data.proofs.Common.{AllByRecursion, List, RawItem, [], map, subst, sym, ℕ, ◌∷◌}
use Rattle.type_data.proofs.Printed.Graphic.{graphic_inside}
use Rattle.type_data.specs.Kinds.Strings.{PrintsPerhaps, PrintsStringItem, PrintsStrings}
use Rattle.type_data.proofs.Printed.GraphicItems.{AreGraphicItems}

pub string_graphic : (items : List RawItem) (octets : List ℕ) → PrintsStringItem items octets → AreGraphicItems items
string_graphic items octets p = subst AreGraphicItems (sym p.printed) (graphic_inside p.string p.is.each, tt)

pub perhaps_graphic : (items : List RawItem) (octets : List ℕ) → PrintsPerhaps items octets → AreGraphicItems items
perhaps_graphic [] octets p = tt
perhaps_graphic (item ∷ items) octets p = string_graphic (item ∷ items) octets p

each_string : (strings : List (List ℕ)) → AllByRecursion IsString strings → AreGraphicItems (map (λ string. quoted (inside_text string)) strings)
each_string [] are = tt
each_string (string ∷ strings) are = (graphic_inside string are.0.each, each_string strings are.1)

pub strings_graphic : (items : List RawItem) (octets : List ℕ) → PrintsStrings items octets → AreGraphicItems items
strings_graphic items octets p = subst AreGraphicItems (sym p.printed) (each_string p.strings p.are.each)
