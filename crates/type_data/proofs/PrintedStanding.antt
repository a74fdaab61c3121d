-- The items that are printed for data stand on a line as they are, and a terminal shows each octet
-- of what is written.
use Rattle.zone_rdata.proofs.Common.{each_weaker}
use Rattle.zone_rdata.specs.Item.{bare, quoted}
use Rattle.zone_rdata.specs.Text.{written_item}
use Rattle.type_data.proofs.Common.{All-from_recursion, AllByRecursion, AllByRecursion-append, Bool, List, NamedField, RawItem, TouchingItem, [], arith, false, if◌then◌else◌, subst, sym, true, ℕ, ◌∷◌}
use Rattle.type_data.proofs.Printed.Graphic.{AreGraphic, IsGraphic, IsGraphicItem}
use Rattle.type_data.proofs.Printed.GraphicItems.{AreGraphicItems, each_graphic, one_graphic}
use Rattle.type_data.proofs.OfKinds.Location.Graphic.{location_graphic}
use Rattle.type_data.proofs.OfKinds.Strings.Graphic.{perhaps_graphic, string_graphic, strings_graphic}
use Rattle.type_data.proofs.OfKinds.Types.Graphic.{types_graphic}
use Rattle.type_data.proofs.OfKinds.Value.Graphic.{value_graphic}
use Rattle.type_data.proofs.OfParameters.Graphic.{IsGraphicBehind, parameters_graphic}
use Rattle.type_data.proofs.OfKinds.Prefixes.Graphic.{prefixes_graphic}
use Rattle.type_data.proofs.Printed.GraphicTexts.{bare_text_graphic}
use Rattle.type_data.proofs.OfKinds.Base64.Graphic.{base64_graphic}
use Rattle.type_data.proofs.OfKinds.Hexadecimal.Graphic.{lower_graphic}
use Rattle.type_data.specs.Kinds.Base64.{IsBase64}
use Rattle.type_data.specs.Kinds.Hexadecimal.{IsLowerHex}
use Rattle.type_data.specs.Parameters.Printed.{written_touching}
use Rattle.type_data.specs.Printed.{ArePrinted}
use Rattle.type_data.specs.PrintedData.{PrintParts, PrintsApart, PrintsBare, PrintsField, apart}
use Rattle.type_data.specs.StandingItem.{Stands, StandsBehind}
use Rattle.type_data.specs.declared.field.FieldKind.{FieldKind}
use Rattle.type_data.specs.declared.field.FieldKind.TheVariants.{Bare, Base64, Each, Hex, Location, Nothing, OneString, Parameters, PerhapsOneString, PerhapsTypes, Prefixes, QuotedValue, Strings, Types, Value}
use Rattle.zone_text.proofs.Tokens.StandingItems.{units_go_on}

-- ---- fields

none_touches : (items : List RawItem) → AreGraphicItems items → AllByRecursion IsGraphicBehind (apart items)
none_touches [] each = tt
none_touches (item ∷ items) each = (record { item = each.0; parted = λ e. absurd cc }, none_touches items each.1)

apart_graphic : (Prints : List RawItem → List ℕ → Type 0) → ((items : List RawItem) (octets : List ℕ) → Prints items octets → AreGraphicItems items) → (items : List TouchingItem) (octets : List ℕ) → PrintsApart Prints items octets → AllByRecursion IsGraphicBehind items
apart_graphic Prints goes items octets p = subst (AllByRecursion IsGraphicBehind) (sym p.are_apart) (none_touches p.alone (goes p.alone octets p.printed))

field_graphic : (kind : FieldKind) (items : List TouchingItem) (octets : List ℕ) → PrintsField kind items octets → AllByRecursion IsGraphicBehind items
field_graphic (Bare kind) items octets p = apart_graphic _ (one_graphic (PrintsBare kind) (bare_text_graphic kind)) items octets p
field_graphic (Each kind) items octets p = apart_graphic _ (each_graphic kind) items octets p
field_graphic OneString items octets p = apart_graphic _ string_graphic items octets p
field_graphic PerhapsOneString items octets p = apart_graphic _ perhaps_graphic items octets p
field_graphic Value items octets p = apart_graphic _ value_graphic items octets p
field_graphic QuotedValue items octets p = apart_graphic _ value_graphic items octets p
field_graphic Strings items octets p = apart_graphic _ strings_graphic items octets p
field_graphic Hex items octets p = apart_graphic _ (one_graphic IsLowerHex lower_graphic) items octets p
field_graphic Base64 items octets p = apart_graphic _ (one_graphic IsBase64 base64_graphic) items octets p
field_graphic Types items octets p = apart_graphic _ (λ alone own is. types_graphic alone own is.types) items octets p
field_graphic PerhapsTypes items octets p = apart_graphic _ types_graphic items octets p
field_graphic Prefixes items octets p = apart_graphic _ prefixes_graphic items octets p
field_graphic Location items octets p = apart_graphic _ location_graphic items octets p
field_graphic Nothing items octets p = apart_graphic _ (λ alone own is. subst AreGraphicItems (sym is.0) tt) items octets p
field_graphic Parameters items octets p = parameters_graphic items octets p

parts_graphic : (fields : List NamedField) (items : List TouchingItem) (parts : List (List ℕ)) → PrintParts fields items parts → AllByRecursion IsGraphicBehind items
parts_graphic [] items [] p = subst (AllByRecursion IsGraphicBehind) (sym p) tt
parts_graphic [] items (part ∷ parts) p = absurd p
parts_graphic (f ∷ fields) items [] p = absurd p
parts_graphic (f ∷ fields) items (part ∷ parts) p =
    subst (AllByRecursion IsGraphicBehind) (sym p.2) (AllByRecursion-append IsGraphicBehind p.0 p.1 (field_graphic f.kind p.0 part p.3) (parts_graphic fields p.1 parts p.4))

-- ---- they stand

item_stands : (item : RawItem) → IsGraphicItem item → Stands item
item_stands (bare text) is = record { units = is.stands.units; is = (is.stands.some, units_go_on is.stands.units is.stands.each); spelt = is.stands.parts }
item_stands (quoted text) is = is.stands

stands_behind : (i : TouchingItem) → IsGraphicBehind i → StandsBehind i
stands_behind i is = record { stands = item_stands i.item is.item; parted = is.parted }

pub printed_data_stands : (fields : List NamedField) (items : List TouchingItem) (parts : List (List ℕ)) → PrintParts fields items parts → AllByRecursion StandsBehind items
printed_data_stands fields items parts p = each_weaker StandsBehind stands_behind items (parts_graphic fields items parts p)

-- ---- a terminal shows their octets

item_shown : (item : RawItem) → IsGraphicItem item → AreGraphic (written_item item)
item_shown (bare text) is = is.graphic
item_shown (quoted text) is = ((omega arith, omega arith), AllByRecursion-append IsGraphic text (34 ∷ []) is.graphic ((omega arith, omega arith), tt))

behind_shown : (touches : Bool) (item : RawItem) → IsGraphicItem item → AreGraphic (if touches then written_item item else 32 ∷ written_item item)
behind_shown true item is = item_shown item is
behind_shown false item is = ((omega arith, omega arith), item_shown item is)

items_shown : (items : List TouchingItem) → AllByRecursion IsGraphicBehind items → AreGraphic (written_touching items)
items_shown [] each = tt
items_shown (i ∷ items) each =
    AllByRecursion-append IsGraphic (if i.touches then written_item i.item else 32 ∷ written_item i.item) (written_touching items) (behind_shown i.touches i.item each.0.item) (items_shown items each.1)

pub printed_words_are_printed : (fields : List NamedField) (items : List TouchingItem) (parts : List (List ℕ)) → PrintParts fields items parts → ArePrinted (written_touching items)
printed_words_are_printed fields items parts p k within =
    All-from_recursion IsGraphic (written_touching items) (items_shown items (parts_graphic fields items parts p)) k 0 within
