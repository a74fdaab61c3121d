-- The items that are printed for a field stand on a line as they are, of octets that a terminal
-- shows.
use Rattle.zone_rdata.specs.Item.{bare}
use Rattle.type_data.proofs.Common.{AllByRecursion, AllZip, List, RawItem, [], map, subst, sym, ℕ, ◌-◌, ◌∷◌}
use Rattle.type_data.proofs.Printed.Graphic.{IsGraphicItem, IsGraphicText}
use Rattle.type_data.proofs.Printed.GraphicTexts.{bare_text_graphic}
use Rattle.type_data.specs.EachItem.{EachIsPrinted}
use Rattle.type_data.specs.Kinds.Joined.{PrintsOneItem}
use Rattle.type_data.specs.PrintedData.{PrintsBare}
use Rattle.type_data.specs.declared.field.BareKind.{BareKind}

abbrev pub AreGraphicItems : List RawItem → Type 0
AreGraphicItems items = AllByRecursion IsGraphicItem items

-- ---- bare items

pub one_graphic : (Prints : List ℕ → List ℕ → Type 0) → ((text octets : List ℕ) → Prints text octets → IsGraphicText text) → (items : List RawItem) (octets : List ℕ) → PrintsOneItem Prints items octets → AreGraphicItems items
one_graphic Prints goes items octets p = subst AreGraphicItems (sym p.2) (goes p.0 octets p.1, tt)

texts_graphic : (kind : BareKind) (texts parts : List (List ℕ)) → AllZip (PrintsBare kind) texts parts → AreGraphicItems (map bare texts)
texts_graphic kind [] parts each = tt
texts_graphic kind (text ∷ texts) [] each = absurd each
texts_graphic kind (text ∷ texts) (part ∷ parts) each = (bare_text_graphic kind text part each.0, texts_graphic kind texts parts each.1)

pub each_graphic : (kind : BareKind) (items : List RawItem) (octets : List ℕ) → EachIsPrinted (PrintsBare kind) items octets → AreGraphicItems items
each_graphic kind items octets p = subst AreGraphicItems (sym p.printed) (texts_graphic kind p.texts p.parts p.each)
