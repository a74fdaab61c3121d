-- Values up to the end of the data that are printed stand on a line as they are, of octets that a
-- terminal shows.
use Rattle.type_data.proofs.Common.{List, RawItem, subst, sym, ℕ}
use Rattle.type_data.proofs.Printed.Graphic.{graphic_inside}
use Rattle.type_data.specs.Kinds.Value.{PrintsValue}
use Rattle.type_data.proofs.Printed.GraphicItems.{AreGraphicItems}

pub value_graphic : (items : List RawItem) (octets : List ℕ) → PrintsValue items octets → AreGraphicItems items
value_graphic items octets p = subst AreGraphicItems (sym p.1) (graphic_inside octets p.0, tt)
