-- Lists of types that are printed stand on a line as they are, of octets that a
-- terminal shows.
use Rattle.type_data.proofs.Common.{AllByRecursion, IsKind, List, RawItem, [], arith, map, subst, sym, ℕ, ◌∷◌}
use Rattle.type_data.proofs.OfKinds.Word.Graphic.{type_graphic}
use Rattle.type_data.specs.Kinds.Types.{PrintsPerhapsTypes, type_item}
use Rattle.type_data.proofs.Printed.GraphicItems.{AreGraphicItems}

words_graphic : (types : List ℕ) → AllByRecursion IsKind types → AreGraphicItems (map type_item types)
words_graphic [] kinds = tt
words_graphic (n ∷ types) kinds = (type_graphic n (omega (arith, kinds.0.short)), words_graphic types kinds.1)

pub types_graphic : (items : List RawItem) (octets : List ℕ) → PrintsPerhapsTypes items octets → AreGraphicItems items
types_graphic items octets p = subst AreGraphicItems (sym p.words) (words_graphic p.types p.kinds)
