-- What the own items of a field do, as the code holds it.
use Rattle.std.specs.Prelude.{◌≡◌, List, Option, option_map}
use Rattle.zone_name.specs.Common.{Labels}
use Rattle.zone_rdata.specs.Field.{own_items}
use Rattle.zone_rdata.specs.Item.{RawItem, raw}
use Rattle.zone_rdata.specs.declared.field.Field.{Field}
use Rattle.faulty_items.specs.LaidOutStop.{SpellAValue}
use Rattle.faulty_items.specs.StopsAt.{StopsAt}
use Rattle.faulty_items.specs.declared.laid_out.OwnItems.{OwnItems}
use Rattle.faulty_items.specs.declared.laid_out.OwnItems.TheVariants as judged

-- no item but the field's own
abbrev pub AreOwn : Field → List RawItem → Type 0
AreOwn f own = own_items f own ≡ own

-- they spell no value, and a reading of them stops there
pub record StopIn (origin : Labels) (f : Field) (own : List RawItem) (found : Option RawItem)
    : Type 0 where
  pub none : SpellAValue origin f own → ⊥
  pub stops : StopsAt (SpellAValue origin f) own found

abbrev pub JudgesItems : Labels → Field → List RawItem → OwnItems → Type 0
JudgesItems origin f own judged.Spell = SpellAValue origin f own
JudgesItems origin f own (judged.Stop item) = StopIn origin f own (option_map raw item)
