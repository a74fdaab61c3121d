-- The items of a master file that state record data (RFC 1035 5.1; RFC 3597 5).
use Rattle.std.specs.Prelude.{◌≡◌, ℕ, ◌≤◌, List, [], ◌∷◌, length, ⊤, Option, Some, None}
use Rattle.zone_name.specs.Common.{Labels}
use Rattle.zone_rdata.specs.declared.field.Field.{Field}
use Rattle.zone_rdata.specs.Field.{FieldValue, SpellsField, octets_of, own_items, items_after}
use Rattle.zone_rdata.specs.Generic.{StatesGeneric}
use Rattle.zone_rdata.specs.Layout.{layout}
use Rattle.zone_rdata.specs.Uncompressed.{IsUncompressed}
pub use Rattle.zone_rdata.specs.Item.{RawItem, bare, quoted, raw, generic_mark, IsGeneric}
use Rattle.zone_rdata.specs.Limits.{longest_data}

-- one value for each field, in order, and no item is left
abbrev pub SpellEach : Labels → List Field → List RawItem → List FieldValue → Type 0
SpellEach origin [] [] [] = ⊤
SpellEach origin (f ∷ fields) items (v ∷ values) =
    SpellsField origin f (own_items f items) v
    × SpellEach origin fields (items_after f items) values
SpellEach origin fields items values = ⊥

-- the canonical octets of octets that stand for data: of the layout's values, or the octets
-- themselves where there is none
abbrev pub IsCanonicalOf : Option (List Field) → List ℕ → List ℕ → Type 0
IsCanonicalOf None stated octets = octets ≡ stated
IsCanonicalOf (Some fields) stated octets = IsUncompressed fields stated octets

-- items in the generic form state canonical octets for a layout, if there is one
abbrev pub StatesInForm : Option (List Field) → List RawItem → List ℕ → Type 0
StatesInForm laid items octets =
    (stated : List ℕ) × StatesGeneric items stated × IsCanonicalOf laid stated octets

-- The items state canonical octets for a layout, if there is one, under an origin: field by field,
-- or in the generic form. Data without a layout has the generic form alone.
pub data StatesFor (origin : Labels) (laid : Option (List Field)) (items : List RawItem)
    (octets : List ℕ) : Type 0 where
  in_words : (fields : List Field) (values : List FieldValue) → laid ≡ Some fields
      → (IsGeneric items → ⊥) → SpellEach origin fields items values → octets ≡ octets_of values
      → length octets ≤ longest_data → StatesFor origin laid items octets
  in_octets : StatesInForm laid items octets → StatesFor origin laid items octets

-- the items state data of a class and type, given by its canonical octets, under an origin
pub record States (origin : Labels) (class kind : ℕ) (items : List RawItem)
    (octets : List ℕ) : Type 0 where
  pub stated : StatesFor origin (layout class kind) items octets
