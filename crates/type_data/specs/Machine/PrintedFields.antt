-- A field that is printed for the octets at the front, and which part of them it is.
use Rattle.std.specs.Prelude.{◌≡◌, ℕ, Bool, true, false, List, [], ◌∷◌, ◌++◌, ⊤}
use Rattle.zone_name.specs.Common.{Labels}
use Rattle.type_data.specs.DataItem.{TouchingItem}
use Rattle.type_data.specs.Field.{StatesField}
use Rattle.type_data.specs.Parameters.Printed.{written_touching}
use Rattle.type_data.specs.PrintedData.{PrintsField}
use Rattle.type_data.specs.Table.{NamedField}
use Rattle.type_data.specs.declared.field.FieldKind.{FieldKind}
use Rattle.type_data.specs.declared.field.FieldKind.TheVariants.{Bare, OneString}

-- the field is printed for all octets that are left
abbrev pub prints_all : FieldKind → Bool
prints_all (Bare kind) = false
prints_all OneString = false
prints_all kind = true

-- such a field is the last
abbrev pub OnlyLastPrintsAll : List NamedField → Type 0
OnlyLastPrintsAll [] = ⊤
OnlyLastPrintsAll (f ∷ []) = ⊤
OnlyLastPrintsAll (f ∷ g ∷ fields) =
    (prints_all f.kind ≡ false) × OnlyLastPrintsAll (g ∷ fields)

-- a part at the front that may be a field's: all octets, if it is printed for all
pub record IsOwnPart (kind : FieldKind) (octets part after : List ℕ) : Type 0 where
  pub whole : octets ≡ part ++ after
  pub all : prints_all kind ≡ true → after ≡ []

-- The field's part at the front is printed: its items are appended as they are written, and `rest`
-- is left. No items state another part there.
pub record PrintsOwn (kind : FieldKind) (octets rest old new : List ℕ) : Type 0 where
  pub part : List ℕ
  pub items : List TouchingItem
  pub own : IsOwnPart kind octets part rest
  pub printed : PrintsField kind items part
  pub appended : new ≡ old ++ written_touching items
  pub alone : (origin : Labels) (others : List TouchingItem) (other after : List ℕ)
      → IsOwnPart kind octets other after → StatesField origin kind others other → other ≡ part

-- no items state such a part
abbrev pub HasNoOwn : FieldKind → List ℕ → Type 0
HasNoOwn kind octets =
    (origin : Labels) (items : List TouchingItem) (part after : List ℕ)
    → IsOwnPart kind octets part after → StatesField origin kind items part → ⊥
