-- The lines of a generation, taken one by one.
use Rattle.std.specs.Prelude.{◌≡◌, ℕ, ◌<◌, List, [], ◌∷◌, ◌++◌, length, ◌⊎◌, None, Some, ⊤}
use Rattle.zone_generate.specs.Entry.{Generation}
use Rattle.zone_generate.specs.Lines.{AreLines, IsLineFor, SaysNothing, Templates}
use Rattle.zone_generate.specs.declared.generated.LinesState.{LinesState}
use Rattle.zone_generate.specs.declared.generated.LinesState.TheVariants.{AtEnd, BadTemplate, More}

-- the line for the first of the values was appended, and the others are left
pub record TakesValue (old : Generation) (value : ℕ) (new : Generation)
    (before after : List ℕ) : Type 0 where
  pub line : List ℕ
  pub is : IsLineFor old.templates value line
  pub appended : after ≡ before ++ line
  pub templates : new.templates ≡ old.templates
  pub values : old.values ≡ value ∷ new.values

-- the first of the values has no line
pub record IsAtFault (g : Generation) (value : ℕ) : Type 0 where
  pub left : List ℕ
  pub values : g.values ≡ value ∷ left
  pub nothing : SaysNothing g.templates value

-- the lines for the first of the values were appended, and the others are left
pub record TakesLines (old new : Generation) (before after : List ℕ) : Type 0 where
  pub values : List ℕ
  pub lines : List ℕ
  pub are : AreLines old.templates values lines None
  pub appended : after ≡ before ++ lines
  pub templates : new.templates ≡ old.templates
  pub others : old.values ≡ values ++ new.values

-- the last line that was appended began before so many octets were
pub record EndsWithin (most : ℕ) (t : Templates) (before after : List ℕ) : Type 0 where
  pub value : ℕ
  pub front : List ℕ
  pub line : List ℕ
  pub is : IsLineFor t value line
  pub appended : after ≡ before ++ (front ++ line)
  pub within : length front < most

abbrev pub AreWithin : ℕ → Templates → List ℕ → List ℕ → Type 0
AreWithin most t before after = (after ≡ before) ⊎ EndsWithin most t before after

-- why no more lines were appended
abbrev pub StopsFor : LinesState → Generation → Type 0
StopsFor More g = ⊤
StopsFor AtEnd g = g.values ≡ []
StopsFor (BadTemplate value) g = IsAtFault g value
