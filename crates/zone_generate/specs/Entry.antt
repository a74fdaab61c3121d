-- A `$GENERATE` entry: `$GENERATE RANGE OWNER [TTL] [CLASS] TYPE DATA`.
use Rattle.std.specs.Prelude.{ℕ, List, [], ◌∷◌, ◌++◌, ◌==◌, ◌&&◌, if◌then◌else◌, Bool, false, Option, Some, None, Result, Ok, Err}
use Rattle.std.specs.List.{flat_map}
use Rattle.zone_rdata.specs.Item.{RawItem, bare, quoted}
use Rattle.zone_text.specs.Statements.{Parts, Word, ttl, class, parts_after}
use Rattle.zone_generate.specs.Lines.{Templates}
use Rattle.zone_generate.specs.Range.{range_in, values_of}
use Rattle.zone_generate.specs.declared.failing.GenerateFault.{GenerateFault}
use Rattle.zone_generate.specs.declared.failing.GenerateFault.TheVariants as faults
use Rattle.zone_generate.specs.declared.range.Range.{Range}
use Rattle.zone_generate.specs.declared.range.RangeFault.{RangeFault}
use Rattle.zone_generate.specs.declared.range.RangeFault.TheVariants as ranges

-- what an entry states: its range, and its templates
pub record Stated : Type 0 where
  pub range : List ℕ
  pub templates : Templates

abbrev pub begins_with_quote : List ℕ → Bool
begins_with_quote [] = false
begins_with_quote (c ∷ text) = c == 34

-- each `\"` as `"`
abbrev pub unquoted : List ℕ → List ℕ
unquoted [] = []
unquoted (c ∷ text) =
    if c == 92 && begins_with_quote text then unquoted text else c ∷ unquoted text

-- the template that an item of data is
abbrev pub template_in : RawItem → List ℕ
template_in (bare text) = text
template_in (quoted text) = unquoted text

-- a word before the type, and a blank
abbrev pub word_and_blank : Word → List ℕ
word_and_blank (ttl text) = text ++ 32 ∷ []
word_and_blank (class text) = text ++ 32 ∷ []

-- after the words before the type come a bare type and one item of data
abbrev pub with_type : List ℕ → List ℕ → List Word → List RawItem → Option Stated
with_type range owner words (bare kind ∷ item ∷ []) = Some (record {
  range = range;
  templates = record {
    owner = owner;
    middle = flat_map word_and_blank words ++ kind;
    rdata = template_in item;
  };
})
with_type range owner words items = None

abbrev pub with_parts : List ℕ → List ℕ → Parts → Option Stated
with_parts range owner parts = with_type range owner parts.words parts.rest

-- what the items after the word `$GENERATE` state: a range and an owner, both bare, and what a
-- record has after its owner (RFC 1035 5.1), with one item of data
abbrev pub stated_in : List RawItem → Option Stated
stated_in (bare range ∷ bare owner ∷ items) = with_parts range owner (parts_after [] items)
stated_in items = None

-- the templates, and the values for which they are to be expanded, in order
pub record Generation : Type 0 where
  pub templates : Templates
  pub values : List ℕ

abbrev pub generation_of : Templates → Result Range RangeFault → Result Generation GenerateFault
generation_of t (Ok range) = Ok (record { templates = t; values = values_of range })
generation_of t (Err ranges.BadRange) = Err faults.BadRange
generation_of t (Err ranges.TooManyValues) = Err faults.TooManyValues

abbrev pub generation_by : Option Stated → Result Generation GenerateFault
generation_by None = Err faults.BadGenerate
generation_by (Some stated) = generation_of stated.templates (range_in stated.range)

-- what the items after the word `$GENERATE` stand for, or their first fault: of the items, of the
-- range, and of the number of values
abbrev pub generation_in : List RawItem → Result Generation GenerateFault
generation_in items = generation_by (stated_in items)
