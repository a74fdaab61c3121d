-- What becomes of an entry, as the code has it.
use Rattle.std.specs.Prelude.{◌≡◌, ℕ, List, ◌++◌, Option}
use Rattle.std.specs.List.{slice_get}
use Rattle.zone_name.specs.Common.{Labels}
use Rattle.zone_rdata.specs.Item.{RawItem}
use Rattle.zone_text.specs.Statements.{Statement, statement_by}
use Rattle.zone_generate.specs.Entry.{Generation}
use Rattle.zone_generate.specs.Lines.{AreLines}
use Rattle.zone_files.specs.Expansion.{BecomesBy, DirectiveBecomes, Generates, Holds, Included, Includes, IsTakenOut, Outcome, StatementBecomes, WithOwner, as_lines, fails, opens, says_generate, stays}
use Rattle.zone_files.specs.declared.expansion.step.Step.{Step}
use Rattle.zone_files.specs.declared.expansion.step.Step.TheVariants as steps

abbrev pub included : List ℕ → Labels → Included
included file origin = record { file = file; origin = origin }

-- what was written for an entry, and what holds after it
pub record IsWritten (Becomes : Outcome → Type 0) (new : Holds) (before after : List ℕ)
    : Type 0 where
  pub made : List ℕ
  pub becomes : Becomes (stays made new)
  pub written : after ≡ before ++ made

-- or nothing was written, and the same holds
pub record IsLeft (Becomes : Outcome → Type 0) (outcome : Outcome) (old new : Holds)
    (before after : List ℕ) : Type 0 where
  pub becomes : Becomes outcome
  pub same : new ≡ old
  pub nothing : after ≡ before

-- nothing was written yet, and lines come first
pub record IsBegun (Becomes : Outcome → Type 0) (g : Generation) (new : Holds)
    (before after : List ℕ) : Type 0 where
  pub becomes : (lines : List ℕ) (fault : Option ℕ) → AreLines g.templates g.values lines fault
      → Becomes (as_lines lines new fault)
  pub nothing : after ≡ before

-- a step does what becomes of an entry
abbrev pub StepsTo : (Outcome → Type 0) → Holds → Step → Holds → List ℕ → List ℕ → Type 0
StepsTo Becomes old steps.Written new before after = IsWritten Becomes new before after
StepsTo Becomes old (steps.Opens name origin) new before after =
    IsLeft Becomes (opens name origin) old new before after
StepsTo Becomes old (steps.Generates g) new before after = IsBegun Becomes g new before after
StepsTo Becomes old (steps.Fails fault) new before after =
    IsLeft Becomes (fails fault) old new before after

abbrev pub TakesEntry : Holds → List ℕ → List RawItem → Step → Holds → List ℕ → List ℕ → Type 0
TakesEntry old entry items step new before after =
    StepsTo (BecomesBy old entry items (statement_by (slice_get entry 0) items)) old step new
    before after

-- of an entry that isn't taken out
abbrev pub Judges : Holds → List ℕ → List RawItem → Statement → Step → Holds → List ℕ → List ℕ → Type 0
Judges old entry items form step new before after =
    StepsTo (StatementBecomes old entry items form) old step new before after

-- of one that is
abbrev pub TakesOut : Holds → List ℕ → Statement → Step → Holds → List ℕ → List ℕ → Type 0
TakesOut old entry form step new before after =
    StepsTo (IsTakenOut old entry form) old step new before after

abbrev pub Unowned : Holds → List ℕ → Step → Holds → List ℕ → List ℕ → Type 0
Unowned old entry step new before after = StepsTo (WithOwner old entry) old step new before after

-- of an `$INCLUDE`
abbrev pub IncludesAs : Holds → List RawItem → Step → Type 0
IncludesAs h items steps.Written = ⊥
IncludesAs h items (steps.Opens name origin) = Includes h items (opens name origin)
IncludesAs h items (steps.Generates g) = ⊥
IncludesAs h items (steps.Fails fault) = Includes h items (fails fault)

-- of a `$GENERATE`
abbrev pub GeneratesAs : Holds → List RawItem → Step → Holds → Type 0
GeneratesAs old items steps.Written new = ⊥
GeneratesAs old items (steps.Opens name origin) new = ⊥
GeneratesAs old items (steps.Generates g) new =
    (lines : List ℕ) (fault : Option ℕ) → AreLines g.templates g.values lines fault
    → Generates old items (as_lines lines new fault)
GeneratesAs old items (steps.Fails fault) new = Generates old items (fails fault) × (new ≡ old)

-- of a directive of another word
abbrev pub UnknownAs : Holds → List ℕ → List RawItem → Step → Holds → List ℕ → List ℕ → Type 0
UnknownAs old entry items step new before after =
    StepsTo (DirectiveBecomes (says_generate items) old entry items) old step new before after
