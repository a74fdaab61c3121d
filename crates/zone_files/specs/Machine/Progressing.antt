-- What an entry makes of how far a file is.
use Rattle.std.specs.Prelude.{◌≡◌, ℕ, ◌<◌, List, [], ◌++◌, length, Bool, true, false, Option, Some, None, option_map}
use Rattle.std.specs.List.{flat_map}
use Rattle.zone_rdata.specs.Item.{RawItem}
use Rattle.zone_text.specs.Entries.{item_of}
use Rattle.zone_text.specs.Kept.{AreKept}
use Rattle.zone_text.specs.Tokens.{Token, text}
use Rattle.zone_generate.specs.Entry.{Generation}
use Rattle.zone_generate.specs.Lines.{AreLines}
use Rattle.zone_generate.specs.Steps.{IsAtFault, TakesLines}
use Rattle.zone_files.specs.Expansion.{EntryBecomes, as_lines, fails, opens, origin_line, stays}
use Rattle.zone_files.specs.FileExpander.{NamedFile}
use Rattle.zone_files.specs.declared.fault.ExpansionFault.{ExpansionFault}
use Rattle.zone_files.specs.declared.expansion.progress.FileStatus.{FileStatus}
use Rattle.zone_files.specs.declared.expansion.progress.FileStatus.TheVariants.{Ended, Failed, Faulty, FaultyAt, Generating, Going, Including}
use Rattle.zone_files.specs.declared.expansion.progress.IncludedFile.{IncludedFile}
use Rattle.zone_files.specs.declared.expansion.progress.Progress.{Progress}

abbrev pub end_of : Bool → FileStatus
end_of true = Ended
end_of false = Going

abbrev pub named_of : Option IncludedFile → Option NamedFile
named_of included = option_map (λ (f : IncludedFile). record { name = f.name; origin = f.origin }) included

-- the entry of these tokens was taken, which may be the last: its text, or the line before an
-- included file, was written, or nothing, where its lines are still to come or it has a fault
pub data Entered (tokens : List Token) (last : Bool) (old new : Progress)
    (before after : List ℕ) : Type 0 where
  was_written : (made : List ℕ) → EntryBecomes old.holding tokens (stays made new.holding)
      → after ≡ before ++ made → new.status ≡ end_of last
      → Entered tokens last old new before after
  has_opened : (named : NamedFile)
      → EntryBecomes old.holding tokens (opens named.name named.origin)
      → after ≡ before ++ origin_line named.origin → new.holding ≡ old.holding
      → new.status ≡ Including → named_of new.included ≡ Some named → new.last ≡ last
      → Entered tokens last old new before after
  has_begun : (g : Generation)
      → ((made : List ℕ) (fault : Option ℕ) → AreLines g.templates g.values made fault
      → EntryBecomes old.holding tokens (as_lines made new.holding fault))
      → after ≡ before → new.status ≡ Generating → new.generated ≡ Some g → new.last ≡ last
      → Entered tokens last old new before after
  has_failed : (fault : ExpansionFault) → EntryBecomes old.holding tokens (fails fault)
      → after ≡ before → new.status ≡ Faulty fault → Entered tokens last old new before after

-- for whatever tokens have this text, of whose items these are kept
abbrev pub Enters : Progress → List ℕ → List RawItem → Bool → Progress → List ℕ → List ℕ → Type 0
Enters old entry kept last new before after =
    (tokens : List Token) → text tokens ≡ entry → AreKept (flat_map item_of tokens) kept
    → Entered tokens last old new before after

-- Some of the lines that come first were written: others come next, or none, or the next value has
-- none.
pub data GivesLines (old new : Progress) (before after : List ℕ) : Type 0 where
  gives_some : (g left : Generation) → old.generated ≡ Some g → TakesLines g left before after
      → new.generated ≡ Some left → length left.values < length g.values
      → new.status ≡ Generating → new.holding ≡ old.holding → new.last ≡ old.last
      → GivesLines old new before after
  gives_last : (g left : Generation) → old.generated ≡ Some g → TakesLines g left before after
      → left.values ≡ [] → new.status ≡ end_of old.last → new.holding ≡ old.holding
      → GivesLines old new before after
  gives_fault : (g left : Generation) (value : ℕ) → old.generated ≡ Some g
      → TakesLines g left before after → IsAtFault left value → new.status ≡ FaultyAt value
      → GivesLines old new before after
  has_none : old.generated ≡ None → after ≡ before → new.status ≡ Failed
      → GivesLines old new before after
