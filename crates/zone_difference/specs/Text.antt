-- The text of a list of changes.
use Rattle.std.specs.Prelude.{◌≡◌, ◌≢◌, ℕ, Bool, false, true, List, [], ◌∷◌, ◌++◌, Option}
use Rattle.std.specs.List.{flat_map}
use Rattle.std.specs.Io.KnownBytes.{Appends}
use Rattle.zone_rdata.specs.Record.{Record}
use Rattle.zone_rdata.specs.declared.fault.Stop.{Stop}
use Rattle.zone_rdata.specs.declared.fault.Stop.TheVariants.{Refused, Read, Write, Memory}
use Rattle.zone_print.specs.Canonical.{line}
use Rattle.zone_print.specs.Device.{Device, Fails, WorksOn}
use Rattle.zone_difference.specs.Difference.{AreChanges, Change, addition, removal}
use Rattle.zone_difference.specs.declared.name_case.NameCase.{NameCase}
use Rattle.zone_difference.specs.declared.name_case.NameCase.TheVariants.{Exact}

-- `- ` or `+ `, and the line of the record
abbrev pub change_line : Change → List ℕ
change_line (removal r) = 45 ∷ 32 ∷ line r
change_line (addition r) = 43 ∷ 32 ∷ line r

abbrev pub changes_text : List Change → List ℕ
changes_text changes = flat_map change_line changes

-- whether there is a change
abbrev pub is_some_change : List Change → Bool
is_some_change [] = false
is_some_change (c ∷ changes) = true

-- the changes from the first records to the second were written, if the records differ
pub record WritesChanges (case : NameCase) (records others : List Record)
    (old new : Option (List ℕ)) (differ : Bool) : Type 0 where
  pub changes : List Change
  pub are : AreChanges case records others changes
  pub written : Appends old new (changes_text changes)
  pub some : differ ≡ is_some_change changes

-- a prefix of their text was written, a proper one where names are compared octet by octet
pub record WritesPart (case : NameCase) (records others : List Record)
    (old new : Option (List ℕ)) : Type 0 where
  pub changes : List Change
  pub are : AreChanges case records others changes
  pub front : List ℕ
  pub rest : List ℕ
  pub split : changes_text changes ≡ front ++ rest
  pub proper : case ≡ Exact → rest ≢ []
  pub written : Appends old new front

-- why they were not all written: the writer failed, or it works and memory was refused
abbrev pub IsWriteStop : Device → Device → Stop → Type 0
IsWriteStop old new (Refused fault place) = ⊥
IsWriteStop old new Read = ⊥
IsWriteStop old new Write = Fails old new
IsWriteStop old new Memory = WorksOn old new
