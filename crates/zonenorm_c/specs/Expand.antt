-- What expanding a master file answers (this project's own).
use Rattle.std.specs.Prelude.{◌≡◌, ◌≢◌, ℕ, List, [], ◌∷◌, ◌++◌, Option, Some, None}
use Rattle.zone_name.specs.Common.{Labels}
use Rattle.zone_name.specs.Spelling.{SpellsCased}
use Rattle.zone_files.specs.Expansion.{Ending, Files, IsExpanded}
use Rattle.zone_files.specs.Reading.{octets_in}
use Rattle.zone_files.specs.declared.files.stop.FilesStop.{FilesStop}
use Rattle.zonenorm_c.specs.Answering.{HasStatus, ReportsUnread}
use Rattle.zonenorm_c.specs.Files.{IsDirectory, ReportsFilesStop, given_file, main_name}
use Rattle.zonenorm_c.specs.Giving.{IsUnread}
use Rattle.zonenorm_c.specs.declared.answer.Answer.{Answer}
use Rattle.zonenorm_c.specs.declared.given.Given.{Given}
use Rattle.zonenorm_c.specs.declared.given.Unread.{Unread}

-- each of these is what was read of a file of the table
abbrev pub AreReadOf : Given → List (List ℕ) → Type 0
AreReadOf given [] = Unit {0}
AreReadOf given (octets ∷ others) =
    ((name : List ℕ) × (rest : List ℕ) × (given_file given name ≡ Some (octets ++ rest)))
    × AreReadOf given others

-- the text is that of the main file, and of the files of the table that it includes, as far as they
-- were read
pub record IsExpansion (given : Given) (text : List ℕ) : Type 0 where
  pub cased : Labels
  pub spells : SpellsCased None given.origin.now cased
  pub directory : Option (List ℕ)
  pub folder : IsDirectory given.directory.now directory
  pub octets : List ℕ
  pub rest : List ℕ
  pub whole : given.octets.now ≡ octets ++ rest
  pub tree : Files
  pub from : AreReadOf given (octets_in tree)
  pub ending : Ending
  pub is : IsExpanded directory main_name cased octets tree text ending

-- The expanded text; or what is reported where it isn't whole, or where the input isn't read.
pub data AnswersExpand (given : Given) (text : List ℕ) (answer : Answer) : Type 0 where
  expanded : given.kind ≡ 3 → IsExpansion given text → answer.status ≡ 0
      → AnswersExpand given text answer
  not_whole : (stop : FilesStop) → given.kind ≡ 3 → ReportsFilesStop stop text answer
      → AnswersExpand given text answer
  unread : (why : Unread) → IsUnread given why → ReportsUnread why text answer
      → AnswersExpand given text answer
  no_files : given.kind ≢ 3 → HasStatus 5 text answer → AnswersExpand given text answer
