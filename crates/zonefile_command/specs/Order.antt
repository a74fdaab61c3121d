-- What a command line of `zonefile` asks for (this project's own).
use Rattle.std.specs.Prelude.{◌≡◌, ◌≢◌, ◌⊎◌, ℕ, ◌<◌, Bool, if◌then◌else◌, List, [], ◌∷◌, codes, option_map, string_bytes, Option, Some, None}
use Rattle.clap.specs.Words.{Text}
use Rattle.command_line.specs.Calls.{Called, Calls, Commands, IsNoCall, commands_of, text_of}
use Rattle.command_line.specs.declared.program.ArgumentKind.{ArgumentKind}
use Rattle.command_line.specs.declared.program.ArgumentKind.TheVariants.{Word, Flag, Value}
use Rattle.command_input.specs.Order.{Gives, HasBadOrigin, HasFlag, HasText}
use Rattle.zone_name.specs.Common.{Labels, NothingIs}
use Rattle.zone_name.specs.Spelling.{SpellsCased}
use Rattle.zone_rdata.specs.Number.{IsDecimal}
use Rattle.zone_difference.specs.declared.name_case.NameCase.{NameCase}
use Rattle.zone_difference.specs.declared.name_case.NameCase.TheVariants.{Exact, Folded}
use Rattle.zonefile_command.specs.declared.notation.Notation.{Notation}
use Rattle.zonefile_command.specs.declared.notation.Notation.TheVariants.{Generic, Presentation}
use Rattle.zonefile_command.specs.declared.order.FileSource.{FileSource}
use Rattle.zonefile_command.specs.declared.order.Action.{Action}
use Rattle.zonefile_command.specs.declared.order.Action.TheVariants.{Normalise, Explain, Compare, Difference, Check, Expand}
use Rattle.zonefile_command.specs.declared.order.Order.{Order}
use Rattle.zonefile_command.specs.declared.no_order.NoOrder.{NoOrder}
use Rattle.zonefile_command.specs.declared.no_order.NoOrder.TheVariants.{BadMost, BadOrigin, NoCall}

-- the option that each command has: the directory of the files
abbrev pub directory_option : Text × ArgumentKind
directory_option = (codes "directory", Value)

-- the arguments of a command on one file
abbrev pub one_file : List (Text × ArgumentKind)
one_file = (codes "ORIGIN", Word) ∷ (codes "FILE", Word) ∷ directory_option ∷ []

-- those of `normalise`
abbrev pub normalise_arguments : List (Text × ArgumentKind)
normalise_arguments =
    (codes "ORIGIN", Word) ∷ (codes "FILE", Word) ∷ (codes "words", Flag) ∷ directory_option ∷ []

-- those of a command on two files, and more
abbrev pub two_files : List (Text × ArgumentKind) → List (Text × ArgumentKind)
two_files more =
    (codes "ORIGIN1", Word) ∷ (codes "FILE1", Word) ∷ (codes "ORIGIN2", Word)
    ∷ (codes "FILE2", Word) ∷ more

-- those of `diff`
abbrev pub diff_arguments : List (Text × ArgumentKind)
diff_arguments =
    two_files ((codes "exact", Flag) ∷ (codes "generic", Flag) ∷ directory_option ∷ [])

-- those of `check`
abbrev pub check_arguments : List (Text × ArgumentKind)
check_arguments =
    (codes "ORIGIN", Word) ∷ (codes "FILE", Word) ∷ (codes "most", Value) ∷ directory_option ∷ []

-- the program's commands with their arguments
abbrev pub commands : Commands
commands =
    commands_of (codes "zonefile")
    (record { word = codes "normalise"; arguments = normalise_arguments }
    ∷ record { word = codes "explain"; arguments = one_file }
    ∷ record { word = codes "compare"; arguments = two_files (directory_option ∷ []) }
    ∷ record { word = codes "diff"; arguments = diff_arguments }
    ∷ record { word = codes "check"; arguments = check_arguments }
    ∷ record { word = codes "expand"; arguments = one_file }
    ∷ [])

-- The origin of a master file that a text gives, with its letters (RFC 1035 5.1): the absolute name
-- that it spells, or the one that it spells with a dot at its end. The word `transfer` gives none,
-- and `@` neither.
pub record IsFileOrigin (text : Text) (origin : Labels) : Type 0 where
  pub no_transfer : text ≢ codes "transfer"
  pub no_sign : text ≢ codes "@"
  pub spells : SpellsCased (Some []) text origin

-- what a text given as an origin asks for: the word `transfer` for a transfer, any other text for a
-- master file under the name that it gives
abbrev pub IsOriginText : Text → Option Labels → Type 0
IsOriginText text None = text ≡ codes "transfer"
IsOriginText text (Some origin) = IsFileOrigin text origin

-- what the texts of an origin and a file ask for
pub record IsSource (call : Called) (origin file : Text) (source : FileSource) : Type 0 where
  pub is_origin : HasText call origin (λ text. IsOriginText text source.origin)
  pub is_file : text_of call file ≡ Some (string_bytes source.file)

-- the notation that is asked for with `--words`, and without it
abbrev pub notation_for : Bool → Notation
notation_for words = if words then Presentation else Generic

-- how names in data are compared with `--exact`, and without it
abbrev pub case_for : Bool → NameCase
case_for exact = if exact then Exact else Folded

-- the notation of a difference with `--generic`, and without it
abbrev pub notation_of_changes : Bool → Notation
notation_of_changes generic = if generic then Generic else Presentation

-- what the texts of two origins and two files ask for
abbrev pub AreSources : Called → FileSource → FileSource → Type 0
AreSources call first second =
    IsSource call (codes "ORIGIN1") (codes "FILE1") first
    × IsSource call (codes "ORIGIN2") (codes "FILE2") second

-- how many faults are reported at most: a number of `--most`, or 20
abbrev pub IsMost : Option Text → ℕ → Type 0
IsMost None most = most ≡ 20
IsMost (Some text) most = IsDecimal text most × (0 < most) × (most < 4294967296)

-- what a command with its texts asks for
abbrev pub AsksFor : Called → Action → Type 0
AsksFor call (Normalise source notation) =
    (call.0 ≡ codes "normalise") × IsSource call (codes "ORIGIN") (codes "FILE") source
    × HasFlag call (codes "words") (λ given. notation ≡ notation_for given)
AsksFor call (Explain source) =
    (call.0 ≡ codes "explain") × IsSource call (codes "ORIGIN") (codes "FILE") source
AsksFor call (Compare first second) =
    (call.0 ≡ codes "compare") × AreSources call first second
AsksFor call (Difference first second form) =
    (call.0 ≡ codes "diff") × AreSources call first second
    × HasFlag call (codes "exact") (λ given. form.name_case ≡ case_for given)
    × HasFlag call (codes "generic") (λ given. form.notation ≡ notation_of_changes given)
AsksFor call (Check origin file most) =
    (call.0 ≡ codes "check")
    × HasText call (codes "ORIGIN") (λ text. IsFileOrigin text origin)
    × (text_of call (codes "FILE") ≡ Some (string_bytes file))
    × IsMost (text_of call (codes "most")) most
AsksFor call (Expand origin file) =
    (call.0 ≡ codes "expand")
    × HasText call (codes "ORIGIN") (λ text. IsFileOrigin text origin)
    × (text_of call (codes "FILE") ≡ Some (string_bytes file))

-- with the directory that is stated
abbrev pub Asks : Called → Order → Type 0
Asks call order =
    AsksFor call order.action
    × (text_of call (codes "directory") ≡ option_map string_bytes order.directory)

-- the order that the words give
abbrev pub Orders : List Text → Order → Type 0
Orders = Gives commands Asks

-- A text of an origin that asks for nothing: the first one, from the left. `expand` and `check` take
-- no transfer, which has no expanded text.
abbrev pub RefusesOrigin : Called → Type 0
RefusesOrigin call =
    HasBadOrigin IsOriginText call
    ⊎ (((call.0 ≡ codes "expand") ⊎ (call.0 ≡ codes "check"))
    × HasText call (codes "ORIGIN") (λ text. NothingIs (IsFileOrigin text)))

-- a number of faults that asks for nothing
abbrev pub RefusesMost : Called → Type 0
RefusesMost call =
    (call.0 ≡ codes "check") × NothingIs (IsMost (text_of call (codes "most")))

-- why the words give no order: the text of an origin or of `--most` asks for
-- nothing; or they call nothing
abbrev pub IsNoOrder : List Text → NoOrder → Type 0
IsNoOrder words BadOrigin = (call : Called) × Calls commands words call × RefusesOrigin call
IsNoOrder words BadMost = (call : Called) × Calls commands words call × RefusesMost call
IsNoOrder words (NoCall no_call) = IsNoCall commands words no_call
