-- What the words of a command line call, by `clap` (this project's own).
use Rattle.std.specs.Prelude.{◌≡◌, ◌≢◌, ◌++◌, ◌∷◌, ◌⊎◌, Bool, true, if◌then◌else◌, List, [], map, codes, string_bytes, Option, Some, IsSome}
use Rattle.clap.specs.Words.{App, Row, Rule, Text, new_rule, new_app, subcommand_of, first_of, fault_of}
use Rattle.clap.specs.Kinds.{IsAmong, Kinds}
use Rattle.clap.specs.Walk.{is_empty}
use Rattle.clap.specs.declared.builder.action.ArgAction.TheVariants.{SetTrue}
use Rattle.clap.specs.declared.error.kind.ErrorKind.{ErrorKind}
use Rattle.clap.specs.declared.error.kind.ErrorKind.TheVariants.{DisplayHelp, DisplayVersion}
use Rattle.zone_name.specs.Common.{NothingIs}
use Rattle.command_line.specs.declared.program.ArgumentKind.{ArgumentKind}
use Rattle.command_line.specs.declared.program.ArgumentKind.TheVariants.{Word, Flag, Value}
use Rattle.command_line.specs.declared.no_call.NoCall.{NoCall}
use Rattle.command_line.specs.declared.no_call.NoCall.TheVariants.{Shown, Told, Memory}

-- an argument of a command: one required word at its position
abbrev pub argument : Text → Rule
argument id = record (new_rule id) { required = true }

-- a flag, two hyphens and its name, which may be given
abbrev pub flag : Text → Rule
flag id = record (new_rule id) { long = Some id; action = Some SetTrue }

-- an option, two hyphens, its name and a value, which may be given
abbrev pub option : Text → Rule
option id = record (new_rule id) { long = Some id }

-- the text that stands for a flag that was given, and for one that wasn't
abbrev pub flag_text : Bool → Text
flag_text given = if given then codes "true" else codes "false"

-- a command with its arguments and flags, the arguments in order
abbrev pub command_with : Text → List Rule → App
command_with word rules = let app = new_app word in
    record app { top = record app.top { rules = rules } }

-- a program with its commands, as `clap` sees it. It is handed the words after its name, and has a
-- version to tell.
abbrev pub program_of : Text → List App → App
program_of name commands = record {
  top = record (new_app name).top {
    is_leaf = is_empty commands;
    no_binary_name = true;
    has_version = true;
  };
  subs = map (λ (command : App). command.top) commands;
}

-- an argument of this name that is given so
abbrev pub rule_for : ArgumentKind → Text → Rule
rule_for Word id = argument id
rule_for Flag id = flag id
rule_for Value id = option id

-- a command of a program: its word, and the names of its arguments with how each is given
pub record CommandRow : Type 0 where
  pub word : Text
  pub arguments : List (Text × ArgumentKind)

-- a program's commands, and the program as `clap` sees it
pub record Commands : Type 0 where
  pub rows : List CommandRow
  pub app : App

abbrev pub commands_of : Text → List CommandRow → Commands
commands_of name rows = record {
  rows = rows;
  app =
      program_of name
      (map
      (λ (row : CommandRow). command_with row.word
      (map (λ (argument : Text × ArgumentKind). rule_for argument.1 argument.0) row.arguments))
      rows);
}

-- ---- what words call

-- a command with what was found for its arguments
abbrev pub Called : Type 0
Called = Text × List Row

-- what was found for the argument of this name
abbrev pub text_of : Called → Text → Option Text
text_of call id = first_of id call.1

-- an argument of this kind is given: a word has a text, a flag one of its two
abbrev pub IsGiven : ArgumentKind → Option Text → Type 0
IsGiven Word text = IsSome text
IsGiven Flag text = (given : Bool) × (text ≡ Some (flag_text given))
IsGiven Value text = Unit {0}

abbrev pub HasAll : List (Text × ArgumentKind) → Called → Type 0
HasAll [] call = Unit {0}
HasAll (argument ∷ arguments) call =
    IsGiven argument.1 (text_of call argument.0) × HasAll arguments call

-- the call is of this command, and has all its arguments
abbrev pub IsOf : CommandRow → Called → Type 0
IsOf row call = (row.word ≡ call.0) × HasAll row.arguments call

abbrev pub IsOneOf : List CommandRow → Called → Type 0
IsOneOf [] call = ⊥
IsOneOf (row ∷ rows) call = IsOf row call ⊎ IsOneOf rows call

-- `clap` finds no fault in the words, and states this command with these texts for its arguments
pub record Calls (commands : Commands) (words : List Text) (call : Called) : Type 0 where
  pub faultless : fault_of commands.app words ≡ []
  pub stated : subcommand_of commands.app words ≡ Some call
  pub whole : IsOneOf commands.rows call

-- a text that is told has no line feed at its end
abbrev pub HasNoFinalLineFeed : Text → Type 0
HasNoFinalLineFeed text = (front : Text) → text ≢ front ++ 10 ∷ []

-- an answer of `clap` that is no fault: the help or the version, for which words ask
abbrev pub IsAskedFor : ErrorKind → Type 0
IsAskedFor DisplayHelp = Unit {0}
IsAskedFor DisplayVersion = Unit {0}
IsAskedFor other = ⊥

-- by `clap` the words may ask for its help or the version
abbrev pub MayAsk : Kinds → Type 0
MayAsk kinds = (kind : ErrorKind) × IsAmong kind kinds × IsAskedFor kind

-- by `clap` they are no command, or they may have a fault
abbrev pub MayFail : Kinds → Type 0
MayFail kinds = (kinds ≡ []) ⊎ ((kind : ErrorKind) × IsAmong kind kinds × (IsAskedFor kind → ⊥))

-- Why the words call nothing: by `clap` they ask for help or the version, or are no command with all
-- its arguments; or memory was refused.
abbrev pub IsNoCall : Commands → List Text → NoCall → Type 0
IsNoCall commands words (Shown text) =
    NothingIs (Calls commands words) × HasNoFinalLineFeed (string_bytes text)
    × MayAsk (fault_of commands.app words)
IsNoCall commands words (Told text) =
    NothingIs (Calls commands words) × HasNoFinalLineFeed (string_bytes text)
    × MayFail (fault_of commands.app words)
IsNoCall commands words Memory = Unit {0}

-- why a program has no words: one of them is no text, or memory was refused
abbrev pub IsNoWords : NoCall → Type 0
IsNoWords (Shown text) = ⊥
IsNoWords (Told text) = string_bytes text ≡ codes "error: an argument isn't valid UTF-8"
IsNoWords Memory = Unit {0}
