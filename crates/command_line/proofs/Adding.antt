-- Arguments and commands that are added one after another.
use Rattle.std.proofs.Common.{arith, ◌≡◌, false, List, [], ◌∷◌, ◌++◌, refl, sym, ap, ap₂, ◌∙◌, map, ℕ, ◌+◌, ◌<◌, length, take, get_or}
use Rattle.std.proofs.lemmas.List.{map_push, take_more}
use Rattle.clap.specs.Words.{App, AddsArg, Text, app_of, rule_of, with_rule, with_subcommand}
use Rattle.clap.specs.Walk.{is_empty}
use Rattle.clap.specs.declared.builder.Arg.{Arg}
use Rattle.clap.specs.declared.builder.Command.{Command}
use Rattle.clap.specs.declared.builder.Command.TheViews.{out-Command as fields_of}
use Rattle.command_line.specs.Calls.{command_with, program_of}
use Rattle.command_line.specs.Program.{app_of_command, rule_of_argument}
use Rattle.command_line.specs.declared.program.Argument.{Argument}
use Rattle.command_line.specs.declared.program.ProgramCommand.{ProgramCommand}

-- ---- arguments

-- the command has these arguments so far, of which none is global
pub record HasArguments (word : Text) (rows : List Argument) (command : Command) : Type 0 where
  pub is : app_of command ≡ command_with word (map rule_of_argument rows)
  pub local : (fields_of command).has_globals ≡ false

with_one_argument : (word : Text) (rows : List Argument) (row : Argument) → with_rule (command_with word (map rule_of_argument rows)) (rule_of_argument row) ≡ command_with word (map rule_of_argument (rows ++ row ∷ []))
with_one_argument word rows row = ap (command_with word) (sym (map_push rule_of_argument rows row))

-- the command with its first arguments gets the next one
pub one_argument_more : (word : Text) (rows : List Argument) (i : ℕ) (other : Argument) (command new : Command) (added : Arg) → i < length rows → HasArguments word (take i rows) command
    → rule_of added ≡ rule_of_argument (get_or rows i other) → added.global ≡ false → AddsArg command added new
    → HasArguments word (take (i + 1) rows) new
one_argument_more word rows i other command new added lt has rule not_global adds = record {
  is = adds.shape not_global ∙ ap₂ with_rule has.is rule ∙ with_one_argument word (take i rows) (get_or rows i other)
      ∙ ap (λ (taken : List Argument). command_with word (map rule_of_argument taken)) (sym (take_more rows i other lt));
  local = rw (adds.globals, has.local, not_global) refl;
}

-- ---- commands

-- a program before it has a version to tell
abbrev pub unversioned : App → App
unversioned app = record app { top = record app.top { has_version = false } }

not_empty : {X : Type 0} (x : X) (xs : List X) → is_empty (x ∷ xs) ≡ false
not_empty x xs = grind arith

with_one_command : (name : Text) (commands : List App) (command : App) → with_subcommand (unversioned (program_of name commands)) command.top ≡ unversioned (program_of name (commands ++ command ∷ []))
with_one_command name [] command = refl
with_one_command name (first ∷ commands) command =
    rw (not_empty first (commands ++ command ∷ []), map_push (λ (app : App). app.top) (first ∷ commands) command) refl

-- the program with its first commands gets the next one
pub one_command_more : (name : Text) (rows : List ProgramCommand) (i : ℕ) (other : ProgramCommand) (command new : Command) → i < length rows → app_of command ≡ unversioned (program_of name (map app_of_command (take i rows)))
    → app_of new ≡ with_subcommand (app_of command) (app_of_command (get_or rows i other)).top
    → app_of new ≡ unversioned (program_of name (map app_of_command (take (i + 1) rows)))
one_command_more name rows i other command new lt is added =
    added ∙ ap (λ (app : App). with_subcommand app (app_of_command (get_or rows i other)).top) is
    ∙ with_one_command name _ (app_of_command (get_or rows i other))
    ∙ ap (λ (commands : List App). unversioned (program_of name commands)) (sym (map_push app_of_command (take i rows) (get_or rows i other)) ∙ ap (map app_of_command) (sym (take_more rows i other lt)))
