-- What a command line asks for (this project's own).
use Rattle.std.specs.Prelude.{◌≡◌, List, [], ◌∷◌, codes, string_bytes, Some}
use Rattle.clap.specs.Words.{Text}
use Rattle.command_line.specs.Calls.{Called, Commands, commands_of, text_of}
use Rattle.command_line.specs.declared.program.ArgumentKind.TheVariants.{Word}
use Rattle.command_input.specs.Order.{Gives, GivesNone, HasText}
use Rattle.command_input.specs.Origin.{IsOriginText}
use Rattle.command_input.specs.declared.line_fault.LineFault.{LineFault}
use Rattle.zone_command.specs.declared.order.Source.{Source}
use Rattle.zone_command.specs.declared.order.Order.{Order}
use Rattle.zone_command.specs.declared.order.Order.TheVariants.{Normalise, Explain, Compare}

-- the program's commands with their arguments
abbrev pub commands : Commands
commands =
    commands_of (codes "zonenorm")
    (record { word = codes "normalise"; arguments = (codes "ORIGIN", Word) ∷ [] }
    ∷ record { word = codes "explain"; arguments = (codes "ORIGIN", Word) ∷ [] }
    ∷ record {
      word = codes "compare";
      arguments =
          (codes "ORIGIN1", Word) ∷ (codes "PATH1", Word) ∷ (codes "ORIGIN2", Word)
          ∷ (codes "PATH2", Word) ∷ [];
    }
    ∷ [])

-- what the texts of an origin and a path ask for
pub record IsSource (call : Called) (origin path : Text) (source : Source) : Type 0 where
  pub is_origin : HasText call origin (λ text. IsOriginText text source.origin)
  pub is_path : text_of call path ≡ Some (string_bytes source.path)

-- what a command with its texts asks for
abbrev pub Asks : Called → Order → Type 0
Asks call (Normalise origin) =
    (call.0 ≡ codes "normalise") × HasText call (codes "ORIGIN") (λ text. IsOriginText text origin)
Asks call (Explain origin) =
    (call.0 ≡ codes "explain") × HasText call (codes "ORIGIN") (λ text. IsOriginText text origin)
Asks call (Compare first second) =
    (call.0 ≡ codes "compare") × IsSource call (codes "ORIGIN1") (codes "PATH1") first
    × IsSource call (codes "ORIGIN2") (codes "PATH2") second

-- the order that the words give
abbrev pub Orders : List Text → Order → Type 0
Orders = Gives commands Asks

-- why the words give no order
abbrev pub IsLineFault : List Text → LineFault → Type 0
IsLineFault = GivesNone commands IsOriginText
