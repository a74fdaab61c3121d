-- What a command line asks for (this project's own).
use Rattle.std.specs.Prelude.{◌≡◌, ℕ, List, [], ◌∷◌, codes, None}
use Rattle.clap.specs.Words.{Text}
use Rattle.command_line.specs.Calls.{Called, Commands, commands_of}
use Rattle.command_line.specs.declared.program.ArgumentKind.TheVariants.{Word}
use Rattle.command_input.specs.Order.{Gives, GivesNone, HasText}
use Rattle.command_input.specs.declared.line_fault.LineFault.{LineFault}
use Rattle.zone_name.specs.Common.{Labels}
use Rattle.zone_name.specs.Spelling.{SpellsCased}
use Rattle.words_command.specs.declared.order.Order.{Order}
use Rattle.words_command.specs.declared.order.Order.TheVariants.{Generic, Words}

-- the program's commands with their arguments
abbrev pub commands : Commands
commands =
    commands_of (codes "zonewords")
    (record { word = codes "generic"; arguments = (codes "ORIGIN", Word) ∷ [] }
    ∷ record { word = codes "words"; arguments = [] }
    ∷ [])

-- what a text given as an origin asks for: the name that it spells as an absolute one, with its
-- letters as they stand (RFC 1035 5.1)
abbrev pub IsOriginText : Text → Labels → Type 0
IsOriginText text origin = SpellsCased None text origin

-- what a command with its texts asks for
abbrev pub Asks : Called → Order → Type 0
Asks call (Generic origin) =
    (call.0 ≡ codes "generic") × HasText call (codes "ORIGIN") (λ text. IsOriginText text origin)
Asks call Words = call.0 ≡ codes "words"

-- the order that the words give
abbrev pub Orders : List Text → Order → Type 0
Orders = Gives commands Asks

-- why the words give no order
abbrev pub IsLineFault : List Text → LineFault → Type 0
IsLineFault = GivesNone commands IsOriginText

-- what the user is told of a bad origin
abbrev pub bad_origin_line : List ℕ
bad_origin_line = codes "an origin is an absolute name"
