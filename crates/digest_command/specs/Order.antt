-- What a command line of `zonedigest` asks for (this project's own).
use Rattle.std.specs.Prelude.{◌≡◌, Bool, if◌then◌else◌, List, [], ◌∷◌, codes}
use Rattle.clap.specs.Words.{Text}
use Rattle.command_line.specs.Calls.{Called, Commands, commands_of}
use Rattle.command_line.specs.declared.program.ArgumentKind.TheVariants.{Word, Flag}
use Rattle.command_input.specs.Order.{Gives, GivesNone, HasFlag, HasText}
use Rattle.command_input.specs.Origin.{IsOriginText}
use Rattle.command_input.specs.declared.line_fault.LineFault.{LineFault}
use Rattle.zone_digest.specs.declared.algorithm.Algorithm.{Algorithm}
use Rattle.zone_digest.specs.declared.algorithm.Algorithm.TheVariants.{Sha384, Sha512}
use Rattle.digest_command.specs.declared.notation.Notation.{Notation}
use Rattle.digest_command.specs.declared.notation.Notation.TheVariants.{Words, Generic}
use Rattle.digest_command.specs.declared.order.Order.{Order}
use Rattle.digest_command.specs.declared.order.Order.TheVariants.{Verify, Digest}

-- the program's commands with their arguments and flags
abbrev pub commands : Commands
commands =
    commands_of (codes "zonedigest")
    (record { word = codes "verify"; arguments = (codes "ORIGIN", Word) ∷ [] }
    ∷ record {
      word = codes "digest";
      arguments = (codes "ORIGIN", Word) ∷ (codes "sha512", Flag) ∷ (codes "generic", Flag) ∷ [];
    }
    ∷ [])

-- the hash algorithm that is asked for with `--sha512`, and without it
abbrev pub algorithm_for : Bool → Algorithm
algorithm_for sha512 = if sha512 then Sha512 else Sha384

-- the notation that is asked for with `--generic`, and without it
abbrev pub notation_for : Bool → Notation
notation_for generic = if generic then Generic else Words

-- what a command with its text and flags asks for
abbrev pub Asks : Called → Order → Type 0
Asks call (Verify origin) =
    (call.0 ≡ codes "verify") × HasText call (codes "ORIGIN") (λ text. IsOriginText text origin)
Asks call (Digest origin algorithm notation) =
    (call.0 ≡ codes "digest") × HasText call (codes "ORIGIN") (λ text. IsOriginText text origin)
    × HasFlag call (codes "sha512") (λ given. algorithm ≡ algorithm_for given)
    × HasFlag call (codes "generic") (λ given. notation ≡ notation_for given)

-- the order that the words give
abbrev pub Orders : List Text → Order → Type 0
Orders = Gives commands Asks

-- why the words give no order
abbrev pub IsLineFault : List Text → LineFault → Type 0
IsLineFault = GivesNone commands IsOriginText
