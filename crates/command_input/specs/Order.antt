-- What the words of a command line ask for, or why they ask for nothing (this project's own).
use Rattle.std.specs.Prelude.{◌≡◌, ◌⊎◌, Bool, List, Some, codes, string_bytes}
use Rattle.clap.specs.Words.{Text}
use Rattle.command_line.specs.Calls.{Called, Calls, Commands, HasNoFinalLineFeed, flag_text, text_of}
use Rattle.zone_name.specs.Common.{NothingIs}
use Rattle.command_input.specs.declared.line_fault.LineFault.{LineFault}
use Rattle.command_input.specs.declared.line_fault.LineFault.TheVariants.{BadOrigin, Clap, Memory}

-- the argument of this name has such a text
abbrev pub HasText : Called → Text → (Text → Type 0) → Type 0
HasText call id IsSuch = (text : Text) × (text_of call id ≡ Some text) × IsSuch text

-- that the flag of this name is given or not means this
abbrev pub HasFlag : Called → Text → (Bool → Type 0) → Type 0
HasFlag call id Means = (given : Bool) × (text_of call id ≡ Some (flag_text given)) × Means given

-- The words give the order: by `clap` they are a command with the texts that ask for it.
abbrev pub Gives : {Order : Type 0} → (commands : Commands) → (Called → Order → Type 0)
    → List Text → Order → Type 0
Gives commands Asks words order = (call : Called) × Calls commands words call × Asks call order

-- The first text of an origin that asks for nothing: of the one origin, or of the first of two, or of
-- the second where the first asks for one.
abbrev pub HasBadOrigin : {Origin : Type 0} → (Text → Origin → Type 0) → Called → Type 0
HasBadOrigin {Origin} Is call =
    HasText call (codes "ORIGIN") (λ text. NothingIs (Is text))
    ⊎ HasText call (codes "ORIGIN1") (λ text. NothingIs (Is text))
    ⊎ (HasText call (codes "ORIGIN1") (λ text. (origin : Origin) × Is text origin)
    × HasText call (codes "ORIGIN2") (λ text. NothingIs (Is text)))

-- Why the words give no order: the text of an origin asks for nothing, of what `Is` says it may ask
-- for; or by `clap` they are no command with all its arguments, and what it tells ends in no line
-- feed.
abbrev pub GivesNone : {Origin : Type 0} → (commands : Commands) → (Text → Origin → Type 0)
    → List Text → LineFault → Type 0
GivesNone commands Is words BadOrigin =
    (call : Called) × Calls commands words call × HasBadOrigin Is call
GivesNone commands Is words (Clap told) =
    NothingIs (Calls commands words) × HasNoFinalLineFeed (string_bytes told)
GivesNone commands Is words Memory = Unit {0}
