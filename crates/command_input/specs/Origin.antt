-- The origin of an input, as a word of a command line gives it (this project's own).
use Rattle.std.specs.Prelude.{◌≡◌, codes, Option, Some, None}
use Rattle.clap.specs.Words.{Text}
use Rattle.zone_name.specs.Common.{NothingIs, Labels}
use Rattle.zone_name.specs.Spelling.{Spells}
use Rattle.command_input.specs.declared.line_fault.LineFault.{LineFault}
use Rattle.command_input.specs.declared.line_fault.LineFault.TheVariants.{BadOrigin, Clap, Memory}

-- what a text given as an origin asks for: the word `transfer` for a transfer, any other
-- text for a master file under the origin that it spells as an absolute name
abbrev pub IsOriginText : Text → Option Labels → Type 0
IsOriginText text None = text ≡ codes "transfer"
IsOriginText text (Some origin) = Spells None text origin

-- the fault that a text makes which is no origin
abbrev pub IsOfOrigin : {Origin : Type 0} → (Text → Origin → Type 0) → Text → LineFault → Type 0
IsOfOrigin Is text BadOrigin = NothingIs (Is text)
IsOfOrigin Is text (Clap told) = ⊥
IsOfOrigin Is text Memory = ⊥
