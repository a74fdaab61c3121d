-- Why no order is made of a call.
use Rattle.std.specs.Prelude.{◌≡◌, Option}
use Rattle.clap.specs.Words.{Text}
use Rattle.command_line.specs.Calls.{Called}
use Rattle.command_line.specs.declared.no_call.NoCall.TheVariants.{Memory}
use Rattle.zone_name.specs.Common.{NothingIs}
use Rattle.zonefile_command.specs.Order.{IsMost, RefusesMost, RefusesOrigin}
use Rattle.zonefile_command.specs.declared.no_order.NoOrder.{NoOrder}
use Rattle.zonefile_command.specs.declared.no_order.NoOrder.TheVariants.{BadMost, BadOrigin, NoCall}

-- of a text that asks for nothing, of what `Is` says it may ask for
abbrev pub IsOfOrigin : {Origin : Type 0} → (Text → Origin → Type 0) → Text → NoOrder → Type 0
IsOfOrigin Is text BadOrigin = NothingIs (Is text)
IsOfOrigin Is text BadMost = ⊥
IsOfOrigin Is text (NoCall no_call) = no_call ≡ Memory

-- of a number of faults that asks for nothing
abbrev pub IsOfMost : Option Text → NoOrder → Type 0
IsOfMost stated BadMost = NothingIs (IsMost stated)
IsOfMost stated why = ⊥

-- of a call of one of the commands
abbrev pub IsOfAction : Called → NoOrder → Type 0
IsOfAction call BadOrigin = RefusesOrigin call
IsOfAction call BadMost = RefusesMost call
IsOfAction call (NoCall no_call) = no_call ≡ Memory
