-- What is known of the octets that an input of the program has left.
use Rattle.std.specs.Prelude.{◌≡◌, ℕ, List, Option, None}
use Rattle.zonenorm.specs.declared.opened.Input.{Input}
use Rattle.zonenorm.specs.declared.opened.Input.TheVariants.{Standard, File, Missing}
use Rattle.zone_command.specs.declared.order.Order.{Order}
use Rattle.zone_command.specs.declared.order.Order.TheVariants.{Normalise, Explain, Compare}

-- what is known of what standard input or the file gives; a missing input gives nothing that is
-- known
abbrev pub remaining_of : {S F : Type 0} → (S → Option (List ℕ)) → (F → Option (List ℕ)) → Input S F
    → Option (List ℕ)
remaining_of of_standard of_file (Standard input) = of_standard input
remaining_of of_standard of_file (File file) = of_file file
remaining_of of_standard of_file Missing = None

-- it is a file, or missing, and not standard input
abbrev pub IsOpened : {S F : Type 0} → Input S F → Type 0
IsOpened (Standard input) = ⊥
IsOpened (File file) = Unit {0}
IsOpened Missing = Unit {0}

-- the first input of an order is standard input, but for a comparison, which takes a file
abbrev pub TakesStandard : {S F : Type 0} → Order → S → Input S F → Type 0
TakesStandard (Normalise origin) standard input = input ≡ Standard standard
TakesStandard (Explain origin) standard input = input ≡ Standard standard
TakesStandard (Compare first second) standard input = IsOpened input
