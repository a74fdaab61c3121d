-- What is known of the octets that an input of the program has left.
use Rattle.std.specs.Prelude.{ℕ, List, Option}
use Rattle.zonefile.specs.declared.opened.Input.{Input}
use Rattle.zonefile.specs.declared.opened.Input.TheVariants.{Standard, File}

-- what is known of what standard input or the file gives
abbrev pub remaining_of : {S F : Type 0} → (S → Option (List ℕ)) → (F → Option (List ℕ)) → Input S F
    → Option (List ℕ)
remaining_of of_standard of_file (Standard input) = of_standard input
remaining_of of_standard of_file (File file) = of_file file
