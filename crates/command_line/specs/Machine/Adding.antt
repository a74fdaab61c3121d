-- What the help of a command shows.
use Rattle.std.specs.Prelude.{◌≡◌, Some}
use Rattle.std.specs.Borrow.{Bor}
use Rattle.clap.specs.Words.{Text}
use Rattle.clap.specs.declared.builder.Command.{Command}
use Rattle.clap.specs.declared.builder.Command.TheViews.{out-Command as fields_of}

-- what the command does, how it is called, and what stands below
pub record ShowsTexts (about usage notes : Bor Text) (command : Command) : Type 0 where
  pub does : (fields_of command).about ≡ Some about
  pub called : (fields_of command).usage_str ≡ Some usage
  pub below : (fields_of command).after_help ≡ Some notes
