-- What private functions tell in place of a call.
use Rattle.std.specs.Prelude.{◌≡◌, ◌++◌, ℕ, List, replicate, string_bytes}
use Rattle.clap.specs.declared.error.kind.ErrorKind.{ErrorKind}
use Rattle.command_line.specs.Calls.{HasNoFinalLineFeed, IsAskedFor}
use Rattle.command_line.specs.declared.no_call.NoCall.{NoCall}
use Rattle.command_line.specs.declared.no_call.NoCall.TheVariants.{Shown, Told, Memory}

-- a text without the line feeds at its end
pub record IsWithoutLineFeeds (text told : List ℕ) : Type 0 where
  pub feeds : ℕ
  pub parts : text ≡ told ++ replicate feeds 10
  pub none_left : HasNoFinalLineFeed told

-- what is told has no line feed at its end
abbrev pub EndsWell : NoCall → Type 0
EndsWell (Shown shown) = HasNoFinalLineFeed (string_bytes shown)
EndsWell (Told told) = HasNoFinalLineFeed (string_bytes told)
EndsWell Memory = Unit {0}

-- this text is told, but for the line feeds at its end
abbrev pub Tells : List ℕ → NoCall → Type 0
Tells text (Shown shown) = IsWithoutLineFeeds text (string_bytes shown)
Tells text (Told told) = IsWithoutLineFeeds text (string_bytes told)
Tells text Memory = ⊥

-- what is told of an answer of this kind: it is shown where the words ask for it
abbrev pub Answers : ErrorKind → NoCall → Type 0
Answers kind (Shown shown) = IsAskedFor kind
Answers kind (Told told) = IsAskedFor kind → ⊥
Answers kind Memory = Unit {0}
