-- From the rows of a program's table to the command that was found.
use Rattle.std.proofs.Common.{ℕ, zero, suc, ◌+◌, ◌<◌, ◌≤◌, List, [], ◌∷◌, length, map, drop, get_or, inl, inr, arith, subst, sym}
use Rattle.std.proofs.lemmas.List.{drop_all, drop_more}
use Rattle.command_line.specs.Calls.{Called, HasAll, IsGiven, IsOf, IsOneOf, text_of}
use Rattle.command_line.specs.Program.{argument_described, row_described}
use Rattle.command_line.specs.declared.program.Argument.{Argument}
use Rattle.command_line.specs.declared.program.ProgramCommand.{ProgramCommand}

module _ (call : Called) where
  abbrev pub IsOf_one : List ProgramCommand → Type 0
  IsOf_one rows = IsOneOf (map row_described rows) call

  pub one_at : (rows : List ProgramCommand) (i : ℕ) (other : ProgramCommand) → i < length rows → IsOf (row_described (get_or rows i other)) call → IsOf_one rows
  one_at [] i other lt here = absurd (omega arith)
  one_at (row ∷ rows) zero other lt here = inl here
  one_at (row ∷ rows) (suc i) other lt here = inr (one_at rows i other (omega arith) here)

  -- it is of none so far, so it is of one of the rest
  pub one_later : (rows : List ProgramCommand) (i : ℕ) (other : ProgramCommand) → i < length rows → (IsOf (row_described (get_or rows i other)) call → ⊥) → IsOf_one (drop i rows) → IsOf_one (drop (i + 1) rows)
  one_later rows i other lt not_here one = elim (subst IsOf_one (drop_more rows i other lt) one) [
    | inl here ↦ absurd (not_here here)
    | inr later ↦ later
  ]

  pub none_later : (rows : List ProgramCommand) (i : ℕ) → length rows ≤ i → IsOf_one (drop i rows) → ⊥
  none_later rows i over one = subst IsOf_one (drop_all i rows over) one

  -- an argument is given
  abbrev pub Has : Argument → Type 0
  Has argument = IsGiven argument.kind (text_of call argument.id.now)

  abbrev pub Has_all : List Argument → Type 0
  Has_all arguments = HasAll (map argument_described arguments) call

  pub all_at : (arguments : List Argument) (i : ℕ) (other : Argument) → i < length arguments → Has_all arguments → Has (get_or arguments i other)
  all_at [] i other lt all = absurd (omega arith)
  all_at (argument ∷ arguments) zero other lt all = all.0
  all_at (argument ∷ arguments) (suc i) other lt all = all_at arguments i other (omega arith) all.1

  -- all are given if the rest is
  pub all_before : (arguments : List Argument) (i : ℕ) (other : Argument) → i < length arguments → Has (get_or arguments i other) → Has_all (drop (i + 1) arguments) → Has_all (drop i arguments)
  all_before arguments i other lt here all = subst Has_all (sym (drop_more arguments i other lt)) (here, all)

  pub all_past : (arguments : List Argument) (i : ℕ) → length arguments ≤ i → Has_all (drop i arguments)
  all_past arguments i over = subst Has_all (sym (drop_all i arguments over)) tt
