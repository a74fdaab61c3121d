-- The line of a refusal, as a sink takes it piece by piece, and how long it is.
use Rattle.zone_rdata.proofs.Common.{[], ◌≡◌, ◌≤◌, ◌<◌, ℕ, List, Labels, ◌++◌, length, length-append, length-decimal-le, append-nil, arith, sym, codes, decimal, IsName, Fault}
use Rattle.zone_name.proofs.Texts.Lengths.{name_text_length}
use Rattle.zone_name.proofs.Texts.Sinks.{Joins}
use Rattle.zone_rdata.specs.FaultTable.{fault_row}
use Rattle.zone_rdata.specs.StopText.{argument_of, place_words, refusal_line}
use Rattle.zone_rdata.specs.declared.fault.Fault.TheVariants.{OutOfZone}
use Rattle.zone_rdata.specs.declared.fault.Place.{Place}

-- number and name of a fault
abbrev named : Fault → List ℕ
named fault = codes "F" ++ decimal (fault_row fault).number ++ codes " " ++ (fault_row fault).name

module _ {S : Type 0} (takes : S → List ℕ → S → Type 0) (joins : Joins takes) (fault : Fault) (n : ℕ) (name : List ℕ) (a b c d : S) (number : takes a (codes "F" ++ decimal n) b) (space : takes b (codes " ") c) (word : takes c name d) (n_is : n ≡ (fault_row fault).number) (name_is : name ≡ (fault_row fault).name) where
  front : takes a (named fault) d
  front = rw (sym n_is, sym name_is) (joins _ _ _ _ _ (joins _ _ _ _ _ number space) word)

  pub without_argument : [] ≡ argument_of fault → takes a (named fault ++ argument_of fault) d
  without_argument none = rw (sym none, append-nil (named fault)) front

  pub with_argument : (argument : List ℕ) (e : S) → takes d argument e → argument ≡ argument_of fault → takes a (named fault ++ argument_of fault) e
  with_argument argument e last is = rw (sym is) (joins _ _ _ _ _ front last)

  pub with_owner : (owner : List ℕ) (e f : S) → takes d (codes " ") e → takes e owner f → codes " " ++ owner ≡ argument_of fault → takes a (named fault ++ argument_of fault) f
  with_owner owner e f blank last is = with_argument _ f (joins _ _ _ _ _ blank last) is

-- ---- how long it is

pub owner_short : (fault : Fault) (owner : Labels) → fault ≡ OutOfZone owner → IsName owner → length (argument_of fault) ≤ 1022
owner_short fault owner is name = rw is (omega (arith, name_text_length owner, name.short))

name_short : (fault : Fault) → length (fault_row fault).name ≤ 64
name_short fault = grind arith

text_short : (fault : Fault) → length (fault_row fault).text ≤ 512
text_short fault = grind arith

-- at most three digits, with room for new rows
number_below : (fault : Fault) → (fault_row fault).number < 1000
number_below fault = grind arith

number_short : (fault : Fault) → length (decimal (fault_row fault).number) ≤ 3
number_short fault = length-decimal-le 3 (fault_row fault).number (omega arith) (omega (arith, number_below fault)) (omega (arith, number_below fault))

pub line_short : (fault : Fault) (place : Place) → length (argument_of fault) ≤ 1022 → length (place_words place) ≤ 128 → length (refusal_line fault place) ≤ 2048
line_short fault place argument at = grind (arith, length-append, name_short, text_short, number_short)
