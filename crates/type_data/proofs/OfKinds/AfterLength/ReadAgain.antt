-- Octets after their length that are printed state their octets.
use Rattle.type_data.proofs.Common.{List, ℕ}
use Rattle.type_data.specs.Kinds.AfterLength.{StatesAfterLength}

pub after_length_states : (Prints States : List ℕ → List ℕ → Type 0) → ((text octets : List ℕ) → Prints text octets → States text octets) → (text octets : List ℕ) → StatesAfterLength Prints text octets → StatesAfterLength States text octets
after_length_states Prints States goes text octets printed = record {
  value = printed.value;
  stands = goes text printed.value printed.stands;
  short = printed.short;
  written = printed.written;
}
