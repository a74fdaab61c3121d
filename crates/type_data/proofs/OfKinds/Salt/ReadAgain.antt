-- Salts that are printed state their octets.
use Rattle.type_data.proofs.Common.{List, ℕ}
use Rattle.type_data.specs.Kinds.Salt.{IsPrintedSalt, IsSalt, PrintsSalt, StatesSalt, digits, no_octets, none, some}
use Rattle.type_data.proofs.OfKinds.Hexadecimal.ReadAgain.{lower_is_hex}
use Rattle.type_data.proofs.OfKinds.AfterLength.ReadAgain.{after_length_states}

salt_is : (text octets : List ℕ) → IsPrintedSalt text octets → IsSalt text octets
salt_is text octets (no_octets mark empty) = none mark empty
salt_is text octets (digits is) = some (lower_is_hex text octets is)

pub salt_printed_states : (text octets : List ℕ) → PrintsSalt text octets → StatesSalt text octets
salt_printed_states text octets printed = after_length_states IsPrintedSalt IsSalt salt_is text octets printed
