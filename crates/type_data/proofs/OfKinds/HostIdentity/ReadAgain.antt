-- Host identities that are printed state their octets.
use Rattle.type_data.proofs.Common.{IsHex, List, ℕ}
use Rattle.type_data.specs.Kinds.Hexadecimal.{IsLowerHex}
use Rattle.type_data.specs.Kinds.HostIdentity.{PrintsHostIdentityTag, StatesHostIdentityTag}
use Rattle.type_data.proofs.OfKinds.Hexadecimal.ReadAgain.{lower_is_hex}
use Rattle.type_data.proofs.OfKinds.AfterLength.ReadAgain.{after_length_states}

pub identity_printed_states : (text octets : List ℕ) → PrintsHostIdentityTag text octets → StatesHostIdentityTag text octets
identity_printed_states text octets printed = after_length_states IsLowerHex IsHex lower_is_hex text octets printed
