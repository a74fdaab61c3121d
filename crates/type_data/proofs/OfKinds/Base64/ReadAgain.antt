-- Base64 that are printed state their octets.
use Rattle.type_data.proofs.Common.{List, RawItem, ℕ}
use Rattle.type_data.specs.Kinds.Base64.{IsBase64, PrintsBase64, StatesBase64}
use Rattle.type_data.proofs.OfKinds.Joined.ReadAgain.{one_item_states}

pub base64_printed_states : (items : List RawItem) (octets : List ℕ) → PrintsBase64 items octets → StatesBase64 items octets
base64_printed_states items octets printed = one_item_states IsBase64 IsBase64 (λ text octets is. is) items octets printed
