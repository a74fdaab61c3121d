-- Node identifiers are stated or have a fault.
use Rattle.std.proofs.lemmas.Bool.{cases_eq}
use Rattle.zone_rdata.proofs.Addresses.AddressParts.{parts_unique}
use Rattle.zone_rdata.proofs.Choices.{Choice}
use Rattle.zone_rdata.specs.Address.{AreFourGroups, ArePartsOf}
use Rattle.type_data.proofs.Common.{List, ap, false, inl, inr, length, ℕ, ◌∙◌}
use Rattle.zone_rdata.proofs.Addresses.AddressChoice.{parts_or_not}

node_id_by : (text : List ℕ) → Choice (ArePartsOf false text) → Choice (AreFourGroups text)
node_id_by text (inr none) = inr (λ octets are. none octets are.groups)
node_id_by text (inl found) = elim (cases_eq (length found.0) 8) [
  | inl eight ↦ inl (found.0, record { groups = found.1; four = eight })
  | inr other ↦ inr (λ octets are. other (ap length (parts_unique false text found.0 octets found.1 are.groups) ∙ are.four))
]

pub node_id_or_not : (text : List ℕ) → Choice (AreFourGroups text)
node_id_or_not text = node_id_by text (parts_or_not false text)
