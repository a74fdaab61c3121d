-- Salts are stated or have a fault.
use Rattle.zone_rdata.proofs.Choices.{Choice}
use Rattle.zone_rdata.proofs.Words.OneWord.{same_or_not}
use Rattle.type_data.proofs.Common.{IsHex, List, [], codes, inl, inr, refl, ℕ, ◌-◌, ◌≡◌, ◌⊎◌}
use Rattle.type_data.specs.Kinds.Salt as salts
use Rattle.type_data.specs.Kinds.Salt.{IsSalt}
use Rattle.type_data.proofs.OfKinds.Hexadecimal.Decided.{hex_or_not}

salt_by : (text : List ℕ) → (text ≡ codes "-") ⊎ (text ≡ codes "-" → ⊥) → Choice (IsHex text) → Choice (IsSalt text)
salt_by text (inl hyphen) hex = inl ([], salts.none hyphen refl)
salt_by text (inr other) (inl found) = inl (found.0, salts.some found.1)
salt_by text (inr other) (inr no_hex) = inr (λ octets is. elim is [ salts.none hyphen empty ↦ other hyphen | salts.some hex ↦ no_hex octets hex ])

pub salt_or_not : (text : List ℕ) → Choice (IsSalt text)
salt_or_not text = salt_by text (same_or_not text (codes "-")) (hex_or_not text)
