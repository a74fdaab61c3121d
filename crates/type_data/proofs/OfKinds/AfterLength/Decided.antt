-- Octets after their length are stated or have a fault.
use Rattle.zone_name.specs.Common.{EitherIs}
use Rattle.zone_rdata.proofs.Choices.{Choice}
use Rattle.type_data.proofs.Common.{List, WordsFault, cases_lt, inl, inr, length, refl, with_length, ℕ}
use Rattle.type_data.specs.Kinds.AfterLength.{FailsAfterLength, StatesAfterLength, of_no_octets, of_too_many}
use Rattle.type_data.specs.declared.fault.WordsFault.TheVariants.{TooLong}

pub after_length_decided : (own : WordsFault) (StandsFor : List ℕ → List ℕ → Type 0) (text : List ℕ) → Choice (StandsFor text) → EitherIs (StatesAfterLength StandsFor text) (FailsAfterLength own StandsFor text)
after_length_decided own StandsFor text (inr none) = inr (own, of_no_octets none)
after_length_decided own StandsFor text (inl found) = elim (cases_lt 255 (length found.0)) [
  | inl long ↦ inr (TooLong, of_too_many found.0 found.1 long)
  | inr short ↦ inl (with_length found.0, record { value = found.0; stands = found.1; short = short; written = refl })
]
