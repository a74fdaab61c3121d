-- Numbers are stated or have a fault.
use Rattle.std.specs.Int.{byte_len}
use Rattle.zone_name.specs.Common.{EitherIs}
use Rattle.zone_rdata.proofs.Choices.{Choice}
use Rattle.type_data.proofs.Common.{IsInOctets, NumberFails, Width, arith, cases_lt, inl, inr, refl, to_be_bytes, ℕ, ◌<◌, ◌^◌, ◌≤◌, ◌⊎◌}
use Rattle.type_data.specs.Kinds.Number.{no_number, too_large}
use Rattle.type_data.specs.declared.fault.WordsFault.TheVariants.{NotANumber, TooLarge}

in_octets_by : (Stated : ℕ → Type 0) (w : Width) (n : ℕ) → Stated n → (n < 256 ^ byte_len w) ⊎ (256 ^ byte_len w ≤ n) → EitherIs (IsInOctets Stated w) (NumberFails Stated w)
in_octets_by Stated w n is (inl fits) = inl (to_be_bytes w n, record { number = n; stated = is; fits = fits; value = refl })
in_octets_by Stated w n is (inr over) = inr (TooLarge, too_large n is (λ fits. omega (arith, fits)))

pub in_octets_decided : (Stated : ℕ → Type 0) (w : Width) → Choice Stated → EitherIs (IsInOctets Stated w) (NumberFails Stated w)
in_octets_decided Stated w (inr none) = inr (NotANumber, no_number none)
in_octets_decided Stated w (inl found) = in_octets_by Stated w found.0 found.1 (cases_lt found.0 (256 ^ byte_len w))
