-- Tags are stated or have a fault.
use Rattle.zone_name.specs.Common.{EitherIs}
use Rattle.zone_rdata.proofs.Choices.{Decided, both_or_not, each_or_not, true_or_not}
use Rattle.type_data.proofs.Common.{AllByRecursion, List, inl, inr, length, refl, true, with_length, ℕ, ◌≡◌, ◌≤◌}
use Rattle.type_data.proofs.Decided.Choices.{as_or_not, at_most_or_not}
use Rattle.type_data.specs.Kinds.Tag.{FailsTag, IsTag, StatesTag, is_letter_or_digit}
use Rattle.type_data.specs.declared.fault.WordsFault.TheVariants.{NotATag}

tag_or_not : (text : List ℕ) → Decided (IsTag text)
tag_or_not text =
    as_or_not {P = (1 ≤ length text) × ((length text ≤ 255) × AllByRecursion (λ c. is_letter_or_digit c ≡ true) text)} {Q = IsTag text} (λ h. record { some = h.0; few = h.1.0; each = h.1.1 }) (λ is. (is.some, (is.few, is.each))) (both_or_not (at_most_or_not 1 (length text)) (both_or_not (at_most_or_not (length text) 255) (each_or_not (λ c. is_letter_or_digit c ≡ true) (λ c. true_or_not (is_letter_or_digit c)) text)))

pub tag_decided : (text : List ℕ) → EitherIs (StatesTag text) (FailsTag text)
tag_decided text = elim (tag_or_not text) [
  | inl is ↦ inl (with_length text, (is, refl))
  | inr none ↦ inr (NotATag, (refl, λ octets is. none is.0))
]
