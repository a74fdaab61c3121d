-- Tags as they are printed.
use Rattle.type_data.proofs.Common.{List, ap, drop, refl, subst, sym, ◌++◌, with_length, ℕ, ◌≡◌}
use Rattle.type_data.proofs.OfKinds.AfterLength.Printed.{AfterLength, counted_bad, counted_front}
use Rattle.type_data.specs.Kinds.Tag.{IsTag, PrintsTag, StatesTag}
use Rattle.type_data.specs.Printed.{NoFront, PrintsFront}

tag_after : AfterLength StatesTag
tag_after words part states = (words, states.1)

pub no_tag : (octets rest value : List ℕ) → octets ≡ with_length value ++ rest → (IsTag value → ⊥) → NoFront StatesTag octets
no_tag octets rest value whole bad =
    counted_bad StatesTag octets rest value tag_after whole (λ text states. bad (subst IsTag (sym (ap (drop 1) states.1)) states.0))

pub tag_front : (octets rest old new value : List ℕ) → octets ≡ with_length value ++ rest → IsTag value → new ≡ old ++ value → PrintsFront PrintsTag StatesTag octets rest old new
tag_front octets rest old new value whole is appended =
    counted_front PrintsTag StatesTag octets rest old new value value tag_after whole (is, refl) appended

pub tag_printed_states : (text octets : List ℕ) → PrintsTag text octets → StatesTag text octets
tag_printed_states text octets printed = printed
