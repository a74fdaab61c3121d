-- What is so or not, of parts, and what follows from it for octets that are stated after all.
use Rattle.zone_name.specs.Common.{EitherIs}
use Rattle.zone_rdata.proofs.Choices.{Choice, Decided}
use Rattle.type_data.proofs.Common.{List, NothingStated, WordsFault, arith, cases_lt, inl, inr, refl, ℕ, ◌<◌, ◌≤◌, ◌⊎◌}

pub as_or_not : {P Q : Type 0} → (P → Q) → (Q → P) → Decided P → Decided Q
as_or_not there back (inl p) = inl (there p)
as_or_not there back (inr none) = inr (λ q. none (back q))

at_most_by : (a b : ℕ) → (b < a) ⊎ (a ≤ b) → Decided (a ≤ b)
at_most_by a b (inl over) = inr (λ few. omega (arith, few))
at_most_by a b (inr few) = inl few

pub at_most_or_not : (a b : ℕ) → Decided (a ≤ b)
at_most_or_not a b = at_most_by a b (cases_lt b a)

-- octets are stated, or nothing is, which is the kind's own fault
pub by_own : (own : WordsFault) (States : List ℕ → Type 0) → Choice States → EitherIs States (NothingStated own States)
by_own own States (inl found) = inl found
by_own own States (inr none) = inr (own, (refl, none))
