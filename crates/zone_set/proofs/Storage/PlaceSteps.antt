-- Places that are kept as steps: one more at the end.
use Rattle.zone_set.proofs.Common.{List, Place, [], append-nil, arith, ℕ, ◌++◌, ◌∷◌, ◌≡◌, ◌≢◌}
use Rattle.zone_set.specs.Machine.Places.{next_place, far_left, stepped, LeadTo, IsStepTo, near, whole}

-- more far places after those that are there change no step
more_far : (last : Place) (step : ℕ) (far more : List Place) → (step ≡ 255 → far ≢ []) → (next_place last step (far ++ more) ≡ next_place last step far) × (far_left step (far ++ more) ≡ far_left step far ++ more)
more_far last step [] more some = grind arith
more_far last step (p ∷ far) more some = grind arith

-- one more step from where the others lead
module _ (end place : Place) (step : ℕ) (more : List Place) (leads : next_place end step more ≡ place) where
  pub stepped_more : (last : Place) (steps : List ℕ) (far : List Place) → LeadTo last steps far end → stepped last (steps ++ step ∷ []) (far ++ more) ≡ stepped last steps far ++ place ∷ []
  stepped_more last [] far lead = grind arith
  stepped_more last (s ∷ steps) far (some, rest) = grind (arith, more_far last s far more some, stepped_more (next_place last s far) steps (far_left s far) rest)

  pub LeadTo-more : (some : step ≡ 255 → more ≢ []) → far_left step more ≡ [] → (last : Place) (steps : List ℕ) (far : List Place) → LeadTo last steps far end → LeadTo last (steps ++ step ∷ []) (far ++ more) place
  LeadTo-more here left last [] far (none, is) = rw (none, is) (here, (left, leads))
  LeadTo-more here left last (s ∷ steps) far (some, rest) =
      let both = more_far last s far more some in
      ((λ is no. grind (arith, some is)), (rw (both.0, both.1) (LeadTo-more here left (next_place last s far) steps (far_left s far) rest)))

-- what a step that was found tells
pub record Found (end place : Place) (far : List Place) (step : ℕ) (new : List Place) : Type 0 where
  pub more : List Place
  pub is : new ≡ far ++ more
  pub leads : next_place end step more ≡ place
  pub some : step ≡ 255 → more ≢ []
  pub left : far_left step more ≡ []

pub found : (end place : Place) (far : List Place) (step : ℕ) (new : List Place) → IsStepTo end place far step new → Found end place far step new
found end place far step new (near short leads same) = record { more = []; is = grind (arith, append-nil); leads = grind arith; some = λ is. absurd (omega arith); left = grind arith }
found end place far step new (whole is same) = record { more = place ∷ []; is = same; leads = grind arith; some = λ e none. cc; left = grind arith }
