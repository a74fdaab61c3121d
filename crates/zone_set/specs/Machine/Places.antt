-- Places that are kept as steps, each from the place before it.
use Rattle.std.specs.Prelude.{◌≡◌, ◌≢◌, ℕ, ◌+◌, ◌-◌, ◌^◌, ◌<◌, min, List, [], ◌∷◌, ◌++◌, ◌==◌, if◌then◌else◌}
use Rattle.zone_rdata.specs.declared.fault.Place.{Place}
use Rattle.zone_rdata.specs.declared.fault.Place.TheVariants.{Line, Message, Whole}

-- so many more, as far as 64 bits count them
abbrev pub farther : ℕ → ℕ → ℕ
farther count step = min (count + step) (2 ^ 64 - 1)

-- the place so many lines or octets after another
abbrev pub step_from : Place → ℕ → Place
step_from (Line number) step = Line (farther number step)
step_from (Message number offset) step = Message number (farther offset step)
step_from Whole step = Whole

abbrev pub first_place : List Place → Place
first_place [] = Whole
first_place (place ∷ places) = place

abbrev pub later_places : List Place → List Place
later_places [] = []
later_places (place ∷ places) = places

-- the place that a step leads to; 255 is no step, and the first of the far places stands there
abbrev pub next_place : Place → ℕ → List Place → Place
next_place last step far = if step == 255 then first_place far else step_from last step

-- the far places after that
abbrev pub far_left : ℕ → List Place → List Place
far_left step far = if step == 255 then later_places far else far

-- the places that steps lead to
abbrev pub stepped : Place → List ℕ → List Place → List Place
stepped last [] far = []
stepped last (step ∷ steps) far =
    next_place last step far ∷ stepped (next_place last step far) steps (far_left step far)

-- steps lead from one place to another, with each far place in its turn
abbrev pub LeadTo : Place → List ℕ → List Place → Place → Type 0
LeadTo last [] far end = (far ≡ []) × (last ≡ end)
LeadTo last (step ∷ steps) far end =
    (step ≡ 255 → far ≢ []) × LeadTo (next_place last step far) steps (far_left step far) end

-- a step leads from the last place to the next one; or that is one more far place
pub data IsStepTo (last place : Place) (far : List Place) (step : ℕ)
    (new : List Place) : Type 0 where
  near : step < 255 → step_from last step ≡ place → new ≡ far → IsStepTo last place far step new
  whole : step ≡ 255 → new ≡ far ++ place ∷ [] → IsStepTo last place far step new
