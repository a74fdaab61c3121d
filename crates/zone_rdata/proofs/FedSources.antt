-- What a source that is fed stands for after the records that it gives.
use Rattle.zone_rdata.proofs.Common.{[], ◌≡◌, ℕ, List, ◌∷◌, ◌++◌, Option, Some, None, Result, Ok, Err, subst, arith, append-nil, Fault, common_steps, after, answer_of, Placed}
use Rattle.zone_rdata.specs.FedSource.{Gives, SourceState, StandsFor}
use Rattle.zone_rdata.specs.declared.fault.Place.{Place}
use Rattle.zone_rdata.specs.declared.fault.Stop.{Stop}

-- the records that an answer of `next` gives, one or none
abbrev given_by : Result (Option Placed) Stop → List Placed
given_by (Ok None) = []
given_by (Ok (Some r)) = r ∷ []
given_by (Err stop) = []

module _ {Kept : Type 0} (Decide Read : List Placed → Option (Fault × Place) → Type 0) (Leave : Kept → List ℕ → Type 0) (old new : SourceState Kept) where
  pub stands_given : (more : List Placed) (fed : List ℕ) (given : List Placed) → Gives old more new → StandsFor Decide Read Leave old fed given → StandsFor Decide Read Leave new fed (given ++ more)
  stands_given more fed given gives stands = grind (arith, common_steps)

  stands_next : (answer : Result (Option Placed) Stop) (fed : List ℕ) (given : List Placed) → new.pending ≡ after old.pending → new.held ≡ old.held → answer_of old.pending ≡ answer → StandsFor Decide Read Leave old fed given → StandsFor Decide Read Leave new fed (given ++ given_by answer)
  stands_next answer fed given moved same is stands = grind (arith, common_steps)

  pub stands_record : (r : Placed) (fed : List ℕ) (given : List Placed) → new.pending ≡ after old.pending → new.held ≡ old.held → answer_of old.pending ≡ Ok (Some r) → StandsFor Decide Read Leave old fed given → StandsFor Decide Read Leave new fed (given ++ r ∷ [])
  stands_record r = stands_next (Ok (Some r))

  pub stands_none : (fed : List ℕ) (given : List Placed) → new.pending ≡ after old.pending → new.held ≡ old.held → answer_of old.pending ≡ Ok None → StandsFor Decide Read Leave old fed given → StandsFor Decide Read Leave new fed given
  stands_none fed given moved same is stands = subst (StandsFor Decide Read Leave new fed) (append-nil given) (stands_next (Ok None) fed given moved same is stands)

  pub stands_stop : (stop : Stop) (fed : List ℕ) (given : List Placed) → new.pending ≡ after old.pending → new.held ≡ old.held → answer_of old.pending ≡ Err stop → StandsFor Decide Read Leave old fed given → StandsFor Decide Read Leave new fed given
  stands_stop stop fed given moved same is stands = subst (StandsFor Decide Read Leave new fed) (append-nil given) (stands_next (Err stop) fed given moved same is stands)
