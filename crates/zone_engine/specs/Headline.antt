-- The words of the sentence that the program stands for (the law `headline`).
use Rattle.std.specs.Prelude.{◌≡◌, ℕ, ◌<◌, ◌≤◌, List, length, Option}
use Rattle.std.specs.List.{AllByRecursion}
use Rattle.zone_rdata.specs.declared.fault.Fault.{Fault}
use Rattle.zone_set.specs.Zone.{Zone}
use Rattle.zone_wire.specs.Name.{Found, IsNameAt}
use Rattle.zone_wire.specs.Walk.{Visit, IsWalk}
use Rattle.zone_engine.specs.Input.{Input, InputDenotes}
use Rattle.zone_engine.specs.Normalise.{NormalisesTo}

-- two inputs denote the same zone
abbrev pub DenoteOne : Input → Input → Type 0
DenoteOne a b = (z : Zone) × InputDenotes a z × InputDenotes b z

-- the input denotes this zone and no other
pub record DenotesOnly (input : Input) (z : Zone) : Type 0 where
  pub denotes : InputDenotes input z
  pub no_other : (w : Zone) → InputDenotes input w → w ≡ z

-- the input normalises to this text and to no other
pub record NormalisesOnlyTo (input : Input) (text : List ℕ) : Type 0 where
  pub normalises : NormalisesTo input text
  pub no_other : (other : List ℕ) → NormalisesTo input other → other ≡ text

-- The walk of the name at an offset: at most 256 places, all in the message. A name that is decoded
-- there takes a step for each.
pub record IsBoundedWalk (message : List ℕ) (offset : ℕ) (visits : List Visit) : Type 0 where
  pub ending : Option Fault
  pub walk : IsWalk message offset visits ending
  pub few : length visits ≤ 256
  pub inside : AllByRecursion (λ visit. visit.offset < length message) visits
  pub steps : (found : Found) → IsNameAt message offset found → found.steps ≡ length visits
