use Rattle.type_data.proofs.Common.{◌-◌, ◌^◌, ◌≡◌, ◌≤◌, ◌⊎◌}
use Rattle.type_data.proofs.kinds.location.metres.first_digit.Given as goal

abbrev pub invariant-loop-power : goal.invariant-loop-power
invariant-loop-power l = record { few : l.power ≤ 9; first : (l.power ≡ 0) ⊎ (10 ^ l.power ≤ l.centimetres) }

abbrev pub decreases-loop-power : goal.decreases-loop-power
decreases-loop-power l = 9 - l.power
