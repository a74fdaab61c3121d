use Rattle.zone_rdata.proofs.Common.{◌≡◌, ℕ, min, take, true, List, AllByRecursion, is_digit, decimal_value}
use Rattle.zone_rdata.proofs.number.decimal_of.Given as goal

-- digits so far, and their number under the cap
pub record ReadsDigits (cap : ℕ) (text : List ℕ) (n : ℕ) : Type 0 where
  pub each : AllByRecursion (λ c. is_digit c ≡ true) text
  pub value : n ≡ min cap (decimal_value text)

abbrev pub invariant-loop-octet : goal.invariant-loop-octet
invariant-loop-octet l = ReadsDigits 4294967296 (take l.octet-index l.text) l.number
