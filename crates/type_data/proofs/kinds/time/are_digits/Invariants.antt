use Rattle.type_data.proofs.Common.{AllByRecursion, take, true, ◌≡◌}
use Rattle.zone_name.specs.Spelling.{is_digit}
use Rattle.type_data.proofs.kinds.time.are_digits.Given as goal

abbrev pub invariant-loop-octet : goal.invariant-loop-octet
invariant-loop-octet l = AllByRecursion (λ c. is_digit c ≡ true) (take l.octet-index l.text)
