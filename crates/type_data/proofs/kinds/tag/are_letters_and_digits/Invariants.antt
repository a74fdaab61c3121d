use Rattle.type_data.proofs.Common.{AllByRecursion, take, true, ◌≡◌}
use Rattle.type_data.proofs.kinds.tag.are_letters_and_digits.Given as goal
use Rattle.type_data.specs.Kinds.Tag.{is_letter_or_digit}

abbrev pub invariant-loop-octet : goal.invariant-loop-octet
invariant-loop-octet l = AllByRecursion (λ c. is_letter_or_digit c ≡ true) (take l.octet-index l.text)
