-- Identifiers of hardware that are printed aren't the mark of the generic form.
use Rattle.type_data.proofs.Common.{AllZip, List, [], arith, join_with_byte, length, ℕ, ◌<◌, ◌∷◌, ◌≡◌}
use Rattle.type_data.specs.Kinds.Eui.{IsPair, StatesEui}
use Rattle.type_data.proofs.Printed.Marks.{marked, no_other}

no_pairs : (pairs : List (List ℕ)) (octets : List ℕ) → AllZip IsPair pairs octets → 1 < length octets → marked ≡ join_with_byte 45 pairs → ⊥
no_pairs [] [] each some e = omega (arith, some)
no_pairs [] (c ∷ octets) each some e = absurd each
no_pairs (p ∷ []) [] each some e = absurd each
no_pairs (p ∷ []) (c ∷ []) each some e = omega (arith, some)
no_pairs (p ∷ []) (c ∷ d ∷ octets) each some e = absurd each.1
no_pairs (p ∷ q ∷ pairs) octets each some e = no_other 45 p (join_with_byte 45 (q ∷ pairs)) (omega arith) (omega arith) e

pub no_eui : (count : ℕ) (octets : List ℕ) → 1 < count → StatesEui count marked octets → ⊥
no_eui count octets some states = no_pairs states.pairs octets states.each (omega (arith, some, states.counted)) states.parted
