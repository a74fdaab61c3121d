-- Node identifiers as they are printed.
use Rattle.type_data.proofs.Common.{List, [], ap, append_assoc, arith, encode_lower, get_or, length, refl, sym, take, take-length, drop, ℕ, ◌++◌, ◌+◌, ◌-◌, ◌<◌, ◌≤◌, ◌∙◌, ◌∷◌, ◌≡◌}
use Rattle.type_data.proofs.OfKinds.Address.Printed.{part_octets}
use Rattle.type_data.proofs.Printed.Fronts.{front_printed, front_short}
use Rattle.type_data.specs.Kinds.NodeId.{PrintsNodeId, StatesNodeId}
use Rattle.type_data.specs.Printed.{NoFront, PrintsFront}

abbrev node_text : ℕ → ℕ → ℕ → ℕ → ℕ → ℕ → ℕ → ℕ → List ℕ
node_text a b c d e f g h =
    encode_lower (a ∷ b ∷ []) ++ 58 ∷ (encode_lower (c ∷ d ∷ []) ++ 58 ∷ (encode_lower (e ∷ f ∷ []) ++ 58 ∷ encode_lower (g ∷ h ∷ [])))

pub node_appended : (a b c d e f g h : ℕ) (old o1 o2 o3 o4 o5 o6 new : List ℕ) → o1 ≡ old ++ encode_lower (a ∷ b ∷ []) → o2 ≡ o1 ++ 58 ∷ [] → o3 ≡ o2 ++ encode_lower (c ∷ d ∷ [])
    → o4 ≡ o3 ++ 58 ∷ [] → o5 ≡ o4 ++ encode_lower (e ∷ f ∷ []) → o6 ≡ o5 ++ 58 ∷ [] → new ≡ o6 ++ encode_lower (g ∷ h ∷ []) → new ≡ old ++ node_text a b c d e f g h
node_appended a b c d e f g h old o1 o2 o3 o4 o5 o6 new e1 e2 e3 e4 e5 e6 e7 = rw (e7, e6, e5, e4, e3, e2, e1) (simp append_assoc)

pub node_front : (a b c d e f g h : ℕ) (octets rest old new : List ℕ) → ((i : ℕ) → get_or octets i 0 < 256) → octets ≡ a ∷ b ∷ c ∷ d ∷ e ∷ f ∷ g ∷ h ∷ rest → new ≡ old ++ node_text a b c d e f g h → PrintsFront PrintsNodeId StatesNodeId octets rest old new
node_front a b c d e f g h octets rest old new each whole appended =
    front_printed PrintsNodeId StatesNodeId 8 octets rest old new (a ∷ b ∷ c ∷ d ∷ e ∷ f ∷ g ∷ h ∷ []) (node_text a b c d e f g h) (λ text octets is. is.four) whole refl
    (record {
      groups = (a ∷ b ∷ []) ∷ (c ∷ d ∷ []) ∷ (e ∷ f ∷ []) ∷ (g ∷ h ∷ []) ∷ [];
      four = refl;
      two = (refl, (refl, (refl, (refl, tt))));
      each = part_octets octets (a ∷ b ∷ c ∷ d ∷ e ∷ f ∷ g ∷ h ∷ []) rest each whole;
      whole = refl;
      printed = refl;
    }) appended

pub node_printed : (octets old o1 o2 o3 o4 o5 o6 new : List ℕ) → 8 ≤ length octets → ((i : ℕ) → get_or octets i 0 < 256) → o1 ≡ old ++ encode_lower (get_or octets 0 0 ∷ get_or octets 1 0 ∷ []) → o2 ≡ o1 ++ 58 ∷ []
    → o3 ≡ o2 ++ encode_lower (get_or octets 2 0 ∷ get_or octets 3 0 ∷ []) → o4 ≡ o3 ++ 58 ∷ [] → o5 ≡ o4 ++ encode_lower (get_or octets 4 0 ∷ get_or octets 5 0 ∷ []) → o6 ≡ o5 ++ 58 ∷ []
    → new ≡ o6 ++ encode_lower (get_or octets 6 0 ∷ get_or octets 7 0 ∷ []) → PrintsFront PrintsNodeId StatesNodeId octets (take (length octets - 8) (drop 8 octets)) old new
node_printed (a ∷ b ∷ c ∷ d ∷ e ∷ f ∷ g ∷ h ∷ rest) old o1 o2 o3 o4 o5 o6 new long each e1 e2 e3 e4 e5 e6 e7 =
    let count : length (a ∷ b ∷ c ∷ d ∷ e ∷ f ∷ g ∷ h ∷ rest) - 8 ≡ length rest = omega arith in
    let left : take (length (a ∷ b ∷ c ∷ d ∷ e ∷ f ∷ g ∷ h ∷ rest) - 8) rest ≡ rest = ap (λ n. take n rest) count ∙ take-length rest in
    node_front a b c d e f g h _ _ old new each (ap (λ r. a ∷ b ∷ c ∷ d ∷ e ∷ f ∷ g ∷ h ∷ r) (sym left)) (node_appended a b c d e f g h old o1 o2 o3 o4 o5 o6 new e1 e2 e3 e4 e5 e6 e7)
node_printed octets old o1 o2 o3 o4 o5 o6 new long each e1 e2 e3 e4 e5 e6 e7 = absurd (omega (arith, long))

pub no_node : (octets : List ℕ) → length octets < 8 → NoFront StatesNodeId octets
no_node octets short = front_short StatesNodeId 8 octets (λ text octets is. is.four) short
