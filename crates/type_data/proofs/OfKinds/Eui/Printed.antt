-- Identifiers of hardware as they are printed.
use Rattle.type_data.proofs.Common.{List, [], ap, append_assoc, encode_lower, get_or, length, refl, sym, take, take_more, ℕ, ◌++◌, ◌+◌, ◌-◌, ◌<◌, ◌∙◌, ◌∷◌, ◌≡◌}
use Rattle.type_data.proofs.OfKinds.Address.Printed.{part_octets}
use Rattle.type_data.proofs.Printed.Fronts.{front_printed, front_short}
use Rattle.type_data.specs.Kinds.Eui.{PrintsEui, StatesEui, eui_text}
use Rattle.type_data.specs.Printed.{NoFront, PrintsFront}

-- a further pair
pub pair_more : (c : ℕ) (octets : List ℕ) (n : ℕ) → eui_text (c ∷ (octets ++ n ∷ [])) ≡ eui_text (c ∷ octets) ++ (45 ∷ encode_lower (n ∷ []))
pair_more c [] n = refl
pair_more c (d ∷ octets) n = ap (λ t. encode_lower (c ∷ []) ++ 45 ∷ t) (pair_more d octets n) ∙ sym (append_assoc (encode_lower (c ∷ [])) (45 ∷ eui_text (d ∷ octets)) (45 ∷ encode_lower (n ∷ [])))

-- a further pair is appended
pub eui_step : (old out mid new : List ℕ) (first : ℕ) (rest : List ℕ) (i n : ℕ) → out ≡ old ++ eui_text (first ∷ take i rest) → mid ≡ out ++ 45 ∷ [] → new ≡ mid ++ encode_lower (n ∷ []) → n ≡ get_or rest i 0 → i < length rest → new ≡ old ++ eui_text (first ∷ take (i + 1) rest)
eui_step old out mid new first rest i n so_far hyphen pair at less =
    let longer : take (i + 1) rest ≡ take i rest ++ n ∷ [] = take_more rest i 0 less ∙ ap (λ d. take i rest ++ d ∷ []) (sym at) in
    let text : eui_text (first ∷ take (i + 1) rest) ≡ eui_text (first ∷ take i rest) ++ (45 ∷ encode_lower (n ∷ [])) = ap (λ t. eui_text (first ∷ t)) longer ∙ pair_more first (take i rest) n in
    let joined : new ≡ out ++ (45 ∷ encode_lower (n ∷ [])) = pair ∙ ap (λ t. t ++ encode_lower (n ∷ [])) hyphen ∙ append_assoc out (45 ∷ []) (encode_lower (n ∷ [])) in
    joined ∙ ap (λ t. t ++ (45 ∷ encode_lower (n ∷ []))) so_far ∙ append_assoc old (eui_text (first ∷ take i rest)) (45 ∷ encode_lower (n ∷ [])) ∙ ap (λ t. old ++ t) (sym text)

pub eui_front : (count : ℕ) (octets rest old new part : List ℕ) → ((i : ℕ) → get_or octets i 0 < 256) → octets ≡ part ++ rest → length part ≡ count → new ≡ old ++ eui_text part → PrintsFront (PrintsEui count) (StatesEui count) octets rest old new
eui_front count octets rest old new part each whole counted appended =
    front_printed (PrintsEui count) (StatesEui count) count octets rest old new part (eui_text part) (λ text octets is. is.counted) whole counted
    (record { counted = counted; each = part_octets octets part rest each whole; printed = refl }) appended

pub no_eui : (count : ℕ) (octets : List ℕ) → length octets < count → NoFront (StatesEui count) octets
no_eui count octets short = front_short (StatesEui count) count octets (λ text octets is. is.counted) short
