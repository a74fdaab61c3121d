-- A text is cut at an octet, or lacks it.
use Rattle.std.proofs.lemmas.Bool.{cases_eq}
use Rattle.type_data.proofs.Common.{IsCutFirst, IsMissing, List, [], ap, inl, inr, ℕ, ◌∷◌, ◌≢◌, ◌⊎◌}

abbrev pub CutOrMissing : ℕ → List ℕ → Type 0
CutOrMissing c text = ((front : List ℕ) × ((back : List ℕ) × IsCutFirst c text front back)) ⊎ IsMissing c text

cut_more : (c d : ℕ) (text : List ℕ) → d ≢ c → CutOrMissing c text → CutOrMissing c (d ∷ text)
cut_more c d text other (inl (front, (back, cut))) =
    inl (d ∷ front, (back, record { parts = ap (λ (l : List ℕ). d ∷ l) cut.parts; missing = (other, cut.missing) }))
cut_more c d text other (inr missing) = inr (other, missing)

pub cut_or_missing : (c : ℕ) (text : List ℕ) → CutOrMissing c text
cut_or_missing c [] = inr tt
cut_or_missing c (d ∷ text) = elim (cases_eq d c) [
  | inl same ↦ inl ([], (text, record { parts = ap (λ (x : ℕ). x ∷ text) same; missing = tt }))
  | inr other ↦ cut_more c d text other (cut_or_missing c text)
]
