-- Texts that are cut at an octet.
use Rattle.std.specs.Prelude.{◌≡◌, ◌≢◌, ℕ, List, ◌∷◌, ◌++◌}
use Rattle.std.specs.List.{AllByRecursion}

-- the octet isn't in the text
abbrev pub IsMissing : ℕ → List ℕ → Type 0
IsMissing c text = AllByRecursion (λ d. d ≢ c) text

-- cut at the first such octet
pub record IsCutFirst (c : ℕ) (text front back : List ℕ) : Type 0 where
  pub parts : text ≡ front ++ c ∷ back
  pub missing : IsMissing c front

-- cut at the last such octet
pub record IsCutLast (c : ℕ) (text front back : List ℕ) : Type 0 where
  pub parts : text ≡ front ++ c ∷ back
  pub missing : IsMissing c back
