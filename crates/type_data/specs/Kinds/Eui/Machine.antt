-- How the code takes a text of pairs apart.
use Rattle.std.specs.Prelude.{◌≡◌, ℕ, List, [], ◌∷◌, ◌++◌, length}
use Rattle.type_data.specs.Kinds.Eui.{IsPair}

-- the text begins with the octet's pair and a hyphen, and the rest stands after them
pub record IsCutPair (text : List ℕ) (octet : ℕ) (rest : List ℕ) : Type 0 where
  pub pair : List ℕ
  pub is : IsPair pair octet
  pub parted : text ≡ pair ++ 45 ∷ rest

abbrev pub BeginsWithPair : List ℕ → Type 0
BeginsWithPair text = (octet : ℕ) × (rest : List ℕ) × IsCutPair text octet rest

-- the text begins with two characters and a hyphen, and the rest stands after them
pub record IsCutAtHyphen (text pair rest : List ℕ) : Type 0 where
  pub two : length pair ≡ 2
  pub parted : text ≡ pair ++ 45 ∷ rest

-- the octet of two digits comes after those that are there
pub record AppendsPair (text old new : List ℕ) : Type 0 where
  pub octet : ℕ
  pub is : IsPair text octet
  pub written : new ≡ old ++ octet ∷ []
