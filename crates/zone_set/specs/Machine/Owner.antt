-- The first label of an owner, as its octets begin with it.
use Rattle.std.specs.Prelude.{◌≡◌, ℕ, ◌<◌, List, ◌∷◌, ◌++◌, take, drop}
use Rattle.zone_name.specs.Name.{labels_of, wire}

-- octets begin with a label after its length, and these follow it
pub record IsFirst (octets label rest : List ℕ) : Type 0 where
  pub len : ℕ
  pub after : List ℕ
  pub is : octets ≡ len ∷ after
  pub some : 0 < len
  pub first : label ≡ take len after
  pub follows : rest ≡ drop len after

-- so do both, and the same octets follow the labels
pub record AreFirst (a b label other : List ℕ) : Type 0 where
  pub rest : List ℕ
  pub first : IsFirst a label rest
  pub second : IsFirst b other rest

-- a label of a name, and the octets of those that follow it
pub record IsLabelBefore (name label rest : List ℕ) : Type 0 where
  pub front : List (List ℕ)
  pub parts : labels_of name ≡ front ++ label ∷ labels_of rest

-- the octets of the labels that end a name
pub record IsEndOf (name : List (List ℕ)) (octets : List ℕ) : Type 0 where
  pub front : List (List ℕ)
  pub last : List (List ℕ)
  pub parts : name ≡ front ++ last
  pub is : octets ≡ wire last

-- octets after those of the first labels of a name
pub record IsAfterLabels (name rest : List ℕ) : Type 0 where
  pub front : List (List ℕ)
  pub parts : labels_of name ≡ front ++ labels_of rest
