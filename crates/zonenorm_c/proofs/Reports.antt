-- A file that is looked for in a table.
use Rattle.std.proofs.Common.{◌≡◌, ◌∙◌, ◌++◌, ◌+◌, ◌<◌, ◌≤◌, ℕ, List, [], ◌∷◌, false, ap, bytes_eq, drop, length, map, refl, Bor}
use Rattle.std.proofs.Math.ListN.{get_or}
use Rattle.std.proofs.lemmas.List.{drop_all, drop_more}
use Rattle.std.specs.Prelude.{None}
use Rattle.zonenorm_c.specs.Files.{file_in}

none_without : (names : List (List ℕ)) (name : List ℕ) → file_in names [] name ≡ None
none_without [] name = refl
none_without (first ∷ names) name = refl

module _ (names files : List (Bor (List ℕ))) (i : ℕ) (name : List ℕ) where
  -- it isn't the first of those that are left
  pub passes : (d : Bor (List ℕ)) → i < length names → i < length files → bytes_eq (get_or names i d).now name ≡ false
      → file_in (map (λ n. n.now) (drop i names)) (map (λ f. f.now) (drop i files)) name
      ≡ file_in (map (λ n. n.now) (drop (i + 1) names)) (map (λ f. f.now) (drop (i + 1) files)) name
  passes d p q other = rw (drop_more names i d p, drop_more files i d q, other) refl

  -- none is left
  pub no_name : length names ≤ i → file_in (map (λ n. n.now) (drop i names)) (map (λ f. f.now) (drop i files)) name ≡ None
  no_name p = rw (drop_all i names p) refl

  pub no_file : length files ≤ i → file_in (map (λ n. n.now) (drop i names)) (map (λ f. f.now) (drop i files)) name ≡ None
  no_file p = rw (drop_all i files p) (none_without (map (λ (n : Bor (List ℕ)). n.now) (drop i names)) name)

-- what was written to a writer that was given nothing
pub from_nothing : (before after line : List ℕ) → before ≡ [] → after ≡ before ++ line → after ≡ line
from_nothing before after line none is = is ∙ ap (λ (t : List ℕ). t ++ line) none
