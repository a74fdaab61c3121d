-- Bare items whose texts are joined, item after item.
use Rattle.type_data.proofs.Common.{AllByRecursion, List, NothingStated, RawItem, WordsFault, [], arith, flat_map, item_text, length, sym, ℕ, ◌++◌, ◌<◌, ◌∙◌, ◌∷◌, ◌≡◌}
use Rattle.type_data.specs.Kinds.Joined.{FailsAs, IsBare, Joined, StatesJoined}

-- the text is that of the items before the rest, which are bare
pub record HaveJoined (items rest : List RawItem) (text : List ℕ) : Type 0 where
  pub parts : flat_map item_text items ≡ text ++ flat_map item_text rest
  pub back : AllByRecursion IsBare rest → AllByRecursion IsBare items
  pub front : AllByRecursion IsBare items → AllByRecursion IsBare rest

pub one_text : (items : List RawItem) (a b : List ℕ) → Joined items a → Joined items b → a ≡ b
one_text items a b x y = x.joins ∙ sym y.joins

-- where a text stands for at most one list of octets, so do items that join to it
pub joined_once : (StandsFor : List ℕ → List ℕ → Type 0) → ((text a b : List ℕ) → StandsFor text a → StandsFor text b → a ≡ b) → (items : List RawItem) (a b : List ℕ) → StatesJoined StandsFor items a → StatesJoined StandsFor items b → a ≡ b
joined_once StandsFor once items a b x y =
    once y.text a b (rw (one_text items x.text y.text x.joined y.joined) at x.stands) y.stands

-- likewise for items that join to no text
pub many_fail : (own : WordsFault) (items : List RawItem) (fault : WordsFault) → 0 < length items → NothingStated own (Joined items) fault → FailsAs own Joined items fault
many_fail own [] fault some none = absurd (omega arith)
many_fail own (item ∷ items) fault some none = none
