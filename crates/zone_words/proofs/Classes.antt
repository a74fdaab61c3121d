-- The word of class IN.
use Rattle.zone_words.proofs.Common.{IsClassWord, IsTrue, List, arith, class_word_once, in_class, refl, subst, sym, ℕ, ◌==◌, ◌↔◌, ◌∙◌, ◌≡◌}

pub is_in : (word : List ℕ) (class number : ℕ) → IsClassWord word class → number ≡ class → IsTrue (number == 1) ↔ IsClassWord word in_class
is_in word class number is same = (
  λ one. subst (IsClassWord word) (sym same ∙ equal_numbers number 1 one) is,
  λ one. let n : number ≡ 1 = same ∙ class_word_once word class in_class is one in rw n refl,
)
  where
    equal_numbers : (a b : ℕ) → IsTrue (a == b) → a ≡ b
    equal_numbers a b e = grind arith
