-- There is one rewriting.
use Rattle.zone_words.proofs.Common.{BecomesUnder, EachBecomes, Entry, IsRewriting, Labels, List, Outcome, Refused, Token, [], and_last, ap, append_cancel_left, arith, broken, common_steps, count_by, cut_from, cut_not_broken, entry_of, flat_map, one_break, one_cut, refl, subst, sym, text, told_of, written_of, zero, ℕ, ◌++◌, ◌+◌, ◌==◌, ◌∙◌, ◌∷◌, ◌≡◌}
use Rattle.zone_words.proofs.BecomesOnce.{becomes_once}
use Rattle.zone_words.specs.Rewriting.{whole}

pub record SameRewriting (new other : List ℕ) (told others : List Refused) : Type 0 where
  pub written : new ≡ other
  pub told_same : told ≡ others

module _ (origin : Labels) where
  each_once : (before : List Entry) (line : ℕ) (entries : List (List Token)) (a b : List Outcome) → EachBecomes (BecomesUnder origin) before line entries a → EachBecomes (BecomesUnder origin) before line entries b → a ≡ b
  each_once before line [] [] [] p q = refl
  each_once before line [] (x ∷ a) b p q = absurd p
  each_once before line [] [] (y ∷ b) p q = absurd q
  each_once before line (entry ∷ entries) [] b p q = absurd p
  each_once before line (entry ∷ entries) (x ∷ a) [] p q = absurd q
  each_once before line (entry ∷ entries) (x ∷ a) (y ∷ b) p q =
      ap (λ t. t ∷ a) (becomes_once origin before line entry x y p.0 q.0)
      ∙ ap (λ t. y ∷ t) (each_once (entry_of line entry ∷ before) (line + count_by (λ c. c == 10) (text entry)) entries a b p.1 q.1)

  left_same : (a b rest other : List ℕ) → a ≡ b → a ++ rest ≡ b ++ other → rest ≡ other
  left_same a b rest other same e = grind (arith, common_steps, append_cancel_left)

  pub one_rewriting : (octets new other : List ℕ) (told others : List Refused) → IsRewriting origin octets new told → IsRewriting origin octets other others → SameRewriting new other told others
  one_rewriting octets new other told others (whole t a cut are out tells) (whole t' a' cut' are' out' tells') =
      let same = one_cut octets t t' cut cut' in
      let all = each_once [] 1 _ a a' (subst (λ s. EachBecomes (BecomesUnder origin) [] 1 (and_last (cut_from zero s).ended (cut_from zero s).open_tokens) a) same are) are' in
      record { written = out ∙ ap written_of all ∙ sym out'; told_same = tells ∙ ap told_of all ∙ sym tells' }
  one_rewriting octets new other told others (whole t a cut are out tells) (broken t' fault a' rest breaks are' parts out' tells') = absurd (cut_not_broken octets t t' fault cut breaks)
  one_rewriting octets new other told others (broken t' fault a' rest breaks are' parts out' tells') (whole t a cut are out tells) = absurd (cut_not_broken octets t t' fault cut breaks)
  one_rewriting octets new other told others (broken t f a r breaks are parts out tells) (broken t' f' a' r' breaks' are' parts' out' tells') =
      let same = (one_break octets t t' f f' breaks breaks').0 in
      let all = each_once [] 1 _ a a' (subst (λ s. EachBecomes (BecomesUnder origin) [] 1 (cut_from zero s).ended a) same are) are' in
      let rests : r ≡ r' = left_same _ _ r r' (ap (λ s. flat_map text (cut_from zero s).ended) same) (sym parts ∙ parts') in
      record {
        written = out ∙ ap (λ t. written_of t ++ r) all ∙ ap (λ t. written_of a' ++ t) rests ∙ sym out';
        told_same = tells ∙ ap told_of all ∙ sym tells';
      }
