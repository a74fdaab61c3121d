-- The mark of the generic form, which no item that is printed is (RFC 3597 5).
use Rattle.type_data.proofs.Common.{IsDecimal, List, RawItem, [], ap, arith, false≢true, generic_mark, length, length-append, ℕ, ◌++◌, ◌∷◌, ◌≡◌, ◌≢◌}
use Rattle.zone_rdata.specs.Item.{bare}
use Rattle.type_data.specs.Kinds.Prefixes.{mark}

-- the text of the mark
abbrev pub marked : List ℕ
marked = 92 ∷ 35 ∷ []

-- no other octet stands in it
pub no_other : (c : ℕ) (front back : List ℕ) → c ≢ 92 → c ≢ 35 → marked ≡ front ++ c ∷ back → ⊥
no_other c [] back a b e = a (let t : c ≡ 92 = cc in t)
no_other c (x ∷ []) back a b e = b (let t : c ≡ 35 = cc in t)
no_other c (x ∷ y ∷ front) back a b e = omega (arith, ap length e, length-append front (c ∷ back))

pub no_digits : (n : ℕ) → IsDecimal marked n → ⊥
no_digits n is = false≢true is.digits.0

pub text_marked : (text : List ℕ) (items rest : List RawItem) → bare text ∷ items ≡ generic_mark ∷ rest → text ≡ marked
text_marked text items rest e = cc
