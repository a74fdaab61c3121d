-- A front of a text that a writer has taken.
use Rattle.zone_print.proofs.Common.{common_steps, ◌≡◌, ◌≢◌, ℕ, List, [], ◌∷◌, ◌++◌, refl, sym, append_assoc, take, drop, take-append-drop, Option, arith, Appends-trans, AppendsPart}
use Rattle.std.specs.Io.KnownBytes.{Appends}

-- the writer took the text but for this rest
pub record Left (old new : Option (List ℕ)) (text rest : List ℕ) : Type 0 where
  pub front : List ℕ
  pub split : text ≡ front ++ rest
  pub taken : Appends old new front

-- a part of the rest is taken
pub left_less : (old mid new : Option (List ℕ)) (text rest part others : List ℕ) → Left old mid text rest → rest ≡ part ++ others → Appends mid new part → Left old new text others
left_less old mid new text rest part others left e taken = grind (arith, append_assoc, Appends-trans)

-- the first n octets of the rest are taken
pub left_after : (old mid new : Option (List ℕ)) (text rest : List ℕ) (n : ℕ) → Left old mid text rest → Appends mid new (take n rest) → Left old new text (drop n rest)
left_after old mid new text rest n left taken = left_less old mid new text rest (take n rest) (drop n rest) left (sym (take-append-drop n rest)) taken

-- octets before or after others are some
pub some_more : (rest more : List ℕ) → rest ≢ [] → rest ++ more ≢ []
some_more [] more some e = some refl
some_more (c ∷ rest) more some e = cc

pub some_after : (front rest : List ℕ) → rest ≢ [] → front ++ rest ≢ []
some_after [] rest some e = some e
some_after (c ∷ front) rest some e = cc

-- nothing of the rest is taken
pub part_left : (old new : Option (List ℕ)) (text rest : List ℕ) → Left old new text rest → rest ≢ [] → AppendsPart old new text
part_left old new text rest left some = (left.front, rest, some, left.split, left.taken)

-- a part of a front of the rest is taken
pub part_more : (old mid new : Option (List ℕ)) (text rest front others : List ℕ) → Left old mid text rest → rest ≡ front ++ others → AppendsPart mid new front → AppendsPart old new text
part_more old mid new text rest front others left e (part, back, some, split, taken) = grind (arith, some_more, append_assoc, Appends-trans)

-- all of the rest is taken
pub left_none : (old mid new : Option (List ℕ)) (text rest part : List ℕ) → Left old mid text rest → rest ≡ part ++ [] → Appends mid new part → Appends old new text
left_none old mid new text rest part left e taken = grind (arith, common_steps)
