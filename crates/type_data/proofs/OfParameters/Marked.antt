-- Texts with commas between, after a mark; and octets that begin alike.
use Rattle.type_data.proofs.Common.{List, [], ap, append-nil, append_assoc, arith, join_with_byte, length, map, map_push, refl, sym, ℕ, ◌++◌, ◌∙◌, ◌∷◌, ◌≡◌}
use Rattle.type_data.specs.Parameters.Machine.Printed.{marked}

abbrev pub next_mark : List ℕ → List (List ℕ) → List ℕ
next_mark mark [] = mark
next_mark mark (text ∷ texts) = 44 ∷ []

join_more : (first : List ℕ) (texts : List (List ℕ)) (text : List ℕ) → join_with_byte 44 ((first ∷ texts) ++ text ∷ []) ≡ join_with_byte 44 (first ∷ texts) ++ 44 ∷ text
join_more first [] text = refl
join_more first (second ∷ texts) text = ap (λ t. first ++ 44 ∷ t) (join_more second texts text) ∙ sym (append_assoc first (44 ∷ join_with_byte 44 (second ∷ texts)) (44 ∷ text))

marked_more : (mark : List ℕ) (texts : List (List ℕ)) (text : List ℕ) → marked mark (texts ++ text ∷ []) ≡ marked mark texts ++ (next_mark mark texts ++ text)
marked_more mark [] text = refl
marked_more mark (first ∷ texts) text = ap (λ t. mark ++ t) (join_more first texts text) ∙ sym (append_assoc mark (join_with_byte 44 (first ∷ texts)) (44 ∷ text))

mark_after : (mark : List ℕ) (texts : List (List ℕ)) (text : List ℕ) → 44 ∷ [] ≡ next_mark mark (texts ++ text ∷ [])
mark_after mark [] text = refl
mark_after mark (first ∷ texts) text = refl

-- the texts of these are appended, and the next mark
pub record AreMarked {X : Type 0} (text_of : X → List ℕ) (first : List ℕ) (done : List X) (mark old new : List ℕ) : Type 0 where
  pub mark_is : mark ≡ next_mark first (map text_of done)
  pub written : new ≡ old ++ marked first (map text_of done)

pub none_marked : {X : Type 0} (text_of : X → List ℕ) (first old : List ℕ) → AreMarked text_of first [] first old old
none_marked text_of first old = record { mark_is = refl; written = sym (append-nil old) }

pub more_marked : {X : Type 0} (text_of : X → List ℕ) (first : List ℕ) (done : List X) (x : X) (mark old mid new : List ℕ) → AreMarked text_of first done mark old mid → new ≡ (mid ++ mark) ++ text_of x → AreMarked text_of first (done ++ x ∷ []) (44 ∷ []) old new
more_marked text_of first done x mark old mid new are grown =
    let texts = map text_of done in
    record {
      mark_is = mark_after first texts (text_of x) ∙ ap (next_mark first) (sym (map_push text_of done x));
      written = grown ∙ append_assoc mid mark (text_of x) ∙ ap (λ t. t ++ (mark ++ text_of x)) are.written ∙ append_assoc old (marked first texts) (mark ++ text_of x)
          ∙ ap (λ m. old ++ (marked first texts ++ (m ++ text_of x))) are.mark_is ∙ ap (λ t. old ++ t) (sym (marked_more first texts (text_of x)) ∙ ap (marked first) (sym (map_push text_of done x)));
    }

-- ---- octets that begin alike

pub record SameParts (a b x y : List ℕ) : Type 0 where
  pub front : a ≡ b
  pub back : x ≡ y

pub same_parts : (a b x y : List ℕ) → length a ≡ length b → a ++ x ≡ b ++ y → SameParts a b x y
same_parts [] [] x y len e = record { front = refl; back = e }
same_parts [] (d ∷ b) x y len e = absurd (omega (arith, len))
same_parts (c ∷ a) [] x y len e = absurd (omega (arith, len))
same_parts (c ∷ a) (d ∷ b) x y len e =
    let more = same_parts a b x y (omega (arith, len)) cc in
    record { front = (let f = more.front in cc); back = more.back }
