-- Equality, order and containment of names, as the code decides them.
use Rattle.zone_name.proofs.Common.{Bool, Equal, IsTrue, IsWithin, List, MatchOption, None, Option, Some, [], ap, arith, bytes_decides, drop, drop-drop, drop_at, label_cmp, labels_of, length, length-append, length-reverse, length-take, name_cmp, nat_cmp, nat_eq, ordering_then, pointwise, pointwise_decides, reverse, reverse-append, reverse-reverse, rules, slice_cmp, sym, take, take-append-drop, true, wire, ℕ, ◌++◌, ◌+◌, ◌-◌, ◌↔◌, ◌∙◌, ◌∷◌, ◌≡◌, ◌≤◌}
use Rattle.std.proofs.Common.{length-drop}
use Rattle.std.specs.declared.cmp.Ordering.{Ordering}
use Rattle.std.specs.Bool.{Decides}
use Rattle.std.proofs.lemmas.Cmp.{lists_total, nat_list_cmp_total, on_total, tied_itself}

-- the test on labels from the right decides equality
labels_decide : (a b : List (List ℕ)) → Decides (pointwise (pointwise nat_eq) (reverse a) (reverse b)) (a ≡ b)
labels_decide a b =
    let same = pointwise_decides bytes_decides (reverse a) (reverse b) in
    (λ e. cc (reverse-reverse a, same.0 e, reverse-reverse b), λ e. same.1 (ap reverse e))

-- what `==` of octets answers is what `==` of labels answers
pub eq_from_octets : (a b : List (List ℕ)) (octets others : List ℕ) (answer : Bool) → answer ≡ pointwise nat_eq octets others → octets ≡ wire a → others ≡ wire b → labels_of (wire a) ≡ a → labels_of (wire b) ≡ b → answer ≡ pointwise (pointwise nat_eq) (reverse a) (reverse b)
eq_from_octets a b octets others answer e left right back_a back_b = search (rules, labels_decide)

-- equal names compare so
pub name_cmp_same : (a b : List (List ℕ)) (answer : Bool) → answer ≡ pointwise (pointwise nat_eq) (reverse a) (reverse b) → answer ≡ true → Equal ≡ name_cmp a b
name_cmp_same a b answer is same = grind (arith, labels_decide, tied_itself, on_total, ℕ, lists_total, nat_list_cmp_total)

-- the first that decides, of three
pub then_assoc : (a b c : Ordering) → ordering_then (ordering_then a b) c ≡ ordering_then a (ordering_then b c)
then_assoc a b c = grind arith

pub then_equal : (a : Ordering) → ordering_then a Equal ≡ a
then_equal a = grind arith

-- fronts that are as long decide first
slice_cmp-append : {K : Type 0} (R : K → K → Ordering) (xs ys us vs : List K) → length xs ≡ length ys → slice_cmp R (xs ++ us) (ys ++ vs) ≡ ordering_then (slice_cmp R xs ys) (slice_cmp R us vs)
slice_cmp-append R [] ys us vs e = grind arith
slice_cmp-append R (x ∷ xs) [] us vs e = absurd (omega arith)
slice_cmp-append R (x ∷ xs) (y ∷ ys) us vs e = grind (arith, slice_cmp-append R xs ys us vs (omega arith))

-- names compared by their ends first, and then by what is before them
name_cmp-append : (us vs xs ys : List (List ℕ)) → length xs ≡ length ys → name_cmp (us ++ xs) (vs ++ ys) ≡ ordering_then (name_cmp xs ys) (slice_cmp label_cmp (reverse us) (reverse vs))
name_cmp-append us vs xs ys e = grind (arith, reverse-append, slice_cmp-append, length-reverse)

-- one step of the comparison from the left: what is right of it decides first
pub name_cmp-more : (xs ys xs' ys' : List (List ℕ)) (x y : List ℕ) (order found order' whole : Ordering) → xs ≡ x ∷ xs' → ys ≡ y ∷ ys' → length xs ≡ length ys → found ≡ label_cmp x y → order' ≡ ordering_then found order → ordering_then (name_cmp xs ys) order ≡ whole → (length xs' ≡ length ys') × (ordering_then (name_cmp xs' ys') order' ≡ whole)
name_cmp-more xs ys xs' ys' x y order found order' whole left right long is next so_far =
    grind (arith, name_cmp-append (x ∷ []) (y ∷ []) xs' ys', then_equal (label_cmp x y), then_assoc (name_cmp xs' ys') found order)

-- where one list at most has any, the longer comes last
lengths_decide : (us vs : List (List ℕ)) (m n : ℕ) → length us ≡ m - n → length vs ≡ n - m → slice_cmp label_cmp us vs ≡ nat_cmp m n
lengths_decide [] vs m n e f = grind arith
lengths_decide (u ∷ us) vs m n e f = grind arith

-- before the first step: the labels that the longer name has before the other's are cut off
pub name_cmp-start : (a b xs ys : List (List ℕ)) (m n : ℕ) (order : Ordering) → m ≡ length a → n ≡ length b → xs ≡ drop (m - n) a → ys ≡ drop (n - m) b → order ≡ nat_cmp m n → (length xs ≡ length ys) × (ordering_then (name_cmp xs ys) order ≡ name_cmp a b)
name_cmp-start a b xs ys m n order long_a long_b left right is =
    let same : length xs ≡ length ys = omega (arith, ap length left, ap length right, length-drop (m - n) a, length-drop (n - m) b) in
    grind (arith, length-drop, lengths_decide, length-reverse, length-take, take-append-drop (m - n) a, take-append-drop (n - m) b, name_cmp-append)

-- a name lies within another where its last labels are that name's
pub within_decided : (a b rest : List (List ℕ)) (m n : ℕ) (answer : Bool) → m ≡ length a → n ≡ length b → n ≤ m → rest ≡ drop (m - n) a → (IsTrue answer ↔ (rest ≡ b)) → (IsTrue answer ↔ IsWithin a b)
within_decided a b rest m n answer long_a long_b fits is says = (
  λ h. (take (m - n) a, sym (cc (says.0 h, take-append-drop (m - n) a))),
  λ w. says.1 (cc (drop_at w.0 b (m - n) (omega (arith, ap length w.1, length-append w.0 b)))),
)

-- one label further
pub drop_next : {A : Type 0} (r : Option A) (now : A → List ℕ) (left next whole : List (List ℕ)) (k : ℕ) → MatchOption r ((left ≡ []) × (next ≡ [])) (λ x. left ≡ now x ∷ next) → left ≡ drop k whole → next ≡ drop (k + 1) whole
drop_next None now left next whole k says is = cc (drop-drop 1 k whole)
drop_next (Some x) now left next whole k says is = ap (drop 1) (sym says ∙ is) ∙ drop-drop 1 k whole
