-- Octets that are compared eight at a time.
use Rattle.std.proofs.Common.{bytes_eq, length-append}
use Rattle.std.proofs.lemmas.List.{append_cancel_left, drop-drop}
use Rattle.zone_set.proofs.Common.{Bool, IsTrue, List, bytes_eq-Decides, false, true, ap, append_assoc, arith, drop, drop_at, length, refl, sym, take, take-append-drop, ℕ, ◌++◌, ◌+◌, ◌-◌, ◌∙◌, ◌≡◌, ◌≢◌, ◌≤◌, ◌⊎◌}
use Rattle.zone_set.specs.Machine.Octets.{AreSameButForFew}

-- the same octets stand before what is left
abbrev pub ArePassed : List ℕ → List ℕ → List ℕ → List ℕ → Type 0
ArePassed a b left right = (front : List ℕ) × (a ≡ front ++ left) × (b ≡ front ++ right)

-- the first eight octets, and what follows them
abbrev pub IsCutAtEight : List ℕ → List ℕ → List ℕ → Type 0
IsCutAtEight left x more = (x ≡ take 8 left) × (more ≡ drop 8 left) × (length more + 8 ≡ length left)

pub eights_passed : (a b left right x more y others : List ℕ) → ArePassed a b left right → IsCutAtEight left x more → IsCutAtEight right y others → x ≡ y → ArePassed a b more others
eights_passed a b left right x more y others passed cut cut' same =
    (passed.0 ++ x, grind (arith, append_assoc, take-append-drop 8 left), grind (arith, append_assoc, take-append-drop 8 right))

-- octets that differ after the same
pub eights_apart : (a b left right x more y others : List ℕ) → ArePassed a b left right → IsCutAtEight left x more → IsCutAtEight right y others → x ≢ y → a ≢ b
eights_apart a b left right x more y others passed cut cut' apart same = grind (arith, append_cancel_left passed.0 left right)

-- of octets as many the last eight have those that follow the same ones
pub few_follow : (a b : List ℕ) (n : ℕ) → length a ≡ n → length b ≡ n → 8 ≤ n → AreSameButForFew a b → drop (n - 8) a ≡ drop (n - 8) b → a ≡ b
few_follow a b n len len' many few last =
    let far : n - 8 ≤ length few.front = omega (arith, ap length few.first, ap length few.second, length-append few.front few.left, length-append few.front few.right, few.few) in
    grind (arith, drop_at few.front few.left, drop_at few.front few.right, drop-drop (length few.front - (n - 8)) (n - 8) a, drop-drop (length few.front - (n - 8)) (n - 8) b)

pub same_by_eights : (a b : List ℕ) (told : Bool) → (IsTrue told → AreSameButForFew a b) → IsTrue told ⊎ (a ≢ b) → length a ≡ length b → 8 ≤ length a → drop (length a - 8) a ≡ drop (length b - 8) b → told ≡ bytes_eq a b
same_by_eights a b true few other len some last = sym ((bytes_eq-Decides a b).1 (few_follow a b (length a) refl (sym len) some (few refl) (last ∙ ap (λ n. drop (n - 8) b) (sym len))))
same_by_eights a b false few other len some last = grind (arith, bytes_eq-Decides a b)
