-- A set of types has one bitmap.
use Rattle.type_data.proofs.Common.{AllByRecursion, AreOctets, AscendFrom, HasBit, HaveType, IsWindow, List, Window, [], ap₂, arith, bit_at, cases_lt, get_or, get_or_default, get_or_past, inl, inr, length, pow-suc, refl, subst, suc, sym, zero, ℕ, ◌%◌, ◌*◌, ◌+◌, ◌-◌, ◌/◌, ◌<◌, ◌^◌, ◌∙◌, ◌∷◌, ◌≡◌, ◌≢◌, ◌≤◌}
use Rattle.std.proofs.lemmas.List.{same_lists}
use Rattle.std.proofs.lemmas.Nat.Bits.{bit_at-lt, bit_at-suc, bit_at_lowest, same_from_bits_below}

-- a number that isn't 0 has a bit
some_bit : (w c : ℕ) → c < 2 ^ w → c ≢ 0 → (i : ℕ) × ((i < w) × (bit_at c i ≡ 1))
some_bit zero c below other = absurd (other (omega arith))
some_bit (suc w) c below other =
    elim (cases_lt (c % 2) 1) [
      | inl even ↦
          let half : c / 2 < 2 ^ w = omega (arith, pow-suc 2 w) in
          let more = some_bit w (c / 2) half (λ none. other (omega arith)) in
          (suc more.0, (omega (arith, more.1.0), bit_at-suc c more.0 ∙ more.1.1))
      | inr odd ↦ (0, (omega arith, bit_at_lowest c ∙ omega arith))
    ]

octet_below : (octets : List ℕ) (k : ℕ) → AreOctets octets → get_or octets k 0 < 256
octet_below [] k each = omega (arith, get_or_past {X = ℕ} [] k 0)
octet_below (c ∷ octets) zero each = each.0
octet_below (c ∷ octets) (suc k) each = octet_below octets k each.1

-- a window has a type
pub window_type : (w : Window) → IsWindow w → (k : ℕ) × ((k < 256) × HasBit w.bits k)
window_type w is =
    let at = length w.bits - 1 in
    let bit = some_bit 8 (get_or w.bits at 0) (octet_below w.bits at is.octets) is.last in
    let k : ℕ = at * 8 + (7 - bit.0) in
    let octet : k / 8 ≡ at = omega (arith, bit.1.0) in
    let place : 7 - k % 8 ≡ bit.0 = omega (arith, bit.1.0) in
    (k, (omega (arith, is.few, is.some, bit.1.0), ap₂ (λ (i j : ℕ). bit_at (get_or w.bits i 0) j) octet place ∙ bit.1.1))

-- the types of windows are no less than their numbers allow
no_less : (least : ℕ) (windows : List Window) (n : ℕ) → AscendFrom least windows → HaveType windows n → least ≤ n / 256
no_less least [] n up have = absurd have
no_less least (w ∷ windows) n up have =
    elim have [
      | inl here ↦ omega (arith, here.0, up.0)
      | inr rest ↦ omega (arith, no_less (w.number + 1) windows n up.1 rest, up.0)
    ]

-- the types of one list of windows are those of another
abbrev HaveThose : List Window → List Window → Type 0
HaveThose ws vs = (n : ℕ) → HaveType ws n → HaveType vs n

pub type_at : (w : Window) (ws : List Window) (k : ℕ) → k < 256 → HasBit w.bits k → HaveType (w ∷ ws) (w.number * 256 + k)
type_at w ws k below bit =
    let number : (w.number * 256 + k) / 256 ≡ w.number = omega arith in
    let rest : (w.number * 256 + k) % 256 ≡ k = omega arith in
    inl (number, subst (λ (n : ℕ). HasBit w.bits n) (sym rest) bit)

number_from : (w v : Window) (ws vs : List Window) → IsWindow w → AscendFrom (v.number + 1) vs → HaveThose (w ∷ ws) (v ∷ vs) → v.number ≤ w.number
number_from w v ws vs is up those =
    let has = window_type w is in
    elim (those (w.number * 256 + has.0) (type_at w ws has.0 has.1.0 has.1.1)) [
      | inl here ↦ omega (arith, has.1.0, here.0)
      | inr rest ↦ omega (arith, has.1.0, no_less (v.number + 1) vs (w.number * 256 + has.0) up rest)
    ]

bit_from : (w v : Window) (ws vs : List Window) (k : ℕ) → k < 256 → w.number ≡ v.number → AscendFrom (v.number + 1) vs → HaveThose (w ∷ ws) (v ∷ vs) → HasBit w.bits k → HasBit v.bits k
bit_from w v ws vs k below same up those bit =
    let rest : (w.number * 256 + k) % 256 ≡ k = omega arith in
    elim (those (w.number * 256 + k) (type_at w ws k below bit)) [
      | inl here ↦ subst (λ (n : ℕ). HasBit v.bits n) rest here.1
      | inr later ↦ absurd (omega (arith, no_less (v.number + 1) vs (w.number * 256 + k) up later))
    ]

rest_from : (w v : Window) (ws vs : List Window) → w.number ≡ v.number → AscendFrom (w.number + 1) ws → HaveThose (w ∷ ws) (v ∷ vs) → HaveThose ws vs
rest_from w v ws vs same up those n have =
    elim (those n (inr have)) [
      | inl here ↦ absurd (omega (arith, here.0, no_less (w.number + 1) ws n up have))
      | inr rest ↦ rest
    ]

-- bits that imply each other are equal
same_bit : (x y : ℕ) → x < 2 → y < 2 → (x ≡ 1 → y ≡ 1) → (y ≡ 1 → x ≡ 1) → x ≡ y
same_bit x y few less there back =
    elim (cases_lt x 1) [
      | inl none ↦ elim (cases_lt y 1) [
        | inl neither ↦ omega arith
        | inr one ↦ omega (arith, back (omega arith))
      ]
      | inr one ↦ omega (arith, there (omega arith))
    ]

same_octet : (a b : List ℕ) (j : ℕ) → j < 32 → AreOctets a → AreOctets b → ((k : ℕ) → k < 256 → HasBit a k → HasBit b k) → ((k : ℕ) → k < 256 → HasBit b k → HasBit a k) → get_or a j 0 ≡ get_or b j 0
same_octet a b j inside these those there back =
    same_from_bits_below 8 (get_or a j 0) (get_or b j 0) (octet_below a j these) (octet_below b j those) (λ i low.
    let k : ℕ = j * 8 + (7 - i) in
    let octet : k / 8 ≡ j = omega arith in
    let place : 7 - k % 8 ≡ i = omega arith in
    let below : k < 256 = omega arith in
    let here : (l : List ℕ) → bit_at (get_or l (k / 8) 0) (7 - k % 8) ≡ bit_at (get_or l j 0) i = λ (l : List ℕ). ap₂ (λ (m n : ℕ). bit_at (get_or l m 0) n) octet place in
    same_bit (bit_at (get_or a j 0) i) (bit_at (get_or b j 0) i) (bit_at-lt (get_or a j 0) i) (bit_at-lt (get_or b j 0) i)
    (λ one. sym (here b) ∙ there k below (here a ∙ one))
    (λ one. sym (here a) ∙ back k below (here b ∙ one)))

-- octets that agree below 32 and of which the last isn't 0 are no longer
no_longer : (a b : List ℕ) → length b ≤ 32 → 0 < length b → get_or b (length b - 1) 0 ≢ 0 → ((j : ℕ) → j < 32 → get_or a j 0 ≡ get_or b j 0) → length b ≤ length a
no_longer a b few some last same =
    elim (cases_lt (length a) (length b)) [
      | inl longer ↦ absurd (last (sym (same (length b - 1) (omega arith)) ∙ get_or_past a (length b - 1) 0 (omega arith)))
      | inr other ↦ other
    ]

window_once : (w v : Window) → IsWindow w → IsWindow v → w.number ≡ v.number → ((k : ℕ) → k < 256 → HasBit w.bits k → HasBit v.bits k) → ((k : ℕ) → k < 256 → HasBit v.bits k → HasBit w.bits k) → w ≡ v
window_once w v is too number there back =
    let same : (j : ℕ) → j < 32 → get_or w.bits j 0 ≡ get_or v.bits j 0 = λ (j : ℕ) inside. same_octet w.bits v.bits j inside is.octets too.octets there back in
    let count : length w.bits ≡ length v.bits = omega (arith, no_longer w.bits v.bits too.few too.some too.last same, no_longer v.bits w.bits is.few is.some is.last (λ j inside. sym (same j inside))) in
    let bits : w.bits ≡ v.bits = same_lists w.bits v.bits count (λ k d inside. get_or_default w.bits k d 0 inside ∙ same k (omega (arith, is.few)) ∙ get_or_default v.bits k 0 d (omega arith)) in
    ap₂ (λ (n : ℕ) (l : List ℕ). let x : Window = record { number = n; bits = l } in x) number bits

pub windows_once : (least : ℕ) (ws vs : List Window) → AllByRecursion IsWindow ws → AllByRecursion IsWindow vs → AscendFrom least ws → AscendFrom least vs → HaveThose ws vs → HaveThose vs ws → ws ≡ vs
windows_once least [] [] each all up above there back = refl
windows_once least [] (v ∷ vs) each all up above there back =
    let has = window_type v all.0 in
    absurd (back (v.number * 256 + has.0) (type_at v vs has.0 has.1.0 has.1.1))
windows_once least (w ∷ ws) [] each all up above there back =
    let has = window_type w each.0 in
    absurd (there (w.number * 256 + has.0) (type_at w ws has.0 has.1.0 has.1.1))
windows_once least (w ∷ ws) (v ∷ vs) each all up above there back =
    let number : w.number ≡ v.number = omega (arith, number_from w v ws vs each.0 above.1 there, number_from v w vs ws all.0 up.1 back) in
    ap₂ (λ x xs. x ∷ xs)
    (window_once w v each.0 all.0 number (λ k below. bit_from w v ws vs k below number above.1 there) (λ k below. bit_from v w vs ws k below (sym number) up.1 back))
    (windows_once (w.number + 1) ws vs each.1 all.1 up.1 (subst (λ (n : ℕ). AscendFrom (n + 1) vs) (sym number) above.1) (rest_from w v ws vs number up.1 there) (rest_from v w vs ws (sym number) above.1 back))
