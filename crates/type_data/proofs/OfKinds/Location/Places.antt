-- Items state one latitude or longitude at most, one altitude, and one size.
use Rattle.type_data.proofs.Common.{AllByRecursion, AreCentimetres, ArePartsOfDegree, BeginsWithAltitude, BeginsWithMinus, BeginsWithPlace, BeginsWithSize, Bool, DataItem, IsAfterMinus, IsAltitude, IsAngle, IsCutAtHalf, IsDecimal, IsFirstDigit, IsHalfOf, IsNoHalf, IsScaled, List, NothingIs, OfBareItem, RawItem, UpTo, [], above, ap, ap₂, arith, below, cases_lt, drop, drop_more, false, folded_label, folded_octet, from_middle, get_or, inl, inr, length, length-drop, letter, map, map-append, minus, most_degrees, pow-le-pow_right, raw_item, refl, subst, sym, take, take-append-drop, take_all, true, without_m, ℕ, ◌*◌, ◌++◌, ◌+◌, ◌-◌, ◌/◌, ◌<◌, ◌^◌, ◌∙◌, ◌∷◌, ◌≡◌, ◌≢◌, ◌≤◌}
use Rattle.zone_name.specs.Spelling.{is_digit}
use Rattle.zone_rdata.specs.Item.{bare, quoted}
use Rattle.type_data.proofs.OfKinds.Number.Read.{decimal_once}
use Rattle.type_data.proofs.OfKinds.Location.Scaled.{BeginsWithDigit, decimal_first, digit_below, no_minus, scaled_first, scaled_once}
use Rattle.type_data.specs.declared.kinds.location.place.Axis.{Axis}
use Rattle.type_data.specs.declared.kinds.location.place.Axis.TheVariants.{Latitude, Longitude}
use Rattle.type_data.specs.declared.kinds.location.place.Half.{Half}
use Rattle.type_data.specs.declared.kinds.location.place.Half.TheVariants.{Upper, Lower}

-- ---- a number is no letter

no_such_letter : (c k : ℕ) (text : List ℕ) → is_digit c ≡ true → 57 < k → folded_label (c ∷ text) ≡ k ∷ [] → ⊥
no_such_letter c k text digit over e =
    let few = digit_below c digit in
    let folds : folded_octet c ≡ c = grind arith in
    let same : folded_octet c ≡ k = cc in
    omega arith

digit_no_letter : (axis : Axis) (half : Half) (text : List ℕ) → BeginsWithDigit text → folded_label text ≡ letter axis half → ⊥
digit_no_letter axis half [] begins e = begins
digit_no_letter Latitude Upper (c ∷ text) begins e =
    no_such_letter c 110 text begins (omega arith) e
digit_no_letter Latitude Lower (c ∷ text) begins e =
    no_such_letter c 115 text begins (omega arith) e
digit_no_letter Longitude Upper (c ∷ text) begins e =
    no_such_letter c 101 text begins (omega arith) e
digit_no_letter Longitude Lower (c ∷ text) begins e =
    no_such_letter c 119 text begins (omega arith) e

bare_no_half : (axis : Axis) (Stated : List ℕ → ℕ → Type 0) → ((text : List ℕ) (n : ℕ) → Stated text n → BeginsWithDigit text) → (item : RawItem) (n : ℕ) → OfBareItem Stated item n → IsNoHalf axis item
bare_no_half axis Stated first (bare text) n is half h = digit_no_letter axis half text (first text n is) h
bare_no_half axis Stated first (quoted text) n is half h = is

parts_no_half : (axis : Axis) (items : List RawItem) (n : ℕ) → ArePartsOfDegree items n → AllByRecursion (IsNoHalf axis) items
parts_no_half axis [] n are = tt
parts_no_half axis (a ∷ []) n are = (bare_no_half axis IsDecimal decimal_first a are.0 are.1.0, tt)
parts_no_half axis (a ∷ b ∷ []) n are =
    (bare_no_half axis IsDecimal decimal_first a are.0 are.2.0, (bare_no_half axis (IsScaled 3) (scaled_first 3) b are.1 are.2.1.0, tt))
parts_no_half axis (a ∷ b ∷ c ∷ items) n are = absurd are

angle_no_half : (axis : Axis) (items : List RawItem) (n : ℕ) → IsAngle items n → AllByRecursion (IsNoHalf axis) items
angle_no_half axis [] n is = tt
angle_no_half axis (first ∷ items) n is =
    (bare_no_half axis IsDecimal decimal_first first is.0 is.2.0, parts_no_half axis items is.1 is.2.1.0)

-- ---- the letter is in one place

half_place : (axis : Axis) (front other : List RawItem) (x y : RawItem) (h k : Half) (rest more : List RawItem) → AllByRecursion (IsNoHalf axis) front → IsHalfOf axis x h → AllByRecursion (IsNoHalf axis) other → IsHalfOf axis y k → front ++ x ∷ rest ≡ other ++ y ∷ more → (front ≡ other) × ((x ≡ y) × (rest ≡ more))
half_place axis [] [] x y h k rest more none is lacks own e = (refl, (cc, cc))
half_place axis [] (z ∷ other) x y h k rest more none is lacks own e =
    let same : x ≡ z = cc in
    absurd (lacks.0 h (subst (λ (i : RawItem). IsHalfOf axis i h) same is))
half_place axis (z ∷ front) [] x y h k rest more none is lacks own e =
    let same : y ≡ z = cc in
    absurd (none.0 k (subst (λ (i : RawItem). IsHalfOf axis i k) same own))
half_place axis (z ∷ front) (w ∷ other) x y h k rest more none is lacks own e =
    let same : z ≡ w = cc in
    let tails : front ++ x ∷ rest ≡ other ++ y ∷ more = cc in
    let found = half_place axis front other x y h k rest more none.1 is lacks.1 own tails in
    (cc (same, found.0), found.1)

letters_apart : (a b : ℕ) → a ≢ b → a ∷ [] ≡ b ∷ [] → ⊥
letters_apart a b other e = let same : a ≡ b = cc in other same

half_once : (axis : Axis) (item : RawItem) (h k : Half) → IsHalfOf axis item h → IsHalfOf axis item k → h ≡ k
half_once axis (quoted text) h k a b = absurd a
half_once axis (bare text) Upper Upper a b = refl
half_once Latitude (bare text) Upper Lower a b =
    absurd (letters_apart 110 115 (λ e. omega arith) (sym a ∙ b))
half_once Longitude (bare text) Upper Lower a b =
    absurd (letters_apart 101 119 (λ e. omega arith) (sym a ∙ b))
half_once Latitude (bare text) Lower Upper a b =
    absurd (letters_apart 115 110 (λ e. omega arith) (sym a ∙ b))
half_once Longitude (bare text) Lower Upper a b =
    absurd (letters_apart 119 101 (λ e. omega arith) (sym a ∙ b))
half_once axis (bare text) Lower Lower a b = refl

pub cut_half : (axis : Axis) (items : List DataItem) (at : ℕ) (d : DataItem) (half : Half) → at < length items → AllByRecursion (IsNoHalf axis) (map raw_item (take at items)) → IsHalfOf axis (raw_item (get_or items at d)) half → IsCutAtHalf axis (map raw_item items) (map raw_item (take at items)) half (map raw_item (take (length items - (at + 1)) (drop (at + 1) items)))
cut_half axis items at d half inside none is =
    let all : take (length items - (at + 1)) (drop (at + 1) items) ≡ drop (at + 1) items = take_all (length items - (at + 1)) (drop (at + 1) items) (let l = length-drop (at + 1) items in omega arith) in
    record {
      item = raw_item (get_or items at d);
      parts = ap (map raw_item) (sym (take-append-drop at items) ∙ ap (λ l. take at items ++ l) (drop_more items at d inside)) ∙ map-append raw_item (take at items) (get_or items at d ∷ drop (at + 1) items) ∙ ap (λ l. map raw_item (take at items) ++ (raw_item (get_or items at d) ∷ map raw_item l)) (sym all);
      is_half = is;
      none_before = none;
    }

-- ---- one angle

pub bare_same : (Stated : List ℕ → ℕ → Type 0) → ((text : List ℕ) (m n : ℕ) → Stated text m → Stated text n → m ≡ n) → (item : RawItem) (m n : ℕ) → OfBareItem Stated item m → OfBareItem Stated item n → m ≡ n
bare_same Stated once (bare text) m n a b = once text m n a b
bare_same Stated once (quoted text) m n a b = absurd a

parts_same : (items : List RawItem) (m n : ℕ) → ArePartsOfDegree items m → ArePartsOfDegree items n → m ≡ n
parts_same [] m n a b = a ∙ sym b
parts_same (x ∷ []) m n a b =
    let same = bare_same IsDecimal decimal_once x a.0 b.0 a.1.0 b.1.0 in omega (arith, a.1.1.1, b.1.1.1)
parts_same (x ∷ y ∷ []) m n a b =
    let minutes = bare_same IsDecimal decimal_once x a.0 b.0 a.2.0 b.2.0 in
    let seconds = bare_same (IsScaled 3) (scaled_once 3) y a.1 b.1 a.2.1.0 b.2.1.0 in
    omega (arith, a.2.1.1.1.1, b.2.1.1.1.1)
parts_same (x ∷ y ∷ z ∷ items) m n a b = absurd a

pub angle_same : (items : List RawItem) (m n : ℕ) → IsAngle items m → IsAngle items n → m ≡ n
angle_same [] m n a b = absurd a
angle_same (x ∷ items) m n a b =
    let degrees = bare_same IsDecimal decimal_once x a.0 b.0 a.2.0 b.2.0 in
    let part = parts_same items a.1 b.1 a.2.1.0 b.2.1.0 in
    omega (arith, a.2.1.1, b.2.1.1)

pub too_wide : (items rest : List RawItem) (first : RawItem) (most degrees part : ℕ) → items ≡ first ∷ rest → OfBareItem IsDecimal first degrees → ArePartsOfDegree rest part → most * 3600000 < degrees * 3600000 + part → NothingIs (UpTo (most * 3600000) (IsAngle items))
too_wide items rest first most degrees part e is are over n angle =
    let own : IsAngle (first ∷ rest) n = subst (λ (l : List RawItem). IsAngle l n) e angle.0 in
    let same = angle_same (first ∷ rest) n (degrees * 3600000 + part) own (degrees, part, (is, (are, refl))) in
    omega (arith, angle.1)

pub no_angle : (axis : Axis) (items front after : List RawItem) (half : Half) (most : ℕ) → IsCutAtHalf axis items front half after → most ≡ most_degrees axis → NothingIs (UpTo (most * 3600000) (IsAngle front)) → (n : ℕ) (rest : List RawItem) → BeginsWithPlace axis items n rest → ⊥
no_angle axis items front after half most cut same none n rest place =
    let found = half_place axis front place.angle_items cut.item place.half_item half place.half after rest cut.none_before cut.is_half (angle_no_half axis place.angle_items place.angle place.states) place.is_half (sym cut.parts ∙ place.parts) in
    none place.angle (subst (λ (l : List RawItem). IsAngle l place.angle) (sym found.0) place.states, omega (arith, place.few))

pub place_once : (axis : Axis) (items rest more : List RawItem) (m n : ℕ) → BeginsWithPlace axis items m rest → BeginsWithPlace axis items n more → (m ≡ n) × (rest ≡ more)
place_once axis items rest more m n p q =
    let found = half_place axis p.angle_items q.angle_items p.half_item q.half_item p.half q.half rest more (angle_no_half axis p.angle_items p.angle p.states) p.is_half (angle_no_half axis q.angle_items q.angle q.states) q.is_half (sym p.parts ∙ q.parts) in
    let angle : p.angle ≡ q.angle = angle_same p.angle_items p.angle q.angle p.states (subst (λ (l : List RawItem). IsAngle l q.angle) (sym found.0) q.states) in
    let half : p.half ≡ q.half = half_once axis q.half_item p.half q.half (subst (λ (i : RawItem). IsHalfOf axis i p.half) found.1.0 p.is_half) q.is_half in
    (p.value ∙ ap₂ (λ (h : Half) (a : ℕ). from_middle h a) half angle ∙ sym q.value, found.1.1)

-- ---- altitude

pub altitude_above : (text rest : List ℕ) (sign : Bool) (h : ℕ) → IsAfterMinus text sign rest → sign ≡ false → UpTo 4284967295 (AreCentimetres rest) h → IsAltitude text (10000000 + h)
altitude_above text rest sign h after is are =
    let same : text ≡ rest = after.parts ∙ ap (λ (b : Bool). minus b ++ rest) is in
    above h (subst (λ (l : List ℕ). AreCentimetres l h) (sym same) are.0) are.1 refl

pub none_below : (text rest : List ℕ) (sign : Bool) → IsAfterMinus text sign rest → sign ≡ true → NothingIs (UpTo 10000000 (AreCentimetres rest)) → NothingIs (IsAltitude text)
none_below text rest sign after is none n (above c are few value) =
    no_minus rest c (subst (λ (l : List ℕ). AreCentimetres l c) (after.parts ∙ ap (λ (b : Bool). minus b ++ rest) is) are)
none_below text rest sign after is none n (below own c e are few value) =
    let parts : text ≡ 45 ∷ rest = after.parts ∙ ap (λ (b : Bool). minus b ++ rest) is in
    let same : own ≡ rest = cc (sym e ∙ parts) in
    none c (subst (λ (l : List ℕ). AreCentimetres l c) same are, few)

pub none_above : (text rest : List ℕ) (sign : Bool) → IsAfterMinus text sign rest → sign ≡ false → NothingIs (UpTo 4284967295 (AreCentimetres rest)) → NothingIs (IsAltitude text)
none_above text rest sign after is none n (above c are few value) =
    let same : text ≡ rest = after.parts ∙ ap (λ (b : Bool). minus b ++ rest) is in
    none c (subst (λ (l : List ℕ). AreCentimetres l c) same are, few)
none_above text rest sign after is none n (below own c e are few value) =
    after.first is (subst BeginsWithMinus (sym e) refl)

altitude_same : (text : List ℕ) (m n : ℕ) → IsAltitude text m → IsAltitude text n → m ≡ n
altitude_same text m n (above c are few value) (above d too low other) =
    let same = scaled_once 2 (without_m text) c d are too in omega arith
altitude_same text m n (above c are few value) (below rest d e too low other) =
    absurd (no_minus rest c (subst (λ (l : List ℕ). AreCentimetres l c) e are))
altitude_same text m n (below rest c e are few value) (above d too low other) =
    absurd (no_minus rest d (subst (λ (l : List ℕ). AreCentimetres l d) e too))
altitude_same text m n (below rest c e are few value) (below own d f too low other) =
    let tails : own ≡ rest = cc (sym f ∙ e) in
    let same = scaled_once 2 (without_m rest) c d are (subst (λ (l : List ℕ). AreCentimetres l d) tails too) in
    omega arith

pub altitude_once : (items rest more : List RawItem) (m n : ℕ) → BeginsWithAltitude items m rest → BeginsWithAltitude items n more → (m ≡ n) × (rest ≡ more)
altitude_once [] rest more m n p q = absurd p
altitude_once (bare text ∷ items) rest more m n p q =
    (altitude_same text m n p.0 q.0, p.1 ∙ sym q.1)
altitude_once (quoted text ∷ items) rest more m n p q = absurd p.0

-- ---- sizes

power_least : (c m n : ℕ) (p : IsFirstDigit c m) (q : IsFirstDigit c n) → p.power ≤ q.power
power_least c m n p q =
    elim (cases_lt q.power p.power) [
      | inl less ↦ elim p.first [
        | inl none ↦ omega arith
        | inr first ↦ absurd (let grows = pow-le-pow_right {n = 10} (omega arith) {i = q.power + 1} {j = p.power} (omega arith) in omega (arith, q.below))
      ]
      | inr other ↦ other
    ]

first_digit_same : (c m n : ℕ) → IsFirstDigit c m → IsFirstDigit c n → m ≡ n
first_digit_same c m n p q =
    let power : p.power ≡ q.power = omega (arith, power_least c m n p q, power_least c n m q p) in
    p.value ∙ ap (λ (k : ℕ). c / 10 ^ k * 16 + k) power ∙ sym q.value

pub size_once : (usual : ℕ) (items rest more : List RawItem) (m n : ℕ) → BeginsWithSize usual items m rest → BeginsWithSize usual items n more → (m ≡ n) × (rest ≡ more)
size_once usual [] rest more m n p q = (p.0 ∙ sym q.0, p.1 ∙ sym q.1)
size_once usual (bare text ∷ items) rest more m n p q =
    ((let same = scaled_once 2 (without_m text) p.0.0 q.0.0 p.0.1.0 q.0.1.0 in first_digit_same q.0.0 m n (subst (λ (c : ℕ). IsFirstDigit c m) same p.0.1.1.1) q.0.1.1.1), p.1 ∙ sym q.1)
size_once usual (quoted text ∷ items) rest more m n p q = absurd p.0
