-- Numbers with decimals: each text is one of them at most.
use Rattle.type_data.proofs.Common.{AreCentimetres, Bool, IfNone, IfSome, IsCapped, IsCutFirst, IsDecimal, IsMissing, IsScaled, IsWholeIn, List, None, NothingIs, Option, Some, UpTo, [], and_parts, ap, ap₂, arith, cases_lt, false, if◌then◌else◌, inl, inr, leb-true, length, mul-le-mul_right, refl, subst, sym, true, with_point, without_m, ℕ, ◌*◌, ◌++◌, ◌+◌, ◌-◌, ◌<◌, ◌==◌, ◌^◌, ◌||◌, ◌∙◌, ◌∷◌, ◌≡◌, ◌≤◌}
use Rattle.zone_name.specs.Spelling.{is_digit}
use Rattle.type_data.proofs.Cuts.{digits_lack, first_once, stands_in}
use Rattle.type_data.proofs.OfKinds.Number.Read.{decimal_once}
use Rattle.type_data.specs.Kinds.Location.{whole}
use Rattle.type_data.specs.Kinds.Location.Machine.{ArePartsIn}

pub digit_below : (c : ℕ) → is_digit c ≡ true → c ≤ 57
digit_below c is = grind (arith, and_parts, leb-true)

-- up to three digits are a number below 1000
few_digits : (text : List ℕ) (n : ℕ) → length text ≤ 3 → IsDecimal text n → n ≤ 999
few_digits [] n few is = absurd (omega (arith, is.some))
few_digits (a ∷ []) n few is =
    let x = digit_below a is.digits.0 in omega (arith, is.value)
few_digits (a ∷ b ∷ []) n few is =
    let x = digit_below a is.digits.0 in
    let y = digit_below b is.digits.1.0 in omega (arith, is.value)
few_digits (a ∷ b ∷ c ∷ []) n few is =
    let x = digit_below a is.digits.0 in
    let y = digit_below b is.digits.1.0 in
    let z = digit_below c is.digits.1.1.0 in omega (arith, is.value)
few_digits (a ∷ b ∷ c ∷ d ∷ text) n few is = absurd (omega arith)

-- ---- what is read up to 2 ^ 32 is the number itself where it is no greater

pub whole_found : (text : List ℕ) (places most w number : ℕ) → most < 4294967296 * 10 ^ places → IsCapped (IsDecimal text) w → number ≡ w * 10 ^ places → number ≤ most → UpTo most (IsWholeIn places text) number
whole_found text places most w number below capped value few =
    elim (cases_lt capped.0 4294967296) [
      | inl small ↦
          let own : capped.0 ≡ w = let e = capped.1.1 in omega arith in
          ((capped.0, (capped.1.0, value ∙ ap (λ (n : ℕ). n * 10 ^ places) (sym own))), few)
      | inr large ↦
          let most_is : w ≡ 4294967296 = let e = capped.1.1 in omega arith in
          let number_is : number ≡ 4294967296 * 10 ^ places = value ∙ ap (λ (n : ℕ). n * 10 ^ places) most_is in
          absurd (omega arith)
    ]

pub whole_none : (text : List ℕ) (places most w number : ℕ) → most < 4294967296 * 10 ^ places → IsCapped (IsDecimal text) w → number ≡ w * 10 ^ places → most < number → NothingIs (UpTo most (IsWholeIn places text))
whole_none text places most w number below capped value over n is =
    let own : n ≡ capped.0 * 10 ^ places = is.0.1.1 ∙ ap (λ (m : ℕ). m * 10 ^ places) (decimal_once text is.0.0 capped.0 is.0.1.0 capped.1.0) in
    elim (cases_lt capped.0 4294967296) [
      | inl small ↦
          let same : capped.0 ≡ w = let e = capped.1.1 in omega arith in
          let number_is : number ≡ n = value ∙ ap (λ (m : ℕ). m * 10 ^ places) (sym same) ∙ sym own in
          omega (arith, is.1)
      | inr large ↦
          let least : 4294967296 * 10 ^ places ≤ capped.0 * 10 ^ places = mul-le-mul_right (10 ^ places) large in
          omega (arith, is.1)
    ]

pub parts_found : (front back : List ℕ) (places most w part number : ℕ) → places ≤ 3 → most < 4294967296 * 10 ^ places → length back ≤ places → IsCapped (IsDecimal front) w → IsCapped (IsDecimal back) part → number ≡ w * 10 ^ places + part * 10 ^ (places - length back) → number ≤ most → UpTo most (ArePartsIn places front back) number
parts_found front back places most w part number three below short capped more value few =
    let small_part = few_digits back more.0 (omega arith) more.1.0 in
    let own_part : more.0 ≡ part = let e = more.1.1 in omega arith in
    elim (cases_lt capped.0 4294967296) [
      | inl small ↦
          let own : capped.0 ≡ w = let e = capped.1.1 in omega arith in
          ((capped.0, more.0, (capped.1.0, (more.1.0, (short, value ∙ ap₂ (λ (m n : ℕ). m * 10 ^ places + n * 10 ^ (places - length back)) (sym own) (sym own_part))))), few)
      | inr large ↦
          let most_is : w ≡ 4294967296 = let e = capped.1.1 in omega arith in
          let number_is : number ≡ 4294967296 * 10 ^ places + part * 10 ^ (places - length back) = value ∙ ap (λ (m : ℕ). m * 10 ^ places + part * 10 ^ (places - length back)) most_is in
          absurd (omega arith)
    ]

pub parts_none : (front back : List ℕ) (places most w part number : ℕ) → places ≤ 3 → most < 4294967296 * 10 ^ places → length back ≤ places → IsCapped (IsDecimal front) w → IsCapped (IsDecimal back) part → number ≡ w * 10 ^ places + part * 10 ^ (places - length back) → most < number → NothingIs (UpTo most (ArePartsIn places front back))
parts_none front back places most w part number three below short capped more value over n is =
    let small_part = few_digits back more.0 (omega arith) more.1.0 in
    let own_part : more.0 ≡ part = let e = more.1.1 in omega arith in
    let own : n ≡ capped.0 * 10 ^ places + part * 10 ^ (places - length back) = is.0.2.1.1.1 ∙ ap₂ (λ (a b : ℕ). a * 10 ^ places + b * 10 ^ (places - length back)) (decimal_once front is.0.0 capped.0 is.0.2.0 capped.1.0) (decimal_once back is.0.1 more.0 is.0.2.1.0 more.1.0 ∙ own_part) in
    elim (cases_lt capped.0 4294967296) [
      | inl small ↦
          let same : capped.0 ≡ w = let e = capped.1.1 in omega arith in
          let number_is : number ≡ n = value ∙ ap (λ (m : ℕ). m * 10 ^ places + part * 10 ^ (places - length back)) (sym same) ∙ sym own in
          omega (arith, is.1)
      | inr large ↦
          let least : 4294967296 * 10 ^ places ≤ capped.0 * 10 ^ places = mul-le-mul_right (10 ^ places) large in
          omega (arith, is.1)
    ]

-- ---- with a point or without

pub scaled_whole : (text : List ℕ) (places n : ℕ) → IsMissing 46 text → IsScaled places text n → IsWholeIn places text n
scaled_whole text places n missing (whole w is value) = (w, (is, value))
scaled_whole text places n missing (with_point front back w part parts is more short value) =
    absurd (stands_in 46 text front back parts missing)

pub scaled_parts : (text front back : List ℕ) (places n : ℕ) → IsCutFirst 46 text front back → IsScaled places text n → ArePartsIn places front back n
scaled_parts text front back places n cut (whole w is value) =
    absurd (stands_in 46 text front back cut.parts (digits_lack 46 text refl is.digits))
scaled_parts text front back places n cut (with_point before after w part parts is more short value) =
    let same = first_once 46 before after front back (digits_lack 46 before refl is.digits) cut.missing (sym parts ∙ cut.parts) in
    subst (λ (l : List ℕ). ArePartsIn places l back n) same.0 (subst (λ (l : List ℕ). ArePartsIn places before l n) same.1 (w, part, (is, (more, (short, value)))))

pub found_by : (r : Option ℕ) (P Q : ℕ → Type 0) → ((n : ℕ) → P n → Q n) → IfSome r P → IfSome r Q
found_by None P Q goes h = h
found_by (Some n) P Q goes h = goes n h

pub none_by : (r : Option ℕ) (P Q : ℕ → Type 0) → ((n : ℕ) → P n → Q n) → IfNone r (NothingIs Q) → IfNone r (NothingIs P)
none_by None P Q goes h = λ n is. h n (goes n is)
none_by (Some n) P Q goes h = h

pub parts_lack : (r : Option ℕ) (text front back : List ℕ) (places most : ℕ) → IsCutFirst 46 text front back → IfNone r (NothingIs (UpTo most (ArePartsIn places front back))) → IfNone r (NothingIs (UpTo most (IsScaled places text)))
parts_lack r text front back places most cut h =
    none_by r (UpTo most (IsScaled places text)) (UpTo most (ArePartsIn places front back)) (λ n is. (scaled_parts text front back places n cut is.0, is.1)) h

pub scaled_once : (places : ℕ) (text : List ℕ) (m n : ℕ) → IsScaled places text m → IsScaled places text n → m ≡ n
scaled_once places text m n (whole w is value) other =
    let more = scaled_whole text places n (digits_lack 46 text refl is.digits) other in
    value ∙ ap (λ (k : ℕ). k * 10 ^ places) (decimal_once text w more.0 is more.1.0) ∙ sym more.1.1
scaled_once places text m n (with_point front back w part parts is more short value) other =
    let cut : IsCutFirst 46 text front back = record { parts = parts; missing = digits_lack 46 front refl is.digits } in
    let same = scaled_parts text front back places n cut other in
    value ∙ ap₂ (λ (a b : ℕ). a * 10 ^ places + b * 10 ^ (places - length back)) (decimal_once front w same.0 is same.2.0) (decimal_once back part same.1 more same.2.1.0) ∙ sym same.2.1.1.1

-- ---- digits come first

-- a text begins with a digit
abbrev pub BeginsWithDigit : List ℕ → Type 0
BeginsWithDigit [] = ⊥
BeginsWithDigit (c ∷ text) = is_digit c ≡ true

pub digit_first : (text rest : List ℕ) (n : ℕ) → IsDecimal text n → BeginsWithDigit (text ++ rest)
digit_first [] rest n is = absurd (omega (arith, is.some))
digit_first (c ∷ text) rest n is = is.digits.0

pub decimal_first : (text : List ℕ) (n : ℕ) → IsDecimal text n → BeginsWithDigit text
decimal_first [] n is = absurd (omega (arith, is.some))
decimal_first (c ∷ text) n is = is.digits.0

pub scaled_first : (places : ℕ) (text : List ℕ) (n : ℕ) → IsScaled places text n → BeginsWithDigit text
scaled_first places text n (whole w is value) = decimal_first text w is
scaled_first places text n (with_point front back w part parts is more short value) =
    subst BeginsWithDigit (sym parts) (digit_first front (46 ∷ back) w is)

-- ---- a text without its `m`

kept_first : (c : ℕ) (text : List ℕ) → (c == 109 || c == 77) ≡ false → BeginsWithDigit (without_m (c ∷ text)) → is_digit c ≡ true
kept_first c [] other begins =
    subst (λ (b : Bool). BeginsWithDigit (if b then [] else c ∷ [])) other begins
kept_first c (d ∷ text) other begins = begins

pub no_minus : (text : List ℕ) (n : ℕ) → AreCentimetres (45 ∷ text) n → ⊥
no_minus text n are =
    let digit : is_digit 45 ≡ true = kept_first 45 text refl (scaled_first 2 (without_m (45 ∷ text)) n are) in cc digit

pub m_cut : (front : List ℕ) (c : ℕ) → (c == 109 || c == 77) ≡ true → without_m (front ++ c ∷ []) ≡ front
m_cut [] c is = ap (λ b. if b then [] else c ∷ []) is
m_cut (x ∷ []) c is = ap (λ b. x ∷ (if b then [] else c ∷ [])) is
m_cut (x ∷ y ∷ front) c is = ap (λ l. x ∷ l) (m_cut (y ∷ front) c is)

pub m_missing : (front : List ℕ) (c : ℕ) → (c == 109 || c == 77) ≡ false → without_m (front ++ c ∷ []) ≡ front ++ c ∷ []
m_missing [] c is = ap (λ b. if b then [] else c ∷ []) is
m_missing (x ∷ []) c is = ap (λ b. x ∷ (if b then [] else c ∷ [])) is
m_missing (x ∷ y ∷ front) c is = ap (λ l. x ∷ l) (m_missing (y ∷ front) c is)
