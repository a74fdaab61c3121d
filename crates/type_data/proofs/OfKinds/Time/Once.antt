-- Texts that are times, and texts that are none.
use Rattle.type_data.proofs.Common.{IsDateTime, IsDecimal, List, NotATime, NothingIs, WordsFault, ap, arith, length, refl, sym, to_be_bytes, w32, ℕ, ◌∙◌, ◌≡◌, ◌≤◌}
use Rattle.type_data.proofs.OfKinds.Number.Read.{decimal_once}
use Rattle.type_data.specs.Kinds.Time.{AreFourteenDigits, AreSecondsOf, AreTooManySeconds, FailsTime, StatesTime, shown_in, in_seconds, as_date, too_large, not_a_time}

no_seconds : (text : List ℕ) → length text ≤ 10 → NothingIs (IsDecimal text) → NothingIs (AreSecondsOf text)
no_seconds text few none n (in_seconds short is below) = none n is
no_seconds text few none n (as_date digits date value) = absurd (omega (arith, digits.count))

-- up to ten octets that are no number are no time
pub no_number : (text : List ℕ) → length text ≤ 10 → NothingIs (IsDecimal text) → FailsTime text NotATime
no_number text few none =
    not_a_time (no_seconds text few none) (λ many. none many.1.0 many.1.1.0)

no_seconds_of_date : (text : List ℕ) → 11 ≤ length text → (AreFourteenDigits text → IsDateTime (shown_in text) → ⊥) → NothingIs (AreSecondsOf text)
no_seconds_of_date text many none n (in_seconds short is below) = absurd (omega arith)
no_seconds_of_date text many none n (as_date digits date value) = none digits date

-- a text of more digits that shows no date
pub no_date : (text : List ℕ) → 11 ≤ length text → (AreFourteenDigits text → IsDateTime (shown_in text) → ⊥) → FailsTime text NotATime
no_date text many none =
    not_a_time (no_seconds_of_date text many none) (λ few. absurd (omega (arith, few.0)))

seconds_once : (text : List ℕ) (m n : ℕ) → AreSecondsOf text m → AreSecondsOf text n → m ≡ n
seconds_once text m n (in_seconds s a x) (in_seconds t b y) = decimal_once text m n a b
seconds_once text m n (in_seconds s a x) (as_date t b y) = absurd (omega (arith, t.count))
seconds_once text m n (as_date s a x) (in_seconds t b y) = absurd (omega (arith, s.count))
seconds_once text m n (as_date s a x) (as_date t b y) = x ∙ sym y

-- a text states one time
pub time_once : (text a b : List ℕ) → StatesTime text a → StatesTime text b → a ≡ b
time_once text a b p q =
    p.1.1 ∙ ap (to_be_bytes w32) (seconds_once text p.0 q.0 p.1.0 q.1.0) ∙ sym q.1.1

seconds_or_many : (text : List ℕ) (n : ℕ) → AreSecondsOf text n → AreTooManySeconds text → ⊥
seconds_or_many text n (in_seconds short is below) many =
    let same : n ≡ many.1.0 = decimal_once text n many.1.0 is many.1.1.0 in
    omega (arith, many.1.1.1)
seconds_or_many text n (as_date digits date value) many = omega (arith, digits.count, many.0)

-- a text that fails states no time
pub time_or_fault : (text octets : List ℕ) (fault : WordsFault) → StatesTime text octets → FailsTime text fault → ⊥
time_or_fault text octets fault states (too_large many) =
    seconds_or_many text states.0 states.1.0 many
time_or_fault text octets fault states (not_a_time none few) = none states.0 states.1.0

-- and it fails in one way
pub time_fault_once : (text : List ℕ) (a b : WordsFault) → FailsTime text a → FailsTime text b → a ≡ b
time_fault_once text a b (too_large m) (too_large n) = refl
time_fault_once text a b (too_large m) (not_a_time none few) = absurd (few m)
time_fault_once text a b (not_a_time none few) (too_large m) = absurd (few m)
time_fault_once text a b (not_a_time m n) (not_a_time p q) = refl
