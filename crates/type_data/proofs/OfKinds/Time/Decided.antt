-- Times are stated or have a fault.
use Rattle.std.proofs.lemmas.Bool.{cases_eq}
use Rattle.zone_name.specs.Common.{EitherIs}
use Rattle.zone_name.specs.Spelling.{is_digit}
use Rattle.zone_rdata.proofs.Choices.{Decided, both_or_not, each_or_not, true_or_not}
use Rattle.zone_rdata.proofs.Items.GenericLaws.{decimal_or_not}
use Rattle.type_data.proofs.Common.{AllByRecursion, IsDateTime, List, arith, cases_lt, inl, inr, length, refl, to_be_bytes, true, w32, ℕ, ◌%◌, ◌<◌, ◌≡◌, ◌≤◌, ◌⊎◌}
use Rattle.type_data.proofs.Decided.Choices.{as_or_not, at_most_or_not}
use Rattle.type_data.proofs.OfKinds.Time.Once.{no_date, no_number}
use Rattle.type_data.specs.Kinds.Time.Calendar.{month_length, seconds_since}
use Rattle.type_data.specs.Kinds.Time.{AreFourteenDigits, FailsTime, StatesTime, as_date, in_seconds, shown_in, too_large}
use Rattle.type_data.specs.declared.fault.WordsFault.TheVariants.{NotATime, TooLarge}
use Rattle.type_data.specs.declared.kinds.time.calendar.DateTime.{DateTime}

abbrev HasDate : DateTime → Type 0
HasDate d =
    (1970 ≤ d.year) × (((1 ≤ d.month) × (d.month ≤ 12)) × (((1 ≤ d.day) × (d.day ≤ month_length d.year d.month)) × ((d.hour ≤ 23) × ((d.minute ≤ 59) × (d.second ≤ 59)))))

date_or_not : (d : DateTime) → Decided (IsDateTime d)
date_or_not d =
    let day : Decided ((1 ≤ d.day) × (d.day ≤ month_length d.year d.month)) = both_or_not (at_most_or_not 1 d.day) (at_most_or_not d.day (month_length d.year d.month)) in
    let month : Decided ((1 ≤ d.month) × (d.month ≤ 12)) = both_or_not (at_most_or_not 1 d.month) (at_most_or_not d.month 12) in
    let of_day : Decided ((d.hour ≤ 23) × ((d.minute ≤ 59) × (d.second ≤ 59))) = both_or_not (at_most_or_not d.hour 23) (both_or_not (at_most_or_not d.minute 59) (at_most_or_not d.second 59)) in
    as_or_not {P = HasDate d} {Q = IsDateTime d} (λ h. record { year = h.0; month = h.1.0; day = h.1.1.0; hour = h.1.1.1.0; minute = h.1.1.1.1.0; second = h.1.1.1.1.1 }) (λ is. (is.year, (is.month, (is.day, (is.hour, (is.minute, is.second)))))) (both_or_not (at_most_or_not 1970 d.year) (both_or_not month (both_or_not day of_day)))

fourteen_by : (text : List ℕ) → (length text ≡ 14) ⊎ (length text ≡ 14 → ⊥) → Decided (AllByRecursion (λ c. is_digit c ≡ true) text) → Decided (AreFourteenDigits text)
fourteen_by text (inl count) (inl digits) = inl (record { count = count; digits = digits })
fourteen_by text (inr other) digits = inr (λ are. other are.count)
fourteen_by text count (inr other) = inr (λ are. other are.digits)

fourteen_or_not : (text : List ℕ) → Decided (AreFourteenDigits text)
fourteen_or_not text = fourteen_by text (cases_eq (length text) 14) (each_or_not (λ c. is_digit c ≡ true) (λ c. true_or_not (is_digit c)) text)

date_decided : (text : List ℕ) → 10 < length text → EitherIs (StatesTime text) (FailsTime text)
date_decided text long = elim (both_or_not (fourteen_or_not text) (date_or_not (shown_in text))) [
  | inl is ↦ inl (to_be_bytes w32 (seconds_since (shown_in text) % 4294967296), (seconds_since (shown_in text) % 4294967296, (as_date is.0 is.1 refl, refl)))
  | inr none ↦ inr (NotATime, no_date text (omega arith) (λ digits date. none (digits, date)))
]

seconds_decided : (text : List ℕ) → length text ≤ 10 → EitherIs (StatesTime text) (FailsTime text)
seconds_decided text few = elim (decimal_or_not text) [
  | inr none ↦ inr (NotATime, no_number text few none)
  | inl found ↦ elim (cases_lt 4294967295 found.0) [
    | inl over ↦ inr (TooLarge, too_large (few, (found.0, (found.1, over))))
    | inr short ↦ inl (to_be_bytes w32 found.0, (found.0, (in_seconds few found.1 short, refl)))
  ]
]

pub time_decided : (text : List ℕ) → EitherIs (StatesTime text) (FailsTime text)
time_decided text = elim (cases_lt 10 (length text)) [
  | inl long ↦ date_decided text long
  | inr few ↦ seconds_decided text few
]
