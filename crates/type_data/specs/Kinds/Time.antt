-- Times of signatures: seconds since 1970, or a date and a time of day (RFC 4034 3.1.5, 3.2).
use Rattle.std.specs.Prelude.{◌≡◌, ℕ, ◌%◌, ◌<◌, ◌≤◌, List, length, take, drop, true}
use Rattle.std.specs.Int.{w32, to_be_bytes}
use Rattle.std.specs.List.{AllByRecursion}
use Rattle.zone_name.specs.Common.{NothingIs}
use Rattle.zone_name.specs.Spelling.{is_digit}
use Rattle.zone_rdata.specs.Number.{IsDecimal, decimal_value}
use Rattle.type_data.specs.Kinds.Time.Calendar.{IsDateTime, seconds_since}
use Rattle.type_data.specs.declared.fault.WordsFault.{WordsFault}
use Rattle.type_data.specs.declared.fault.WordsFault.TheVariants.{NotATime, TooLarge}
use Rattle.type_data.specs.declared.kinds.time.calendar.DateTime.{DateTime}
pub mod Calendar

pub record AreFourteenDigits (text : List ℕ) : Type 0 where
  pub count : length text ≡ 14
  pub digits : AllByRecursion (λ c. is_digit c ≡ true) text

-- what fourteen digits show, as YYYYMMDDHHMMSS
abbrev pub shown_in : List ℕ → DateTime
shown_in text =
    record {
      year = decimal_value (take 4 text);
      month = decimal_value (take 2 (drop 4 text));
      day = decimal_value (take 2 (drop 6 text));
      hour = decimal_value (take 2 (drop 8 text));
      minute = decimal_value (take 2 (drop 10 text));
      second = decimal_value (take 2 (drop 12 text));
    }

-- The seconds of a time, of which there are 32 bits: up to ten digits are their number, and
-- fourteen show a date and a time of day, whose number is taken modulo 2 ^ 32
pub data AreSecondsOf (text : List ℕ) (n : ℕ) : Type 0 where
  in_seconds : length text ≤ 10 → IsDecimal text n → n ≤ 4294967295 → AreSecondsOf text n
  as_date : AreFourteenDigits text → IsDateTime (shown_in text)
      → n ≡ seconds_since (shown_in text) % 4294967296 → AreSecondsOf text n

-- four octets, the highest first
abbrev pub StatesTime : List ℕ → List ℕ → Type 0
StatesTime text octets = (n : ℕ) × (AreSecondsOf text n × (octets ≡ to_be_bytes w32 n))

-- up to ten digits whose number takes more than 32 bits
abbrev pub AreTooManySeconds : List ℕ → Type 0
AreTooManySeconds text = (length text ≤ 10) × ((n : ℕ) × (IsDecimal text n × (4294967295 < n)))

-- a number of seconds that is too great, or anything else that is no time
pub data FailsTime (text : List ℕ) : WordsFault → Type 0 where
  too_large : AreTooManySeconds text → FailsTime text TooLarge
  not_a_time : NothingIs (AreSecondsOf text) → (AreTooManySeconds text → ⊥)
      → FailsTime text NotATime

-- The fourteen digits of the date and the time of day that the calendar has so many seconds after
-- 1970, of which there are 32 bits (RFC 4034 3.2)
pub record PrintsTime (text octets : List ℕ) : Type 0 where
  pub digits : AreFourteenDigits text
  pub date : IsDateTime (shown_in text)
  pub short : seconds_since (shown_in text) < 4294967296
  pub value : octets ≡ to_be_bytes w32 (seconds_since (shown_in text))
