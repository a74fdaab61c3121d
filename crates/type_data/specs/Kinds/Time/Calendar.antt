-- Dates of the Gregorian calendar and times of day in UTC, as seconds since 1970.
use Rattle.std.specs.Prelude.{ℕ, zero, suc, ◌+◌, ◌-◌, ◌*◌, ◌%◌, ◌≤◌, ◌==◌, ◌&&◌, ◌||◌, not, Bool, if◌then◌else◌}
use Rattle.type_data.specs.declared.kinds.time.calendar.DateTime.{DateTime}

-- a multiple of 4, and of 400 where it is one of 100
abbrev pub is_leap : ℕ → Bool
is_leap year = (year % 4 == 0 && not (year % 100 == 0)) || year % 400 == 0

abbrev pub year_length : ℕ → ℕ
year_length year = if is_leap year then 366 else 365

-- the days of a month, of which January is 1
abbrev pub month_length : ℕ → ℕ → ℕ
month_length year month =
    if month == 2 then (if is_leap year then 29 else 28)
    else (if month == 4 || month == 6 || month == 9 || month == 11 then 30 else 31)

-- a date from 1970 on that the calendar has, and a time that a day has
pub record IsDateTime (d : DateTime) : Type 0 where
  pub year : 1970 ≤ d.year
  pub month : (1 ≤ d.month) × (d.month ≤ 12)
  pub day : (1 ≤ d.day) × (d.day ≤ month_length d.year d.month)
  pub hour : d.hour ≤ 23
  pub minute : d.minute ≤ 59
  pub second : d.second ≤ 59

-- the days of so many years from 1970 on
abbrev pub days_of_years : ℕ → ℕ
days_of_years zero = 0
days_of_years (suc years) = days_of_years years + year_length (1970 + years)

-- the days of so many months of a year, from January on
abbrev pub days_of_months : ℕ → ℕ → ℕ
days_of_months year zero = 0
days_of_months year (suc months) = days_of_months year months + month_length year (suc months)

-- the days from the first of January 1970 up to a date
abbrev pub days_since : DateTime → ℕ
days_since d =
    days_of_years (d.year - 1970) + days_of_months d.year (d.month - 1) + (d.day - 1)

-- the seconds since 1970, leap seconds left out
abbrev pub seconds_since : DateTime → ℕ
seconds_since d = days_since d * 86400 + (d.hour * 3600 + d.minute * 60 + d.second)
