-- The days of years from 1970 on, in closed form, and those of months.
use Rattle.type_data.proofs.Common.{arith, days_of_years, if◌then◌else◌, nat_tests, refl, suc, zero, ℕ, ◌%◌, ◌*◌, ◌+◌, ◌/◌, ◌==◌, ◌≡◌, ◌≢◌, ◌≤◌}
use Rattle.type_data.specs.Kinds.Time.Calendar.{days_of_months, month_length, year_length}

-- a quotient grows by one where the number becomes a multiple
by_4 : (n : ℕ) → (n + 1) / 4 ≡ n / 4 + (if (n + 1) % 4 == 0 then 1 else 0)
by_4 n = grind arith

by_100 : (n : ℕ) → (n + 1) / 100 ≡ n / 100 + (if (n + 1) % 100 == 0 then 1 else 0)
by_100 n = grind arith

by_400 : (n : ℕ) → (n + 1) / 400 ≡ n / 400 + (if (n + 1) % 400 == 0 then 1 else 0)
by_400 n = grind arith

pub years_closed : (k : ℕ) → days_of_years k + 477 + (k + 1969) / 100 ≡ 365 * k + (k + 1969) / 4 + (k + 1969) / 400
years_closed zero = refl
years_closed (suc k) =
    let h = years_closed k in
    let a = by_4 (k + 1969) in
    let b = by_100 (k + 1969) in
    let c = by_400 (k + 1969) in
    grind (arith, h, a, b, c)

-- ---- the months of a year

some_days : (year month : ℕ) → (28 ≤ month_length year month) × (month_length year month ≤ 31)
some_days year month = (grind arith, grind arith)

usual_days : (year month : ℕ) → month ≢ 2 → 30 ≤ month_length year month
usual_days year month other = grind (arith, nat_tests)

-- so many months have no more than 31 days each
pub months_most : (year months : ℕ) → days_of_months year months ≤ 31 * months
months_most year zero = omega arith
months_most year (suc months) = omega (arith, months_most year months, some_days year (suc months))

-- and no fewer than 30 each, but for two days
pub months_least : (year months : ℕ) → 30 * months ≤ days_of_months year months + 2
months_least year zero = omega arith
months_least year (suc zero) = omega (arith, usual_days year 1 (omega arith))
months_least year (suc (suc zero)) = omega (arith, usual_days year 1 (omega arith), some_days year 2)
months_least year (suc (suc (suc months))) = omega (arith, months_least year (suc (suc months)), usual_days year (suc (suc (suc months))) (omega arith))

pub months_of_year : (year : ℕ) → days_of_months year 12 ≡ year_length year
months_of_year year = grind arith

pub months_more : (year months next : ℕ) → next ≡ months + 1 → days_of_months year next ≡ days_of_months year months + month_length year next
months_more year months next e = let same : next ≡ suc months = omega arith in rw same refl

-- ---- the years

pub years_more : (years next : ℕ) → next ≡ years + 1 → days_of_years next ≡ days_of_years years + year_length (1970 + years)
years_more years next e = let same : next ≡ suc years = omega arith in rw same refl
