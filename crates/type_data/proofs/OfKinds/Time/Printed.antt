-- The date of a time is printed, and states its octets.
use Rattle.type_data.proofs.Common.{IsDateTime, List, ap, arith, length, subst, sym, to_be_bytes, w32, ℕ, ◌%◌, ◌<◌, ◌∙◌, ◌≡◌}
use Rattle.type_data.proofs.Printed.Fronts.{HaveCount}
use Rattle.type_data.specs.Kinds.Time.Calendar.{seconds_since}
use Rattle.type_data.specs.Kinds.Time.{AreFourteenDigits, PrintsTime, StatesTime, as_date, shown_in}
use Rattle.type_data.specs.declared.kinds.time.calendar.DateTime.{DateTime}

-- the octets of a time are four
pub time_count : HaveCount StatesTime 4
time_count text part states = ap length states.1.1

-- the digits that show the date of so many seconds
pub time_printed : (digits : List ℕ) (date : DateTime) (n : ℕ) → n < 4294967296 → AreFourteenDigits digits → shown_in digits ≡ date → IsDateTime date → seconds_since date ≡ n → PrintsTime digits (to_be_bytes w32 n)
time_printed digits date n short are shown exists value =
    let e : seconds_since (shown_in digits) ≡ n = ap seconds_since shown ∙ value in
    record {
      digits = are;
      date = subst IsDateTime (sym shown) exists;
      short = subst (λ (k : ℕ). k < 4294967296) (sym e) short;
      value = ap (to_be_bytes w32) (sym e);
    }

-- they state the octets
pub time_printed_states : (text octets : List ℕ) → PrintsTime text octets → StatesTime text octets
time_printed_states text octets is =
    let short : seconds_since (shown_in text) < 4294967296 = is.short in
    let whole : seconds_since (shown_in text) ≡ seconds_since (shown_in text) % 4294967296 = omega arith in
    (seconds_since (shown_in text), (as_date is.digits is.date whole, is.value))
