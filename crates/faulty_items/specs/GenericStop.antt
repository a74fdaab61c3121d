-- Where a reading of data in the generic form stops (RFC 3597 5): its length, and its digits.
use Rattle.std.specs.Prelude.{◌≡◌, ℕ, ◌≤◌, List, [], ◌∷◌, length, codes, Option, Some, None}
use Rattle.zone_rdata.specs.Generic.{IsGenericForm, JoinTo, StatesLength}
use Rattle.zone_rdata.specs.Item.{RawItem, generic_mark}
use Rattle.zone_rdata.specs.Limits.{longest_data}
use Rattle.faulty_items.specs.Stop.{Stop, stop_at}
use Rattle.faulty_items.specs.StopsAt.{StopsAt}

-- digits of octets, of which there are no more than this
abbrev pub JoinUpTo : ℕ → List RawItem → Type 0
JoinUpTo most items = (octets : List ℕ) × JoinTo items octets × (length octets ≤ most)

-- No length; one that is no number of octets; or the first item that isn't hexadecimal digits of
-- whole octets, or has too many. Where digits are missing it is none.
pub data GenericStops (items : List RawItem) : Stop → Type 0 where
  no_length : items ≡ generic_mark ∷ [] → GenericStops items (stop_at (codes "length") None)
  bad_length : (item : RawItem) (digits : List RawItem) → items ≡ generic_mark ∷ item ∷ digits
      → ((n : ℕ) → StatesLength item n → n ≤ longest_data → ⊥)
      → GenericStops items (stop_at (codes "length") (Some item))
  in_digits : (n : ℕ) (digits : List RawItem) (found : Option RawItem)
      → IsGenericForm items n digits → n ≤ longest_data → StopsAt (JoinUpTo n) digits found
      → GenericStops items (stop_at (codes "data") found)
