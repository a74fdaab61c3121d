-- The lines of a canonical text are those of its records, so texts differ first at the line of the
-- first records that do.
use Rattle.zone_engine.proofs.Common.{◌≡◌, ◌≢◌, ◌↔◌, ℕ, zero, suc, ◌+◌, ◌<◌, ◌≤◌, List, [], ◌∷◌, ◌++◌, length, map, refl, sym, ap, ◌∙◌, append_assoc, length-append, arith, ne_eqb, AllByRecursion, slice_get, Option, IfSome, Octets, Record, IsRecord, Zone, canon, line, lines, Compares, DifferFirstAt, IsAccepted, IsVerdictOnTexts, line_at, lines_of, InputDenotes, Verdict, common_steps, HasNoFeed, EndsWithItsFeed, line_ends_with_feed, Input}

-- ---- the lines of a text

-- a first line, and the lines after it
cut_first : (front text : List ℕ) → HasNoFeed front → lines_of (front ++ 10 ∷ text) ≡ (front ++ 10 ∷ []) ∷ lines_of text
cut_first [] text none = refl
cut_first (c ∷ front) text none = rw (ne_eqb c 10 none.0, cut_first front text none.1) refl

cut_line : (octets text : List ℕ) → EndsWithItsFeed octets → lines_of (octets ++ text) ≡ octets ∷ lines_of text
cut_line octets text ends = grind (arith, append_assoc, cut_first)

-- the lines of records are their lines, in order
pub lines_of_records : (records : List Record) → lines_of (lines records) ≡ map line records
lines_of_records [] = refl
lines_of_records (r ∷ records) = grind (arith, cut_line, line, lines, line_ends_with_feed, lines_of_records records)

-- each has an octet at least
some_octet : (octets : List ℕ) → EndsWithItsFeed octets → 1 ≤ length octets
some_octet octets ends = rw ends.split (omega (arith, length-append ends.front (10 ∷ [])))

pub records_few : (records : List Record) → length records ≤ length (lines records)
records_few [] = omega arith
records_few (r ∷ records) = rw length-append (omega (arith, some_octet (line r) (line_ends_with_feed r), records_few records))

-- ---- two lists of records, side by side

-- The records before these are equal, and their lines are those before this number.
pub record Walked (records others left right : List Record) (number : ℕ) : Type 0 where
  pub front : List Record
  pub split : records ≡ front ++ left
  pub other_split : others ≡ front ++ right
  pub counted : number ≡ suc (length front)

pub walked_nothing : (records others left right : List Record) → left ≡ records → right ≡ others → Walked records others left right 1
walked_nothing records others left right same same' = record { front = []; split = sym same; other_split = sym same'; counted = refl }

pub walked_more : (records others left right left' right' : List Record) (r s : Record) (number : ℕ) → Walked records others left right number → left ≡ r ∷ left' → right ≡ s ∷ right' → r ≡ s → Walked records others left' right' (number + 1)
walked_more records others left right left' right' r s number walked first first' same = record {
  front = walked.front ++ r ∷ [];
  split = walked.split ∙ ap (λ rs. walked.front ++ rs) first ∙ sym (append_assoc walked.front (r ∷ []) left');
  other_split = walked.other_split ∙ ap (λ rs. walked.front ++ rs) (first' ∙ ap (λ t. t ∷ right') (sym same)) ∙ sym (append_assoc walked.front (r ∷ []) right');
  counted = rw (walked.counted, length-append) (omega arith);
}

-- the number of a line is no greater than the length of the text, but for one
pub walked_few : (records others left right : List Record) (number : ℕ) → Walked records others left right number → number ≤ length (lines records) + 1
walked_few records others left right number walked = grind (arith, common_steps, records_few, length-append)

-- ---- the first line at which they differ

line_of_record : (records : List Record) (n : ℕ) → line_at (lines records) (suc n) ≡ slice_get (map line records) n
line_of_record records n = ap (λ ls. slice_get ls n) (lines_of_records records)

equal_before : (front left right : List Record) (m : ℕ) → m < suc (length front) → line_at (lines (front ++ left)) m ≡ line_at (lines (front ++ right)) m
equal_before front left right zero below = refl
equal_before front left right (suc m) below =
    line_of_record (front ++ left) m ∙ equal_inside front m (omega arith) ∙ sym (line_of_record (front ++ right) m)
  where
    equal_inside : (front : List Record) (m : ℕ) → m < length front → slice_get (map line (front ++ left)) m ≡ slice_get (map line (front ++ right)) m
    equal_inside [] m below = absurd (omega arith)
    equal_inside (r ∷ front) zero below = refl
    equal_inside (r ∷ front) (suc m) below = equal_inside front m (omega arith)

at_front : (front left : List Record) → slice_get (map line (front ++ left)) (length front) ≡ slice_get (map line left) 0
at_front [] left = refl
at_front (r ∷ front) left = at_front front left

pub differ_at : (records others left right : List Record) (number : ℕ) → Walked records others left right number → slice_get (map line left) 0 ≢ slice_get (map line right) 0 → DifferFirstAt number (lines records) (lines others)
differ_at records others left right number walked differ = grind (arith, equal_before, at_front, line_of_record)

-- ---- why they do: one list ends before the other, or the lines of their first records differ

pub ends_first : (records others left right right' : List Record) (s : Record) (number : ℕ) → Walked records others left right number → left ≡ [] → right ≡ s ∷ right' → DifferFirstAt number (lines records) (lines others)
ends_first records others left right right' s number walked none first =
    differ_at records others left right number walked (rw (none, first) (λ same. cc))

pub ends_second : (records others left right left' : List Record) (r : Record) (number : ℕ) → Walked records others left right number → left ≡ r ∷ left' → right ≡ [] → DifferFirstAt number (lines records) (lines others)
ends_second records others left right left' r number walked first none =
    differ_at records others left right number walked (rw (first, none) (λ same. cc))

is_record_after : (front left : List Record) (r : Record) → AllByRecursion IsRecord (front ++ r ∷ left) → IsRecord r
is_record_after [] left r each = each.0
is_record_after (s ∷ front) left r each = is_record_after front left r each.1

is_record_at : (records front left left' : List Record) (r : Record) → AllByRecursion IsRecord records → records ≡ front ++ left → left ≡ r ∷ left' → IsRecord r
is_record_at records front left left' r each split first = grind (arith, is_record_after)

differing_lines : (r s : Record) (left right : List Record) → (line r ≡ line s → r ≡ s) → (r ≡ s → ⊥) → slice_get (map line (r ∷ left)) 0 ≢ slice_get (map line (s ∷ right)) 0
differing_lines r s left right exact other same = let one : line r ≡ line s = cc in other (exact one)

pub other_record : (records others left right left' right' : List Record) (r s : Record) (number : ℕ) → ((r s : Record) → IsRecord r → IsRecord s → (line r ≡ line s) ↔ (r ≡ s)) → AllByRecursion IsRecord records → AllByRecursion IsRecord others → Walked records others left right number → left ≡ r ∷ left' → right ≡ s ∷ right' → (r ≡ s → ⊥) → DifferFirstAt number (lines records) (lines others)
other_record records others left right left' right' r s number exact each each' walked first first' other =
    let is = is_record_at records walked.front left left' r each walked.split first in
    let is' = is_record_at others walked.front right right' s each' walked.other_split first' in
    differ_at records others left right number walked
    (rw (first, first') (differing_lines r s left' right' (exact r s is is').0 other))

-- ---- the zones of known octets

pub compares_zones : (form form' : Octets → Input) (known known' : Option Octets) (z w : Zone) (verdict : Verdict) → IfSome known (λ octets. InputDenotes (form octets) z) → IfSome known' (λ octets. InputDenotes (form' octets) w) → IsVerdictOnTexts verdict (canon z) (canon w) → IfSome known (λ octets. IfSome known' (λ others. Compares (form octets) (form' others) verdict))
compares_zones form form' known known' z w verdict denotes denotes' judged = grind arith

pub is_accepted : (form : Octets → Input) (known : Option Octets) (z : Zone) → IfSome known (λ octets. InputDenotes (form octets) z) → IsAccepted form known
is_accepted form known z denotes = grind arith
