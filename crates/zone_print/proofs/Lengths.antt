-- How many octets lines have, against those that their records take in messages.
use Rattle.zone_print.proofs.Common.{common_steps, refl, sym, ◌∙◌, ◌≡◌, ℕ, ◌+◌, ◌*◌, ◌^◌, ◌<◌, ◌≤◌, ◌/◌, List, [], ◌∷◌, ◌++◌, length, decimal, arith, length-append, AllByRecursion, name_text, Record, IsRecord, data_of, data_text, class_text, kind_text, line, lines}
use Rattle.std.proofs.lemmas.Fmt.{length-decimal-le}
use Rattle.std.proofs.lemmas.List.Sorted.{All-permutation, IsPermutation-sym, sum_by-IsPermutation}
use Rattle.std.proofs.lemmas.List.Sums.{sum_by-cons}
use Rattle.zone_set.proofs.Common.{All-from_recursion, recursion_from_All}
use Rattle.std.specs.List.{sum_by}
use Rattle.std.specs.Prelude.{min, ◌-◌}
use Rattle.std.specs.List.Sorted.{IsPermutation}
use Rattle.zone_name.proofs.Texts.Lengths.{name_text_length}
use Rattle.zone_rdata.proofs.Texts.TextLengths.{class_length, data_text_length, kind_length}
use Rattle.zone_set.specs.Message.{message_len, message_octets}

-- the five parts, four spaces and the line feed
parts_length : (owner ttl class kind rdata : List ℕ) → length (owner ++ 32 ∷ ttl ++ 32 ∷ class ++ 32 ∷ kind ++ 32 ∷ rdata ++ 10 ∷ []) ≡ length owner + length ttl + length class + length kind + length rdata + 5
parts_length owner ttl class kind rdata = grind (arith, common_steps)

-- the TTL, the class and the type have at most ten octets each, and four times theirs in a message
-- are forty
line_length : (r : Record) → IsRecord r → length (line r) ≤ 4 * message_len r
line_length r is =
    let ttl = length-decimal-le 10 r.ttl (omega arith) (let low = is.ttl in omega arith) (let low = is.ttl in omega arith) in
    let owner = name_text_length r.owner in
    let class = class_length r.class is.rdata.class in
    let kind = kind_length r.class r.kind is.rdata.kind in
    let rdata = data_text_length (data_of r) is.rdata in
    omega (arith, parts_length (name_text r.owner) (decimal r.ttl) (class_text r.class) (kind_text r.class r.kind) (data_text (data_of r)), ttl, owner, class, kind, rdata)

pub lines_length : (records : List Record) → AllByRecursion IsRecord records → length (lines records) ≤ 4 * message_octets records
lines_length [] each = omega arith
lines_length (r ∷ records) each = omega (arith, sum_by-cons message_len r records, length-append (line r) (lines records), line_length r each.0, lines_length records each.1)

lines_counted : (records : List Record) → length (lines records) ≡ sum_by (λ r. length (line r)) records
lines_counted [] = refl
lines_counted (r ∷ records) = omega (arith, sum_by-cons (λ r. length (line r)) r records, length-append (line r) (lines records), lines_counted records)

-- in any order the lines are as long
pub moved_length : (records others : List Record) → IsPermutation records others → length (lines records) ≡ length (lines others)
moved_length records others moves =
    lines_counted records ∙ sym (sum_by-IsPermutation (λ r. length (line r)) records others moves) ∙ sym (lines_counted others)

-- ---- lines that are counted while others are left

-- a record takes less than 2^17 octets in a message, and its line has a line feed
message_short : (r : Record) → IsRecord r → message_len r ≤ 131072 * length (line r)
message_short r is =
    omega (arith, parts_length (name_text r.owner) (decimal r.ttl) (class_text r.class) (kind_text r.class r.kind) (data_text (data_of r)), is.owner.short, is.rdata.octets.short)

-- so many octets were counted, of lines whose records take so many in messages
pub record IsCounted (whole limit : ℕ) (left : List Record) (spare uncounted : ℕ) : Type 0 where
  pub counted : ℕ
  pub taken : ℕ
  pub each : AllByRecursion IsRecord left
  pub parts : counted + length (lines left) ≡ whole
  pub spares : spare ≡ limit + 1 - counted
  pub few : taken ≤ 131072 * counted
  pub rest : uncounted ≡ min (taken + message_octets left) (2 ^ 64 - 1) - taken

-- at first none was, of a list in any order
pub IsCounted-first : (limit : ℕ) (moved records : List Record) → AllByRecursion IsRecord records → IsPermutation moved records → IsCounted (length (lines records)) limit moved (limit + 1) (min (message_octets records) (2 ^ 64 - 1))
IsCounted-first limit moved records each moves =
    let same = sum_by-IsPermutation message_len moved records moves in
    record {
      counted = 0;
      taken = 0;
      each = recursion_from_All IsRecord moved (All-permutation IsRecord records moved (IsPermutation-sym moved records moves) (All-from_recursion IsRecord records each));
      parts = omega (arith, moved_length moved records moves);
      spares = omega arith;
      few = omega arith;
      rest = omega (arith, same);
    }

pub IsCounted-more : (whole limit : ℕ) (r : Record) (left : List Record) (spare uncounted : ℕ) → IsCounted whole limit (r ∷ left) spare uncounted → IsCounted whole limit left (spare - length (line r)) (uncounted - message_len r)
IsCounted-more whole limit r left spare uncounted was = record {
  counted = was.counted + length (line r);
  taken = was.taken + message_len r;
  each = was.each.1;
  parts = omega (arith, was.parts, length-append (line r) (lines left));
  spares = omega (arith, was.spares);
  few = omega (arith, was.few, message_short r was.each.0);
  rest = omega (arith, was.rest, sum_by-cons message_len r left);
}

-- where four times what the records left take is less than what is spared, all lines fit
pub fits_early : (whole limit : ℕ) (left : List Record) (spare uncounted : ℕ) → limit ≤ 1073741824 → IsCounted whole limit left spare uncounted → uncounted < spare / 4 → whole ≤ limit
fits_early whole limit left spare uncounted low was few =
    omega (arith, low, few, was.parts, was.spares, was.few, was.rest, lines_length left was.each)
