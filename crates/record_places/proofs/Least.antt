-- The line of the entry that first states a record is one, and the least.
use Rattle.zone_set.proofs.Common.{◌≡◌, ℕ, ◌+◌, ◌≤◌, ◌∙◌, ◌++◌, ◌∷◌, ◌==◌, AllByRecursion, AllByRecursion-back, Has, List, Placed, Record, [], ap, ap₂, append_assoc, arith, records_of, refl, subst, sym, ⊤}
use Rattle.std.specs.Prelude.{count_by}
use Rattle.zone_engine.proofs.Refusals.Parting.{Has-part, Partings, first, same, second, two_partings}
use Rattle.zone_name.specs.Common.{Labels}
use Rattle.zone_rdata.specs.declared.fault.Place.TheVariants.{Line}
use Rattle.zone_text.specs.Entries.{Entry, entry_of}
use Rattle.zone_text.specs.Tokens.{Token, text}
use Rattle.zone_words.specs.WithWords.{EachWithWords, FileStatesWithWords, states_none, states_one}
use Rattle.record_places.specs.FirstLines.{EachFirstOn, IsFirstOn}

abbrev At : Record → ℕ → Placed
At r line = record { rr = r; place = Line line }

-- ---- one line

one_first : (placed : List Placed) (r : Record) (l m : ℕ) → IsFirstOn placed r l → IsFirstOn placed r m → l ≡ m
one_first placed r l m a b = by (two_partings a.before b.before a.others b.others (At r l) (At r m) (sym a.parts ∙ b.parts))
  where
    by : Partings a.before b.before (At r l) (At r m) → l ≡ m
    by (same is at) = let lines : Line l ≡ Line m = ap (λ (p : Placed). p.place) at in cc
    by (first between is) = absurd (b.first (subst (λ ps. Has (records_of ps) r) (sym is) (Has-part a.before between (At r l))))
    by (second between is) = absurd (a.first (subst (λ ps. Has (records_of ps) r) (sym is) (Has-part b.before between (At r m))))

pub one_list : (placed : List Placed) (records : List Record) (a b : List ℕ) → EachFirstOn placed records a → EachFirstOn placed records b → a ≡ b
one_list placed [] a b one other = one ∙ sym other
one_list placed (r ∷ records) [] b one other = absurd one
one_list placed (r ∷ records) (l ∷ a) [] one other = absurd other
one_list placed (r ∷ records) (l ∷ a) (m ∷ b) one other =
    ap₂ (λ (n : ℕ) (ns : List ℕ). n ∷ ns) (one_first placed r l m one.0 other.0) (one_list placed records a b one.1 other.1)

-- ---- lines ascend

-- on this line or a later one
abbrev IsFrom : ℕ → Placed → Type 0
IsFrom line p = (n : ℕ) × (p.place ≡ Line n) × (line ≤ n)

abbrev LinesAscend : List Placed → Type 0
LinesAscend [] = ⊤
LinesAscend (p ∷ placed) = ((line : ℕ) → p.place ≡ Line line → AllByRecursion (IsFrom line) placed) × LinesAscend placed

from_earlier : (m n : ℕ) (placed : List Placed) → m ≤ n → AllByRecursion (IsFrom n) placed → AllByRecursion (IsFrom m) placed
from_earlier m n [] le each = tt
from_earlier m n (p ∷ placed) le each = let (line, is, later) = each.0 in ((line, is, omega arith), from_earlier m n placed le each.1)

each_ascends : (cased origin : Labels) (before : List Entry) (line : ℕ) (entries : List (List Token)) (placed : List Placed) → EachWithWords cased origin before line entries placed → AllByRecursion (IsFrom line) placed × LinesAscend placed
each_ascends cased origin before line [] placed stated = subst (λ ps. AllByRecursion (IsFrom line) ps × LinesAscend ps) (sym stated) (tt, tt)
each_ascends cased origin before line (tokens ∷ entries) placed (states_none nothing others) =
    let next = line + count_by (λ c. c == 10) (text tokens) in
    let (later, up) = each_ascends cased origin (entry_of line tokens ∷ before) next entries placed others in
    (from_earlier line next placed (omega arith) later, up)
each_ascends cased origin before line (tokens ∷ entries) placed (states_one p more states stands is others) =
    let next = line + count_by (λ c. c == 10) (text tokens) in
    let (later, up) = each_ascends cased origin (entry_of line tokens ∷ before) next entries more others in
    let from : AllByRecursion (IsFrom line) more = from_earlier line next more (omega arith) later in
    subst (λ ps. AllByRecursion (IsFrom line) ps × LinesAscend ps) (sym is) (
      ((line, stands, omega arith), from),
      ((λ n at. subst (λ k. AllByRecursion (IsFrom k) more) (one_line n at) from), up),
    )
  where
    one_line : (n : ℕ) → p.place ≡ Line n → line ≡ n
    one_line n at = let both : Line line ≡ Line n = sym stands ∙ at in cc

in_order : (before between others : List Placed) (p q : Placed) (l m : ℕ) → p.place ≡ Line l → q.place ≡ Line m → LinesAscend (before ++ p ∷ (between ++ q ∷ others)) → l ≤ m
in_order [] between others p q l m on_l on_m up =
    let (n, is, le) = (AllByRecursion-back (IsFrom l) between (q ∷ others) (up.0 l on_l)).0 in
    let one : n ≡ m = let both : Line n ≡ Line m = sym is ∙ on_m in cc in
    omega arith
in_order (x ∷ before) between others p q l m on_l on_m up = in_order before between others p q l m on_l on_m up.1

pub least_line : (cased origin : Labels) (octets : List ℕ) (placed before others : List Placed) (r : Record) (line other : ℕ) → FileStatesWithWords cased origin octets placed → IsFirstOn placed r line → placed ≡ before ++ At r other ∷ others → line ≤ other
least_line cased origin octets placed before others r line other states it parts = by (two_partings it.before before it.others others (At r line) (At r other) (sym it.parts ∙ parts))
  where
    by : Partings it.before before (At r line) (At r other) → line ≤ other
    by (same is at) = let lines : Line line ≡ Line other = ap (λ (p : Placed). p.place) at in let one : line ≡ other = cc in omega arith
    by (first between is) =
        let order : placed ≡ it.before ++ At r line ∷ (between ++ At r other ∷ others) =
        parts ∙ ap (λ ps. ps ++ At r other ∷ others) is ∙ append_assoc it.before (At r line ∷ between) (At r other ∷ others) in
        in_order it.before between others (At r line) (At r other) line other refl refl
        (subst LinesAscend order (each_ascends cased origin [] 1 _ placed states.each).1)
    by (second between is) = absurd (it.first (subst (λ ps. Has (records_of ps) r) (sym is) (Has-part before between (At r other))))
