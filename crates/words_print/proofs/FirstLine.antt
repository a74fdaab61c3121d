-- The first line of octets.
use Rattle.std.proofs.Common.{◌≡◌, ◌≢◌, ℕ, zero, suc, ◌<◌, ◌==◌, true, List, [], ◌∷◌, length, take, drop, sym, ap, arith}
use Rattle.std.proofs.lemmas.Bool.{eqb-true}
use Rattle.std.proofs.lemmas.Bool.Decides.{nat_tests}
use Rattle.std.proofs.lemmas.List.{take-append-drop}
use Rattle.memchr.specs.Find.{Nowhere, Passes, is_byte}
use Rattle.zone_print.specs.Laws.{EndsWithItsFeed, HasNoFeed}
use Rattle.words_print.specs.Machine.Found.{IsFirstLine}

no_feed : (c : ℕ) → ((c == 10) ≡ true → ⊥) → c ≢ 10
no_feed c other same = other (grind (arith, nat_tests))

line_ends : (octets : List ℕ) (k : ℕ) → k < length octets → Nowhere (Passes (is_byte 10) octets) 0 k → Passes (is_byte 10) octets k → EndsWithItsFeed (take (suc k) octets)
line_ends [] k inside before here = absurd (omega (arith, inside))
line_ends (c ∷ octets) zero inside before here = record {
  front = [];
  split = ap (λ x. x ∷ []) (eqb-true c 10 here);
  others = tt;
}
line_ends (c ∷ octets) (suc k) inside before here =
    let rest = line_ends octets k (omega (arith, inside)) (λ i low high is. before (suc i) (omega arith) (omega (arith, high)) is) here in
    record {
      front = c ∷ rest.front;
      split = ap (λ t. c ∷ t) rest.split;
      others = (no_feed c (before zero (omega arith) (omega arith)), rest.others);
    }

pub first_line : (octets : List ℕ) (k n : ℕ) → n ≡ suc k → k < length octets → Nowhere (Passes (is_byte 10) octets) 0 k → Passes (is_byte 10) octets k → IsFirstLine octets (take n octets) (drop n octets)
first_line octets k n same inside before here = record {
  parted = sym (take-append-drop n octets);
  ends = rw same (line_ends octets k inside before here);
}

pub no_line : (octets : List ℕ) → Nowhere (Passes (is_byte 10) octets) 0 (length octets) → HasNoFeed octets
no_line [] none = tt
no_line (c ∷ octets) none = (no_feed c (none zero (omega arith) (omega arith)), no_line octets (λ i low high is. none (suc i) (omega arith) (omega (arith, high)) is))
