-- Lists of types have few items.
use Rattle.type_data.proofs.Common.{AllByRecursion, List, RawItem, ap, arith, each_below, get_or, length, length-map, lit<, refl, suc, zero, ℕ, ◌+◌, ◌<◌, ◌≡◌, ◌≤◌}
use Rattle.std.proofs.Common.{subst}
use Rattle.std.specs.List.Sorted.{IsStrictlyIncreasing}
use Rattle.zone_rdata.proofs.Common.{each_weaker}
use Rattle.zone_rdata.specs.Words.{IsKind}
use Rattle.type_data.specs.Kinds.Types.{PrintsPerhapsTypes, type_item}

rises : (xs : List ℕ) → IsStrictlyIncreasing xs → (k : ℕ) → k < length xs → k ≤ get_or xs k 0
rises xs up zero inside = omega arith
rises xs up (suc k) inside =
    let next : k + 1 ≡ suc k = omega arith in
    let step : get_or xs k 0 < get_or xs (suc k) 0 = subst (λ (i : ℕ). get_or xs k 0 < get_or xs i 0) next (up k (omega arith)) in
    let below = rises xs up k (omega arith) in
    omega (arith, step, below)

few_below : (bound : ℕ) (xs : List ℕ) (count : ℕ) → length xs ≡ count → 0 < bound → IsStrictlyIncreasing xs → AllByRecursion (λ n. n < bound) xs → length xs ≤ bound
few_below bound xs zero is some up low = omega (arith, is)
few_below bound xs (suc m) is some up low = omega (arith, is, rises xs up m (omega (arith, is)), each_below bound xs some low m)

pub types_few : (items : List RawItem) (octets : List ℕ) → PrintsPerhapsTypes items octets → length items ≤ 65536
types_few items octets printed =
    let low : AllByRecursion (λ n. n < 65536) printed.types = each_weaker (λ n. n < 65536) (λ (n : ℕ) (is : IsKind n). is.short) printed.types printed.kinds in
    let few = few_below 65536 printed.types (length printed.types) refl (lit< tt) printed.ascending low in
    omega (arith, few, ap length printed.words, length-map printed.types type_item)
