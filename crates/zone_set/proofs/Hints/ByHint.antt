-- Hints that differ tell that a record stands next to another.
use Rattle.zone_set.proofs.Common.{Entry, IsEntry, IsHint, List, StandNext, after, arith, before, entry_record, soa, within, ℕ, ◌<◌, ◌≡◌}
use Rattle.zone_set.proofs.Holding.Putting.{comparable}

-- an SOA has no hint but the least
soa_hint : (base owner : List (List ℕ)) (kind hint : ℕ) → kind ≡ 6 → IsHint base owner kind hint → hint ≡ 0
soa_hint base owner kind hint is (soa _ none) = none
soa_hint base owner kind hint is (before other _ _) = absurd (other is)
soa_hint base owner kind hint is (within _ other _ _) = absurd (other is)
soa_hint base owner kind hint is (after other _ _ _) = absurd (other is)

-- where the hints differ, they decide, and no octets have to be looked at
pub StandNext-by_hint : (base : List (List ℕ)) (class : ℕ) (octets : List ℕ) (a b : Entry) → IsEntry base class octets a → IsEntry base class octets b → a.hint < b.hint → StandNext (entry_record class octets a) (entry_record class octets b)
StandNext-by_hint base class octets a b is_a is_b lt =
    let apart = comparable base octets (entry_record class octets b) b.hint is_b.linked.whole is_b.hinted a is_a in
    record {
      before = apart.before lt;
      one_ttl = λ (one, _). let same : a.hint ≡ b.hint = apart.one_set one in omega (arith, lt, same);
      one_soa = λ (soa_b, soa_a, _).
          let low : a.hint ≡ 0 = soa_hint base _ _ a.hint soa_a is_a.hinted in
          let high : b.hint ≡ 0 = soa_hint base _ _ b.hint soa_b is_b.hinted in
          omega (arith, lt, low, high);
    }
