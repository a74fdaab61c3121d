-- What records take in messages, told by the octets that keep them.
use Rattle.zone_set.proofs.Common.{AreAllKept, Bool, Entry, IsPermutation, List, Record, [], all_records, ap, arith, common_steps, dedup, dedup_from, entry_record, flat_map, length, length-append, length-map, length_permutation, message_len, message_octets, refl, stored, subst, sum_by-IsPermutation, sym, ℕ, ◌+◌, ◌∙◌, ◌∷◌, ◌≡◌, ◌≤◌}
use Rattle.std.proofs.lemmas.List.Sums.{sum_by-cons}

-- a record takes one octet more in a message than what keeps it
stored_len : (r : Record) → message_len r ≡ length (stored r) + 1
stored_len r = grind (arith, common_steps)

kept_len : (records : List Record) → message_octets records ≡ length (flat_map stored records) + length records
kept_len [] = refl
kept_len (r ∷ records) = omega (arith, sum_by-cons message_len r records, stored_len r, length-append (stored r) (flat_map stored records), kept_len records)

-- so do those that octets keep alone, each
pub alone_len : (class : ℕ) (octets : List ℕ) (es : List Entry) → AreAllKept class octets (all_records class octets es) → message_octets (all_records class octets es) ≡ length octets + length es
alone_len class octets es (kept, are, moves) =
    let same : message_octets (all_records class octets es) ≡ message_octets kept = sum_by-IsPermutation message_len kept (all_records class octets es) moves in
    omega (arith, same, kept_len kept, ap length are.kept, length_permutation _ _ moves, length-map es (entry_record class octets))

module _ (same : Entry → Entry → Bool) where
  fewer : (k : Entry) (es : List Entry) → length (dedup_from same k es) ≤ length es + 1
  fewer k [] = omega arith
  fewer k (x ∷ es) = grind (arith, fewer k es, fewer x es)

  all_kept : (k : Entry) (es : List Entry) → length (dedup_from same k es) ≡ length es + 1 → dedup_from same k es ≡ k ∷ es
  all_kept k [] is = refl
  all_kept k (x ∷ es) is = grind (arith, fewer k es, all_kept x es)

  -- where as many are left as there were, none was dropped
  none_dropped : (es : List Entry) → length (dedup same es) ≡ length es → dedup same es ≡ es
  none_dropped [] is = refl
  none_dropped (e ∷ es) is = all_kept e es (omega (arith, is))

  pub moved_whole : (es fs gs : List Entry) → IsPermutation es fs → length fs ≡ length es → gs ≡ dedup same fs → length gs ≡ length es → IsPermutation es gs
  moved_whole es fs gs moves count left as_many =
      subst (IsPermutation es) (sym (left ∙ none_dropped fs (ap length (sym left) ∙ as_many ∙ sym count))) moves
