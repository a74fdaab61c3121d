-- Entries of which those of equal records were dropped, or that were moved.
use Rattle.zone_set.proofs.Common.{All, All-from_recursion, All-permutation, AllByRecursion, AreCompatible, AreNeighbours, Bool, Entry, Has, IsEntry, IsLinked, IsPermutation, IsPermutation-sym, IsRecord, List, Record, SameRecords, [], all_records, ap, append_assoc, arith, bytes_eq-Decides, common_steps, dedup, dedup_from, entry_record, false, false≢true, from_be_bytes-to_be_bytes_2, inl, inr, is_repeat, length, length-append, map, read_record, recursion_from_All, refl, span, span_len, stored, subst, sym, take, take_at, true, ℕ, ◌++◌, ◌==◌, ◌∙◌, ◌∷◌, ◌≡◌}
use Rattle.std.specs.Prelude.{if◌then◌else◌}
use Rattle.std.proofs.lemmas.List.Filters.{All-dedup}
use Rattle.zone_set.proofs.Holding.Adding.{classes}
use Rattle.zone_set.proofs.Ordering.Neighbours.{AreCompatible-from_neighbours}
use Rattle.zone_set.proofs.Storage.Storing.{each_map, read_stored}

-- so many octets keep a record
pub span_len-stored : (r : Record) (after : List ℕ) → IsRecord r → span_len (stored r ++ after) ≡ length (stored r)
span_len-stored r after whole = grind (arith, common_steps, append_assoc, from_be_bytes-to_be_bytes_2, take_at, length-append)

-- what keeps a linked entry's record is its span
pub span_of : (class : ℕ) (octets : List ℕ) (e : Entry) → IsLinked class octets e → span octets e.at ≡ stored (entry_record class octets e)
span_of class octets e linked =
    let r = entry_record class octets e in
    ap (λ l. take (span_len l) l) linked.stands.1
    ∙ ap (λ n. take n (stored r ++ linked.stands.0)) (span_len-stored r linked.stands.0 linked.whole)
    ∙ take_at (stored r) linked.stands.0 (length (stored r)) refl

then_true : (b c : Bool) → (if b then c else false) ≡ true → c ≡ true
then_true true c is = is
then_true false c is = absurd (false≢true is)

-- octets that are the same keep one record
pub repeat_is : (class : ℕ) (octets : List ℕ) (a b : Entry) → IsLinked class octets a → IsLinked class octets b → is_repeat octets a b ≡ true → entry_record class octets a ≡ entry_record class octets b
repeat_is class octets a b is_a is_b same =
    let r = entry_record class octets a in
    let s = entry_record class octets b in
    let spans : span octets a.at ≡ span octets b.at = (bytes_eq-Decides (span octets a.at) (span octets b.at)).0 (then_true (a.hint == b.hint) _ same) in
    let kept : stored r ≡ stored s = sym (span_of class octets a is_a) ∙ spans ∙ span_of class octets b is_b in
    sym (read_stored r [] is_a.whole) ∙ ap (λ l. read_record class (l ++ [])) kept ∙ read_stored s [] is_b.whole

module _ (f : Entry → Record) where
  abbrev IsHeld : List Record → Entry → Type 0
  IsHeld held e = Has held (f e)

  each_in : (es : List Entry) (held : List Record) → ((r : Record) → Has (map f es) r → Has held r) → AllByRecursion (IsHeld held) es
  each_in [] held holds = tt
  each_in (e ∷ es) held holds = (holds (f e) (inl refl), each_in es held (λ r has. holds r (inr has)))

  told_each : (es : List Entry) (held : List Record) → AllByRecursion (IsHeld held) es → (r : Record) → Has (map f es) r → Has held r
  told_each [] held each r has = absurd has
  told_each (e ∷ es) held each r has = grind (arith, told_each es held each.1 r)

  -- what is left of entries is of records that they have
  fewer_has : (es fs : List Entry) → ((P : Entry → Type 0) → All P fs → All P es) → (r : Record) → Has (map f es) r → Has (map f fs) r
  fewer_has es fs left = told_each es (map f fs) (recursion_from_All (IsHeld (map f fs)) es (left (IsHeld (map f fs)) (All-from_recursion (IsHeld (map f fs)) fs (each_in fs (map f fs) (λ r has. has)))))

  -- entries that were moved are of the same records
  pub SameRecords-moved : (es fs : List Entry) → IsPermutation es fs → SameRecords (map f fs) (map f es)
  SameRecords-moved es fs moves r = (fewer_has fs es (λ P. All-permutation P es fs moves) r, fewer_has es fs (λ P. All-permutation P fs es (IsPermutation-sym es fs moves)) r)

  module _ (same : Entry → Entry → Bool) (P : Entry → Type 0) (equal : (a b : Entry) → P a → P b → same a b ≡ true → f a ≡ f b) where
    enough : (k : Entry) (es : List Entry) → AllByRecursion P (k ∷ es) → (r : Record) → Has (map f (k ∷ es)) r → Has (map f (dedup_from same k es)) r
    enough k [] each r has = has
    enough k (x ∷ es) each r has = grind (arith, enough k es (each.0, each.1.1) r, enough x es each.1 r, equal x k each.1.0 each.0)

    -- so are those that are left when repeats are dropped
    pub SameRecords-dedup : (es : List Entry) → AllByRecursion P es → SameRecords (map f (dedup same es)) (map f es)
    SameRecords-dedup [] each r = (λ has. has, λ has. has)
    SameRecords-dedup (e ∷ es) each r = (fewer_has (dedup same (e ∷ es)) (e ∷ es) (λ Q. All-dedup same Q (e ∷ es)) r, enough e es each r)

-- entries that were put in another order
pub each_moved : (base : List (List ℕ)) (class : ℕ) (octets : List ℕ) (es fs : List Entry) → AllByRecursion (IsEntry base class octets) es → IsPermutation es fs → AllByRecursion (IsEntry base class octets) fs
each_moved base class octets es fs each moves = recursion_from_All (IsEntry base class octets) fs (All-permutation (IsEntry base class octets) es fs moves (All-from_recursion (IsEntry base class octets) es each))

-- and of which repeats were dropped
module _ (base : List (List ℕ)) (class : ℕ) (octets : List ℕ) (es fs gs : List Entry) (each : AllByRecursion (IsEntry base class octets) es) (moves : IsPermutation es fs) (left : gs ≡ dedup (is_repeat octets) fs) where
  equal : (a b : Entry) → IsEntry base class octets a → IsEntry base class octets b → is_repeat octets a b ≡ true → entry_record class octets a ≡ entry_record class octets b
  equal a b is_a is_b = repeat_is class octets a b is_a.linked is_b.linked

  pub each_left : AllByRecursion (IsEntry base class octets) gs
  each_left = subst (AllByRecursion (IsEntry base class octets)) (sym left) (recursion_from_All (IsEntry base class octets) (dedup (is_repeat octets) fs) (All-dedup (is_repeat octets) (IsEntry base class octets) fs (All-from_recursion (IsEntry base class octets) fs (each_moved base class octets es fs each moves))))

  pub same_left : SameRecords (all_records class octets gs) (all_records class octets es)
  same_left r =
      let first = SameRecords-moved (entry_record class octets) es fs moves r in
      let second = SameRecords-dedup (entry_record class octets) (is_repeat octets) (IsEntry base class octets) equal fs (each_moved base class octets es fs each moves) r in
      grind (arith, left, first, second)

-- entries of which the neighbours show it are of records that can stand together
pub AreCompatible-from_entries : (base : List (List ℕ)) (class : ℕ) (octets : List ℕ) (es : List Entry) → AllByRecursion (IsEntry base class octets) es → AreNeighbours (all_records class octets es) → AreCompatible (all_records class octets es)
AreCompatible-from_entries base class octets es each next = AreCompatible-from_neighbours class (all_records class octets es) (each_map IsRecord (entry_record class octets) (λ e is. is.linked.whole) es each) (classes class octets es) next
