-- A record is read back from the octets that keep it, and stays where more are appended.
use Rattle.zone_set.proofs.Common.{AllByRecursion, AllByRecursion-append, AllByRecursion-back, AllByRecursion-front, map, Entry, IsEntry, IsHint, IsLinked, IsRecord, IsStored, List, Record, [], all_records, ap, append-nil, append_assoc, arith, common_steps, drop, drop-append-le, drop_at, entry_record, from_be_bytes-to_be_bytes_2, from_be_bytes-to_be_bytes_4, labels_of-wire, length, read_record, record_from, refl, stored, sym, take_at, ℕ, ◌++◌, ◌<◌, ◌∙◌, ◌∷◌, ◌≡◌}
use Rattle.zone_rdata.proofs.Lists.{each_weaker}

-- the record whose octets these begin with
pub read_stored : (r : Record) (after : List ℕ) → IsRecord r → read_record r.class (stored r ++ after) ≡ r
read_stored r after whole = grind (arith, append_assoc, from_be_bytes-to_be_bytes_2, from_be_bytes-to_be_bytes_4, take_at, labels_of-wire, drop_at)

-- a place at which a record stands is within the octets
pub place_within : (class : ℕ) (octets : List ℕ) (at : ℕ) → IsStored class octets at → at < length octets
place_within class octets at (after, is) = grind (arith, common_steps)

module _ (class : ℕ) (octets more : List ℕ) where
  further : (at : ℕ) → (stands : IsStored class octets at) → drop at (octets ++ more) ≡ stored (record_from class octets at) ++ (stands.0 ++ more)
  further at stands = grind (arith, common_steps, place_within, drop-append-le, append_assoc)

  -- after more octets the same record stands there
  pub record_kept : (e : Entry) → IsLinked class octets e → entry_record class (octets ++ more) e ≡ entry_record class octets e
  record_kept e linked = ap (read_record class) (further e.at linked.stands) ∙ read_stored (entry_record class octets e) (linked.stands.0 ++ more) linked.whole

  linked_kept : (e : Entry) → IsLinked class octets e → IsLinked class (octets ++ more) e
  linked_kept e linked = grind (arith, record_kept e linked, further e.at linked.stands)

  module _ (base : List (List ℕ)) where
    entry_kept : (e : Entry) → IsEntry base class octets e → IsEntry base class (octets ++ more) e
    entry_kept e entry = grind (arith, linked_kept e entry.linked, record_kept e entry.linked)

    pub each_kept : (es : List Entry) → AllByRecursion (IsEntry base class octets) es → AllByRecursion (IsEntry base class (octets ++ more)) es
    each_kept = each_weaker (IsEntry base class (octets ++ more)) entry_kept

    pub records_kept : (es : List Entry) → AllByRecursion (IsEntry base class octets) es → all_records class (octets ++ more) es ≡ all_records class octets es
    records_kept [] each = refl
    records_kept (e ∷ es) each =
        ap (λ r. r ∷ all_records class (octets ++ more) es) (record_kept e each.0.linked)
        ∙ ap (λ rs. entry_record class octets e ∷ rs) (records_kept es each.1)

-- a record that is appended stands where the octets ended
module _ (octets : List ℕ) (r : Record) (whole : IsRecord r) (e : Entry) (at : e.at ≡ length octets) where
  ending : drop e.at (octets ++ stored r) ≡ stored r ++ []
  ending = ap (λ n. drop n (octets ++ stored r)) at ∙ drop_at octets (stored r) (length octets) refl ∙ sym (append-nil (stored r))

  pub record_appended : entry_record r.class (octets ++ stored r) e ≡ r
  record_appended = ap (read_record r.class) ending ∙ read_stored r [] whole

  pub entry_appended : (base : List (List ℕ)) → IsHint base r.owner r.kind e.hint → IsEntry base r.class (octets ++ stored r) e
  entry_appended base hinted = grind (arith, ending, record_appended)

pub all_with : {X : Type 0} (P : X → Type 0) (before after : List X) (x : X) → AllByRecursion P (before ++ after) → P x → AllByRecursion P (before ++ x ∷ after)
all_with P before after x each one = grind (arith, AllByRecursion-front, AllByRecursion-back, AllByRecursion-append)

-- what holds of each element, of what is made of it
pub each_map : {X Y : Type 0} {P : X → Type 0} (Q : Y → Type 0) (f : X → Y) → ((x : X) → P x → Q (f x)) → (xs : List X) → AllByRecursion P xs → AllByRecursion Q (map f xs)
each_map Q f tells [] each = tt
each_map Q f tells (x ∷ xs) each = (tells x each.0, each_map Q f tells xs each.1)
