-- A record that is put among entries: where it is sought, what its neighbours tell, and what is held with it.
use Rattle.zone_set.proofs.Common.{Greater, Less, All, All-from_recursion, AllByRecursion, AllByRecursion-back, AllByRecursion-front, Ascends, Bool, Entry, HasOtherTtl, HoldsEntries, IsComparable, IsEntry, IsHint, IsParting, IsPut, IsRecord, List, Record, all_records, ap, arith, canonical_cmp, covered_octets, data_of, entry_record, false, is_lt, length, map, map-append, recursion_from_All, stored, subst, sym, true, ℕ, ◌++◌, ◌∙◌, ◌∷◌, ◌≡◌, ◌≢◌}
use Rattle.zone_set.proofs.Holding.Adding.{class_of}
use Rattle.zone_set.proofs.Ordering.Between.{is_less, not_after, parted, Parts}
use Rattle.zone_set.proofs.Hints.HintOrder.{hint_orders, one_hint}
use Rattle.zone_rdata.proofs.Lists.{each_weaker}
use Rattle.zone_set.proofs.Storage.Storing.{all_with, each_kept, each_map, entry_appended, record_appended, records_kept}

-- an entry of another hint is of another set, and so of another record
module _ (octets : List ℕ) (h : ℕ) (r : Record) (e : Entry) (comparable : IsComparable octets h r e) (differ : e.hint ≢ h) where
  pub other_hint_other_set : HasOtherTtl (entry_record r.class octets e) r → ⊥
  other_hint_other_set other = differ (comparable.one_set other.0)

  pub other_hint_other_record : entry_record r.class octets e ≡ r → ⊥
  other_hint_other_record same = differ (comparable.one_set (record { owner = ap (λ s. s.owner) same; kind = ap (λ s. s.kind) same; covers = ap (λ s. covered_octets (data_of s)) same }))

module _ (base : List (List ℕ)) (octets : List ℕ) (r : Record) where
  pub comparable : (h : ℕ) → IsRecord r → IsHint base r.owner r.kind h → (e : Entry) → IsEntry base r.class octets e → IsComparable octets h r e
  comparable h whole is e entry =
      let s = entry_record r.class octets e in
      record {
        linked = entry.linked;
        before = λ lt. hint_orders base s r e.hint h entry.linked.whole.owner whole.owner entry.hinted is lt;
        after = λ lt. hint_orders base r s h e.hint whole.owner entry.linked.whole.owner is entry.hinted lt;
        one_set = λ one. one_hint base r.owner r.kind e.hint h whole.owner (rw (one.owner, one.kind) at entry.hinted) is;
      }

  pub each_comparable : (h : ℕ) → IsRecord r → IsHint base r.owner r.kind h → (es : List Entry) → AllByRecursion (IsEntry base r.class octets) es → AllByRecursion (IsComparable octets h r) es
  each_comparable h whole is = each_weaker (IsComparable octets h r) (comparable h whole is)

  -- the record may be compared with those of the entries
  pub all_comparable : (h : ℕ) → IsRecord r → IsHint base r.owner r.kind h → (es : List Entry) → AllByRecursion (IsEntry base r.class octets) es → All (IsComparable octets h r) es
  all_comparable h whole is es each = All-from_recursion (IsComparable octets h r) es (each_comparable h whole is es each)

  abbrev goes_after : Entry → Bool
  goes_after e = is_lt (canonical_cmp (entry_record r.class octets e) r)

  -- what stands before its place and what does not
  pub parts_at : (es before after : List Entry) → HoldsEntries base r.class octets es → before ++ after ≡ es → IsParting goes_after es before after → Parts (all_records r.class octets es) (map (entry_record r.class octets) before) (map (entry_record r.class octets) after) r
  parts_at es before after holds whole parting =
      let f = entry_record r.class octets in
      let both = parting (parted f r es holds.compatible.ascend) in
      record {
        compatible = holds.compatible;
        classes = λ s has. class_of r.class octets es s has;
        whole = ap (map f) (sym whole) ∙ map-append f before after;
        below = each_map (λ s. canonical_cmp s r ≡ Less) f (λ e is. is_less _ is) before (recursion_from_All (λ e. goes_after e ≡ true) before both.0);
        above = each_map (λ s. canonical_cmp r s ≢ Greater) f (λ e is. not_after r (f e) is) after (recursion_from_All (λ e. goes_after e ≡ false) after both.1);
      }

  -- the entries and one that was put among them
  module _ (es before after fs : List Entry) (e : Entry) (now : List ℕ) (holds : HoldsEntries base r.class octets es) (parts : before ++ after ≡ es) (whole : IsRecord r) (at : e.at ≡ length octets) (appended : now ≡ octets ++ stored r) (put : fs ≡ before ++ e ∷ after) where
    each_old : AllByRecursion (IsEntry base r.class octets) (before ++ after)
    each_old = subst (AllByRecursion (IsEntry base r.class octets)) (sym parts) holds.each

    pub each_put : IsHint base r.owner r.kind e.hint → AllByRecursion (IsEntry base r.class now) fs
    each_put hinted = grind (arith, all_with (IsEntry base r.class (octets ++ stored r)) before after e (each_kept r.class octets (stored r) base (before ++ after) each_old) (entry_appended octets r whole e at base hinted))

    pub records_put : all_records r.class now fs ≡ map (entry_record r.class octets) before ++ r ∷ map (entry_record r.class octets) after
    records_put = grind (arith, map-append, records_kept, AllByRecursion-front, each_old, record_appended, AllByRecursion-back)

    pub was_put : Ascends (map (entry_record r.class octets) before ++ r ∷ map (entry_record r.class octets) after) → IsPut (all_records r.class octets es) r true (all_records r.class now fs)
    was_put ascend = grind (arith, map-append, records_put)
