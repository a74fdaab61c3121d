-- The names that proofs here cite most: of definitions, and of std.
pub use Rattle.sorted_chunks.specs.Chunks.{IsParting, joined}
pub use Rattle.std.proofs.Common.{Bool, Bor, Equal, Greater, IsTrue, Less, List, MatchOption, None, Ok, Option, Ordering, Some, [], ap, append-nil, append_assoc, ap₂, arith, drop, eq-eqb, eqb-true, false, get_or, if◌then◌else◌, inl, inr, length, length-append, map, min, nat_cmp, nat_lt, ne_eqb, not, option_map, refl, reverse, rules, subst, suc, sym, take, true, zero, ℕ, ⊎_elim, ◌*◌, ◌++◌, ◌+◌, ◌-◌, ◌/◌, ◌<◌, ◌==◌, ◌^◌, ◌↔◌, ◌∙◌, ◌∷◌, ◌≡◌, ◌≢◌, ◌≤◌, ◌⊎◌}
pub use Rattle.std.proofs.Math.Seq.{drop-cons, map-set_same, take-length}
pub use Rattle.std.proofs.lemmas.Bool.{false≢true}
pub use Rattle.std.proofs.lemmas.Bool.Decides.{nat_tests}
pub use Rattle.std.proofs.lemmas.Cmp.{nat_cmp_total, nat_list_cmp_total, on_total, ranked, then_total, tied_itself}
pub use Rattle.std.proofs.lemmas.Grind.{common_steps}
pub use Rattle.std.proofs.lemmas.List.{drop-append-le, drop_at, length-drop, length-map, length-take-le, map-append, nil_from_length, reverse-append, reverse-reverse, take-append-drop, take_at, take_more_set}
pub use Rattle.std.proofs.lemmas.List.Elements.{All-from_recursion, recursion_from_All}
pub use Rattle.std.proofs.lemmas.List.Sorted.{All-permutation, IsPermutation-map, IsPermutation-put_mid, IsPermutation-refl, IsPermutation-sym, IsPermutation-trans, length_permutation, sum_by-IsPermutation}
pub use Rattle.std.proofs.lemmas.Map.Lookups.{CmpEqualImpliesEq, exact_bytes, exact_unsigned}
pub use Rattle.std.proofs.lemmas.Nat.{from_be_bytes-to_be_bytes_2, from_be_bytes-to_be_bytes_4}
pub use Rattle.std.proofs.lemmas.Result.{err_from_is_err_and}
pub use Rattle.std.proofs.lemmas.Slice.Eq.{bytes_eq-Decides}
pub use Rattle.std.specs.Cmp.{IsTotalOrder, nat_cmp_is}
pub use Rattle.std.specs.Cmp.Lexicographic.{bytes_decides, slice_cmp}
pub use Rattle.std.specs.Int.{from_be_bytes, w64}
pub use Rattle.std.specs.List.{All, AllByRecursion, dedup, dedup_from, flat_map}
pub use Rattle.std.specs.List.Sorted.{IsPartitionedBy, IsPermutation}
pub use Rattle.std.specs.Option.{IfSome, option_copied}
pub use Rattle.std.specs.Ordering.{MatchOrdering, is_lt, on, ordering_reverse, ordering_then, then_cmp}
pub use Rattle.std.specs.Prelude.{Err, IfErr, OnErr, Result, slice_index_or, ⊤}
pub use Rattle.zone_name.proofs.InOctets.Comparing.{then_assoc, then_equal}
pub use Rattle.zone_name.proofs.Texts.Lawful.{name_cmp-exact, name_cmp-total}
pub use Rattle.zone_name.proofs.InOctets.Octets.{labels_of-wire}
pub use Rattle.zone_name.proofs.InOctets.Pushing.{AllByRecursion-append, AllByRecursion-back, AllByRecursion-front}
pub use Rattle.zone_name.specs.Common.{AreOctets}
pub use Rattle.zone_name.specs.Name.{IsLabel, IsName, IsWithin, labels_of, wire}
pub use Rattle.zone_name.specs.Order.{label_cmp, name_cmp}
pub use Rattle.zone_rdata.proofs.Fields.FieldLaws.{AreLow, low_drop, low_take}
pub use Rattle.zone_rdata.specs.Lent.{placed_of, record_of}
pub use Rattle.zone_rdata.specs.Order.{data_cmp}
pub use Rattle.zone_rdata.specs.Record.{Data, IsRecord, Record, data_of}
pub use Rattle.zone_rdata.specs.declared.fault.Fault.{Fault}
pub use Rattle.zone_rdata.specs.declared.fault.Fault.TheVariants.{ClassMismatch, NoSoa, OutOfZone}
pub use Rattle.zone_rdata.specs.declared.fault.Place.{Place}
pub use Rattle.zone_rdata.specs.declared.fault.Place.TheVariants.{Whole}
pub use Rattle.zone_rdata.specs.declared.fault.Stop.{Stop}
pub use Rattle.zone_rdata.specs.declared.fault.Stop.TheVariants.{Memory, Refused}
pub use Rattle.zone_rdata.specs.declared.record.Placed.{Placed}
pub use Rattle.zone_set.specs.Builder.{Accepts, Adds, AddsEach, AreTwoSoas, HasNoSoa, IsLeastOutside, IsRefusedFor, OtherClass, OtherSoa, OtherTtl, StopsAdd, StopsFinish, fault, memory, no_soa, outside}
pub use Rattle.zone_set.specs.Machine.Bulk.{AreNeighbours, KeepsList, StandNext, is_repeat, listed, placed_at, span, span_len, with_hint}
pub use Rattle.zone_set.specs.Machine.Held.{AreAllKept, HasOtherTtl, HoldsEntries, IsComparable, IsEntry, IsFirstOutside, IsLinked, IsPut, KeepsSets, all_records, entry_record}
pub use Rattle.zone_set.specs.Machine.Hint.{AreDigits, IsHint, IsPutBefore, after, before, first_digits, soa, within}
pub use Rattle.zone_set.specs.Machine.LabelKey.{octets_key, owner_key}
pub use Rattle.zone_set.specs.Machine.Owner.{AreFirst, IsFirst}
pub use Rattle.zone_set.specs.Machine.Stored.{AreKept, IsStored, read_record, record_from, stored}
pub use Rattle.zone_set.specs.Message.{message_len, message_octets}
pub use Rattle.zone_set.specs.Order.{Ascends, canonical_cmp, soa_rank}
pub use Rattle.zone_set.specs.Refusal.{AllAccepted, records_of}
pub use Rattle.zone_set.specs.Zone.{AreCompatible, Has, InOneSet, IsZone, SameRecords, covered_octets}
pub use Rattle.zone_set.specs.ZoneList.{IsSettledAs, ListsAll, StopsListing, StopsSettling, refused}
pub use Rattle.zone_set.specs.declared.entry.Entry.{Entry}
