use Rattle.zone_set.proofs.Common.{AllByRecursion, IsEntry, arith, eqb-true, err_from_is_err_and, refl, subst}
use Rattle.zone_set.proofs.Lists.Listing.{alone_kept, IsSettledAs-sorted}
use Rattle.zone_set.specs.ZoneList.{memory}
use Rattle.zone_set.proofs.kept_list.settle_parts.Goals as goal

pub len_of_entries-message_len-requires : goal.len_of_entries-message_len-requires
len_of_entries-message_len-requires g c = (
  rw (c.as_slice-then-settle.ensures.value, c.as_slice-then-settle-2.ensures.value) (rw c.as_slice.ensures.value at c.settle.ensures.each),
  rw (c.as_slice-then-settle.ensures.value, c.as_slice-then-settle-2.ensures.value) (λ all.
      alone_kept _ _ _ c.requires.1.1 (c.settle.ensures.whole (omega (arith, eqb-true _ _ all, c.len.ensures, c.len-listed.ensures, c.args.entries.ok, c.settle.new.entries.ok)))),
)

pub of_sorted-requires : goal.of_sorted-requires
of_sorted-requires g c = record {
  holds = record {
    each = subst (λ b. AllByRecursion (IsEntry b c.args.class c.args.octets.items) c.settle.new.entries.items) c.requires.0 (rw c.as_slice.ensures.value at c.settle.ensures.each);
    compatible = rw c.as_slice.ensures.value at (c.if-settle.ensures.compatible refl);
  };
  counts = rw (c.as_slice-then-settle.ensures.value, c.as_slice-then-settle-2.ensures.value) at c.len_of_entries-message_len.ensures;
  kept = λ all. alone_kept _ _ _ c.requires.1.1 (c.settle.ensures.whole (omega (arith, eqb-true _ _ all, c.len.ensures, c.len-listed.ensures, c.args.entries.ok, c.settle.new.entries.ok)));
}

pub returns-in_err-held-clause-refused : goal.returns-in_err-held-clause-refused
returns-in_err-held-clause-refused g c =
    let told = err_from_is_err_and c.from_residual.result c.from_residual.ensures.1 in
    rw (told.1, told.2) memory

pub returns-then-settle-clause-taken : goal.returns-then-settle-clause-taken
returns-then-settle-clause-taken g c =
    rw c.requires.1.0 (IsSettledAs-sorted c.args.class c.args.base c.args.octets.items c.args.entries.items c.settle.new.entries.items c.args.places c.in_ok-held.held c.requires.1.1
    (rw c.as_slice.ensures.value at c.settle.ensures.same) (rw c.as_slice.ensures.value at (c.if-settle.ensures.compatible refl)) c.in_ok-held.ensures)
