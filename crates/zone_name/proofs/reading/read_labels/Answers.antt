use Rattle.zone_name.proofs.Common.{Ok, ap, arith, length, nat_tests, nil_from_length, sym, ◌<◌, ◌∙◌, ◌≡◌}
use Rattle.zone_name.proofs.InOctets.Pushing.{held_none, labels_of-none}
use Rattle.zone_name.proofs.Spelling.Ahead.{dot_seen, none_seen}
use Rattle.zone_name.proofs.Spelling.Steps.{Reads-bad, Reads-label, Reads-relative, Reads-start}
use Rattle.zone_name.proofs.reading.read_labels.Goals as goal

pub loop-rest-init : goal.loop-rest-init
loop-rest-init c = (
  held_none c.args.letters _ c.requires,
  Reads-start c.args.letters c.args.text.now _ _ (grind (arith, nat_tests, c.is_empty.ensures, c.if-is_empty.false)) (labels_of-none _ c.requires) c.new-label.ensures,
)

pub loop-rest-preserved-in-Some : goal.loop-rest-preserved-in-Some
loop-rest-preserved-in-Some c = (
  c.append_label.ensures.holds,
  Reads-label c.args.letters c.args.text.now _ _ c.loop-rest.is_too_long c.append_label.result c.loop-rest.label.items c.loop-rest.rest.now c.in-Some.after.now c.clear.new.self.items c.loop-rest.invariant.1
      (grind (arith, nat_tests, c.is_empty-in-Some.ensures, c.if-is_empty-2.false)) (dot_seen _ _ c.in-Some.ensures.cases.0 c.in-Some.ensures.cases.1) (rw c.as_slice.ensures.value at c.append_label.ensures.joins) c.clear.ensures,
)

pub returns-in_default-next_unit : goal.returns-in_default-next_unit
returns-in_default-next_unit c =
    let some : 0 < length c.loop-rest.rest.now = grind (arith, nat_tests, c.is_empty-in-loop-rest.ensures, c.loop-rest-test.true) in
    record { holds = c.loop-rest.invariant.0; labels = tt; fault = Reads-bad c.args.letters c.args.text.now _ c.loop-rest.is_too_long c.loop-rest.label.items c.loop-rest.rest.now c.loop-rest.invariant.1 (none_seen c.loop-rest.rest.now c.next_unit.result c.next_unit.ensures some c.in_default-next_unit.not-Octet) }

pub returns-then-not-is_absolute-clause-labels : goal.returns-then-not-is_absolute-clause-labels
returns-then-not-is_absolute-clause-labels c =
    let some : 0 < length c.loop-rest.label.items = grind (arith, nat_tests, c.is_empty-is_absolute.ensures, c.if-not-is_absolute.true) in
    let none : length c.loop-rest.rest.now ≡ 0 = grind (arith, nat_tests, c.is_empty-in-loop-rest.ensures, c.loop-rest-test.false) in
    let found = Reads-relative c.args.letters c.args.text.now _ _ c.loop-rest.is_too_long c.append_label-then-not-is_absolute.result c.loop-rest.label.items c.loop-rest.rest.now c.loop-rest.invariant.1 some (nil_from_length _ none) (rw c.as_slice-then-not-is_absolute.ensures.value at c.append_label-then-not-is_absolute.ensures.joins) in
    (found.0, found.1 ∙ ap (λ w. Ok (found.0, w)) (sym c.if-not-is_absolute.true), found.2)
