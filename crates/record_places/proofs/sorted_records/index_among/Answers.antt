use Rattle.std.proofs.Common.{◌≡◌, ◌+◌, ◌-◌, ◌/◌, ◌<◌, Some, ap, arith, false, length, sym, true, ◌∙◌}
use Rattle.zone_rdata.specs.Lent.{record_of}
use Rattle.zone_set.proofs.Holding.Together.{each_Has}
use Rattle.record_places.specs.Machine.SoFar.{records_in}
use Rattle.record_places.proofs.Sought.{has_at, is_above, is_below, is_none, only_one, read_at}
use Rattle.record_places.proofs.sorted_records.index_among.Goals as goal

pub canonical_order-requires : goal.canonical_order-requires
canonical_order-requires c =
    let middle = c.halves.low + (c.halves.high - c.halves.low) / 2 in
    let within : middle < length c.args.records.now = omega (arith, c.halves.invariant.high) in
    each_Has (λ r. r.class ≡ c.args.rr.now.class) (records_in c.args.records.now) (record_of c.index-records-middle.result) c.requires.one_class
    (has_at _ middle _ (read_at c.args.records.now middle c.index-records-middle.result within c.index-records-middle.is))

pub halves-preserved-in-Less : goal.halves-preserved-in-Less
halves-preserved-in-Less c =
    let middle = c.halves.low + (c.halves.high - c.halves.low) / 2 in
    let within : middle < length c.args.records.now = omega (arith, c.halves.invariant.high) in
    record {
      between = is_above (records_in c.args.records.now) (record_of c.args.rr.now) c.halves.low c.halves.high middle (record_of c.index-records-middle.result) c.requires.up
          (read_at c.args.records.now middle c.index-records-middle.result within c.index-records-middle.is) c.halves.invariant.between (sym c.in-Less.ensures);
      low = omega arith;
      high = c.halves.invariant.high;
    }

pub halves-preserved : goal.halves-preserved
halves-preserved c =
    let middle = c.halves.low + (c.halves.high - c.halves.low) / 2 in
    let within : middle < length c.args.records.now = omega (arith, c.halves.invariant.high) in
    record {
      between = is_below (records_in c.args.records.now) (record_of c.args.rr.now) c.halves.low c.halves.high middle (record_of c.index-records-middle.result) c.requires.up
          (read_at c.args.records.now middle c.index-records-middle.result within c.index-records-middle.is) c.halves.invariant.between (sym c.in-Greater.ensures);
      low = omega arith;
      high = omega (arith, c.halves.invariant.high);
    }

pub returns-then-is_same-clause-found : goal.returns-then-is_same-clause-found
returns-then-is_same-clause-found c =
    let middle = c.halves.low + (c.halves.high - c.halves.low) / 2 in
    let within : middle < length c.args.records.now = omega (arith, c.halves.invariant.high) in
    read_at c.args.records.now middle c.index-records-middle.result within c.index-records-middle.is ∙ ap (λ r. Some r) (c.is_same.ensures.0 c.if-is_same.true)

pub returns-else-is_same-clause-none : goal.returns-else-is_same-clause-none
returns-else-is_same-clause-none c = λ _ has.
    let middle = c.halves.low + (c.halves.high - c.halves.low) / 2 in
    let within : middle < length c.args.records.now = omega (arith, c.halves.invariant.high) in
    let same = only_one (records_in c.args.records.now) middle (record_of c.index-records-middle.result) (record_of c.args.rr.now) c.requires.up
    (read_at c.args.records.now middle c.index-records-middle.result within c.index-records-middle.is) (sym c.in-Equal.ensures) has in
    let bad : true ≡ false = sym (c.is_same.ensures.1 same) ∙ c.if-is_same.false in cc bad

pub returns-clause-none : goal.returns-clause-none
returns-clause-none c = λ _ has. is_none (records_in c.args.records.now) (record_of c.args.rr.now) c.halves.low c.halves.high c.halves-test.false c.halves.invariant.between has
