use Rattle.zone_rdata.proofs.Common.{drop, map, ap, arith, drop_all, length-drop, length-map, raw}
use Rattle.zone_rdata.proofs.Items.Values.{read_over, read_all, read_long}
use Rattle.zone_rdata.proofs.reading.read_words.Goals as goal

pub returns-then-place-items-clause-fault : goal.returns-then-place-items-clause-fault
returns-then-place-items-clause-fault c =
    rw c.of.ensures (read_over _ _ _ _ c.loop-field.field-index _ _ c.fields-field-items.ensures c.loop-field-test.false (omega (arith, c.if-place-items.true, length-drop c.loop-field.place c.args.items.now, length-map (drop c.loop-field.place c.args.items.now) raw)) c.loop-field.invariant.1)

pub returns-then-len-gt-LONGEST_DATA-clause-fault : goal.returns-then-len-gt-LONGEST_DATA-clause-fault
returns-then-len-gt-LONGEST_DATA-clause-fault c =
    rw c.of-then-len-gt-LONGEST_DATA.ensures (read_long _ _ _ _ (omega (arith, c.len.ensures, c.if-len-gt-LONGEST_DATA.true))
    (read_all _ _ _ _ c.loop-field.field-index _ _ c.fields-field-items.ensures c.loop-field-test.false (ap (map raw) (drop_all c.loop-field.place c.args.items.now (omega (arith, c.if-place-items.false)))) c.loop-field.invariant.1))
