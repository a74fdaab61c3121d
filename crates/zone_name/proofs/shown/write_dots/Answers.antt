use Rattle.zone_name.proofs.Common.{ap, arith, labels_of, length, length-append, refl}
use Rattle.zone_name.proofs.InOctets.Octets.{few_labels}
use Rattle.zone_name.proofs.Spelling.WholeText.{dotted_end, dotted_more, dotted_ones}
use Rattle.zone_name.proofs.shown.write_dots.Goals as goal

pub overflow_add-labels : goal.overflow_add-labels
overflow_add-labels c =
    let inv = c.loop-at.invariant in
    omega (arith, ap length inv.2.whole, length-append inv.0 inv.1, inv.2.count, few_labels (labels_of c.args.octets.now) c.requires.name.name)

pub loop-at-init : goal.loop-at-init
loop-at-init c = dotted_ones c.args.octets.now c.dot_ones-at.new.octets c.dot_ones-at.result c.requires.name c.dot_ones-at.ensures

pub loop-at-preserved : goal.loop-at-preserved
loop-at-preserved c =
    let inv = c.loop-at.invariant in
    dotted_more c.args.octets.now c.loop-at.octets _ c.loop-at.at c.loop-at.labels inv.0 inv.1 inv.2 c.if-len-eq0.false refl

pub returns-then-len-eq0 : goal.returns-then-len-eq0
returns-then-len-eq0 c =
    let inv = c.loop-at.invariant in
    let end = dotted_end c.args.octets.now c.loop-at.octets _ c.loop-at.at c.loop-at.labels inv.0 inv.1 inv.2 c.if-len-eq0.true refl in
    record { dots = end.0; labels = end.1 }
