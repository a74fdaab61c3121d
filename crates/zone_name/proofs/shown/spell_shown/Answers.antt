use Rattle.zone_name.proofs.Common.{arith, eqb-true, labels_of}
use Rattle.zone_name.proofs.InOctets.Octets.{few_labels}
use Rattle.zone_name.proofs.Spelling.WholeText.{begins_with, put_front, spelled_whole}
use Rattle.zone_name.proofs.shown.spell_shown.Goals as goal

pub write_dots-labels-requires-clause-name : goal.write_dots-labels-requires-clause-name
write_dots-labels-requires-clause-name c =
    begins_with c.args.name.now c.put.new.room c.requires.name (put_front c.args.room.now c.args.name.now c.put.new.room (omega (arith, c.requires.room)) c.put.ensures)

pub overflow_add-result : goal.overflow_add-result
overflow_add-result c =
    let begins = begins_with c.args.name.now c.put.new.room c.requires.name (put_front c.args.room.now c.args.name.now c.put.new.room (omega (arith, c.requires.room)) c.put.ensures) in
    omega (arith, c.write_dots-labels.ensures.labels, few_labels (labels_of c.put.new.room) begins.name)

pub returns : goal.returns
returns c = λ same.
    let saw = c.count_odd.ensures in
    spelled_whole c.args.name.now c.put.new.room c.write_dots-labels.new.octets c.write_dots-labels.result saw.0 c.count_odd.result c.requires.name c.requires.some
    (put_front c.args.room.now c.args.name.now c.put.new.room (omega (arith, c.requires.room)) c.put.ensures)
    (c.write_dots-labels.ensures.dots, c.write_dots-labels.ensures.labels) saw.1 saw.3 (eqb-true _ _ same)
