use Rattle.faulty_items.proofs.Common.{given, map, raw}
use Rattle.type_data.specs.Table.{further_of}
use Rattle.faulty_items.proofs.EntryParts.{further_generic, further_worded}
use Rattle.faulty_items.proofs.entry.further_type_stop.Goals as goal

pub returns-then-is_generic : goal.returns-then-is_generic
returns-then-is_generic c = λ number word same named. further_generic c.args.origin.now number word (map given c.args.items.now) (map raw c.args.plain.now) (further_of c.args.further.now) _ c.is_generic.result c.if-is_generic.true c.is_generic.ensures same named c.in_ok-stop.ensures

pub returns : goal.returns
returns c = λ number word same named. further_worded c.args.origin.now number word (map given c.args.items.now) (map raw c.args.plain.now) (further_of c.args.further.now) _ c.is_generic.result c.if-is_generic.false c.is_generic.ensures same named c.in_ok-stop-2.ensures
