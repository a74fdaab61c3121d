use Rattle.faulty_items.proofs.Common.{map, raw}
use Rattle.faulty_items.specs.EntryStop.{no_type}
use Rattle.faulty_items.proofs.EntryParts.{laid_named}
use Rattle.faulty_items.proofs.entry.named_type_stop.Goals as goal

pub returns-in_default : goal.returns-in_default
returns-in_default c = λ touching same none. no_type _ none c.in_default.ensures.err

pub returns : goal.returns
returns c = λ touching same none. laid_named c.args.origin.now _ c.args.class c.in-Ok.kind c.number.result c.args.word.now touching (map raw c.args.items.now) _ c.folded.ensures c.number.ensures.value same none c.in-Ok.ensures.found c.known.ensures c.in_ok-stop.ensures
