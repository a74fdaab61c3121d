use Rattle.faulty_items.proofs.Common.{ap, raw}
use Rattle.faulty_items.proofs.EntryParts.{owner_named, owner_unnamed}
use Rattle.faulty_items.proofs.entry.is_owner.Goals as goal

pub returns-in-Ok-clause-yes : goal.returns-in-Ok-clause-yes
returns-in-Ok-clause-yes c = λ yes. owner_named c.args.origin.now (raw c.args.owner) c.in-Bare.text.now c.in-Ok.field-0 (ap raw c.in-Bare.is) c.in-Ok.ensures.found

pub returns-in-Err-clause-no : goal.returns-in-Err-clause-no
returns-in-Err-clause-no c = λ no. owner_unnamed c.args.origin.now (raw c.args.owner) c.in-Bare.text.now c.from_text.result c.in-Err.field-0 (ap raw c.in-Bare.is) c.from_text.ensures.only c.in-Err.is
