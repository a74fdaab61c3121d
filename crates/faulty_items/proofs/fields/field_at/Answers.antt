use Rattle.faulty_items.proofs.fields.field_at.Goals as goal

pub returns-in-Hip : goal.returns-in-Hip
returns-in-Hip c = rw c.in-Hip.is c.one_of-in-Hip.ensures
