use Rattle.faulty_items.proofs.Common.{refl}
use Rattle.faulty_items.proofs.further.stop_of.Goals as goal

pub returns : goal.returns
returns c = λ f one. record { field_is = refl; fault_is = refl; found = c.in_ok-found.found; stops = c.in_ok-found.ensures f one; item_is = c.item_in.ensures }
