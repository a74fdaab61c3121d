use Rattle.type_data.proofs.Common.{false≢true, refl, sym, ◌∙◌}
use Rattle.type_data.specs.Kinds.Location.{location_items}
use Rattle.type_data.proofs.OfKinds.Location.Printed.{states_on_earth}
use Rattle.type_data.proofs.kinds.location.printing.print_location.Goals as goal

pub returns-then-not-is_on_earth-clause-none : goal.returns-then-not-is_on_earth-clause-none
returns-then-not-is_on_earth-clause-none c = λ items states.
    let on = states_on_earth items c.args.octets.now c.in-Some.location c.in-Some.ensures.fits.0 c.in-Some.ensures.fits.1 c.in-Some.ensures.fits.2 c.in-Some.ensures.found states in
    false≢true (sym c.if-not-is_on_earth.true ∙ c.is_on_earth.ensures.1 on)

pub returns-clause-printed : goal.returns-clause-printed
returns-clause-printed c = record {
  items = location_items c.in-Some.location;
  printed = (c.in-Some.location, (c.is_on_earth.ensures.0 c.if-not-is_on_earth.false, (refl, c.in-Some.ensures.found)));
  appended = c.in_ok-print_items.ensures;
}
