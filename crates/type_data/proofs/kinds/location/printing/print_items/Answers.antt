use Rattle.type_data.proofs.Common.{on_ok_weaker}
use Rattle.type_data.proofs.OfKinds.Location.Printed.{items_appended}
use Rattle.type_data.proofs.kinds.location.printing.print_items.Goals as goal

pub returns : goal.returns
returns c = on_ok_weaker c.print_size-3.result (items_appended c.args.l c.args.out.now.items c.print_place.new.out.items c.print_place-2.new.out.items c.print_altitude.new.out.items c.print_size.new.out.items c.print_size-2.new.out.items c.print_size-3.new.out.items c.in_ok-print_place.ensures c.in_ok-print_place-2.ensures c.in_ok-print_altitude.ensures c.in_ok-print_size.ensures c.in_ok-print_size-2.ensures) c.print_size-3.ensures
