use Rattle.type_data.proofs.Common.{refl, to_be_bytes, w32}
use Rattle.type_data.proofs.Printed.Fronts.{front_printed}
use Rattle.type_data.proofs.OfKinds.Time.Printed.{time_count, time_printed}
use Rattle.type_data.specs.Kinds.Time.{PrintsTime, StatesTime}
use Rattle.type_data.proofs.kinds.time.date.print_time.Goals as goal

pub returns-clause-printed : goal.returns-clause-printed
returns-clause-printed c = front_printed PrintsTime StatesTime 4 c.args.octets.now c.in_ok-seconds.rest.now c.args.out.now.items _ (to_be_bytes w32 c.in_ok-seconds.seconds) c.digits_of-digits.result time_count c.in_ok-seconds.ensures.whole refl (time_printed c.digits_of-digits.result c.after.result c.in_ok-seconds.seconds c.in_ok-seconds.ensures.few c.digits_of-digits.ensures.digits c.digits_of-digits.ensures.shown c.after.ensures.exists c.after.ensures.value) c.in_ok-extend_from_slice.ensures.items
