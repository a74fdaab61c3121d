use Rattle.faulty_items.proofs.Digits.{digits_stop, length_missing, length_stops, rest_taken}
use Rattle.faulty_items.proofs.generic.generic_stop.Goals as goal

pub returns-in_default : goal.returns-in_default
returns-in_default c = length_missing c.args.items.now c.in_default.len_below c.requires

pub returns-in_default-length_in : goal.returns-in_default-length_in
returns-in_default-length_in c = length_stops c.args.items.now _ c.in-len2-up.len_at_least c.requires c.in_default-length_in.ensures.none

pub returns : goal.returns
returns c = digits_stop c.args.items.now _ _ c.in-Some.most c.in_ok-stop_in_digits.field-0 c.in-len2-up.len_at_least c.requires (rest_taken c.args.items.now) c.in-Some.ensures.some c.in_ok-stop_in_digits.ensures
