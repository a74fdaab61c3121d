use Rattle.type_data.proofs.OfParameters.Ascending.{rise_by_place}
use Rattle.type_data.proofs.OfKinds.Bitmap.Bits.{none_pushed, pushed_on}
use Rattle.type_data.proofs.kinds.bitmap.push_windows.Goals as goal

pub loop-first-init : goal.loop-first-init
loop-first-init c = none_pushed c.args.types.now c.args.out.now.items (rise_by_place c.args.types.now c.requires)

pub loop-first-preserved : goal.loop-first-preserved
loop-first-preserved c = pushed_on c.args.types.now c.loop-first.rest.now c.split_at.result.0.now c.split_at.result.1.now c.window_bits.result c.args.out.now.items c.loop-first.out.items c.push_window.new.out.items c.in-Some.first.now c.count_in_window.result c.loop-first.invariant c.in-Some.ensures.value c.count_in_window.ensures.within c.count_in_window.ensures.own c.count_in_window.ensures.other c.split_at.ensures.front c.split_at.ensures.back c.window_bits.ensures.bits c.in_ok-push_window.ensures
