use Rattle.zone_wire.proofs.Common.{[], ap, fault_for, name_end_of, sym}
use Rattle.zone_wire.proofs.Names.Walking.{carries_start, carries_outside, carries_bad, carries_root, carries_label, carries_pointer}
use Rattle.zone_wire.proofs.structure.walk_to_root.Goals as goal

pub places-init : goal.places-init
places-init c = rw (c.outset-spot.ensures, c.new-ticks.ensures) ([], carries_start c.args.message.now c.args.offset)

pub returns-in-Outside : goal.returns-in-Outside
returns-in-Outside c = sym (ap name_end_of (carries_outside c.places.invariant.1 (sym c.in-Outside.ensures.place)))

pub returns-in-Bad : goal.returns-in-Bad
returns-in-Bad c = sym (ap name_end_of (carries_bad (fault_for c.in-Bad.cause) c.places.invariant.1 (sym c.in-Bad.ensures.place)))

pub returns-in-Root : goal.returns-in-Root
returns-in-Root c = rw c.unwrap_or.ensures (sym (ap name_end_of (carries_root c.places.invariant.1 (sym c.in-Root.ensures.place))))

pub places-preserved-in-Label : goal.places-preserved-in-Label
places-preserved-in-Label c =
    let next = carries_label c.in-Label.size c.places.invariant.1 (sym c.in-Label.ensures.place) in
    rw (c.past_label-spot.ensures, c.in-Label.ensures.ticks) (_, next)

pub places-preserved : goal.places-preserved
places-preserved c =
    let next = carries_pointer c.in-Pointer.target c.places.invariant.1 (sym c.in-Pointer.ensures.place) in
    rw (c.past_pointer-spot.ensures, c.in-Pointer.ensures.ticks, c.unwrap_or-in-Pointer.ensures) (_, next)
