use Rattle.zone_wire.proofs.Common.{ShortMessage, ap, arith, fault_for, refused, sym, ◌∙◌}
use Rattle.zone_wire.proofs.Names.RunLaws.{gathers_label, gathers_pointer, run_fits}
use Rattle.zone_wire.proofs.Names.Walking.{carries_outside, carries_bad, carries_named, carries_root, pointer_shows, root_inside}
use Rattle.zone_wire.proofs.name.read_name.Goals as goal

pub step_at-requires-clause-known : goal.step_at-requires-clause-known
step_at-requires-clause-known c = λ known. let here = c.requires known in carries_named here.0 c.places.invariant.carries here.1

pub returns-in-Outside : goal.returns-in-Outside
returns-in-Outside c = carries_outside c.places.invariant.carries (sym c.in-Outside.ensures.place) ∙ ap (refused ShortMessage) (omega (arith, c.count.ensures, c.in-Outside.ensures.ticks))

pub returns-in-Bad : goal.returns-in-Bad
returns-in-Bad c = carries_bad (fault_for c.in-Bad.cause) c.places.invariant.carries (sym c.in-Bad.ensures.place) ∙ ap (refused (fault_for c.in-Bad.cause)) (omega (arith, c.count-in-Bad.ensures, c.in-Bad.ensures.ticks))

pub push-requires-clause-fits : goal.push-requires-clause-fits
push-requires-clause-fits c = run_fits c.places.invariant (omega (arith, root_inside _ _ (sym c.in-Root.ensures.place)))

pub returns-in-Root : goal.returns-in-Root
returns-in-Root c =
    let met = c.places.invariant in
    let h = carries_root met.carries (sym c.in-Root.ensures.place) in
    let joins = met.joins (omega (arith, root_inside _ _ (sym c.in-Root.ensures.place))) in
    (c.places.spot.pointers, cc (h, joins, c.push.ensures, c.unwrap_or.ensures, c.count-in-Root.ensures, c.in-Root.ensures.ticks))

pub places-preserved-in-Label : goal.places-preserved-in-Label
places-preserved-in-Label c =
    rw (c.past_label-spot.ensures, c.in-Label.ensures.ticks)
    (gathers_label c.places.invariant c.in-Label.size (λ i. omega (arith, c.type_inv.message i)) (sym c.in-Label.ensures.place))

pub push-requires-in-Pointer-clause-fits : goal.push-requires-in-Pointer-clause-fits
push-requires-in-Pointer-clause-fits c =
    run_fits c.places.invariant (omega (arith, (pointer_shows _ _ c.in-Pointer.target (sym c.in-Pointer.ensures.place)).0.inside))

pub places-preserved : goal.places-preserved
places-preserved c =
    rw (c.past_pointer-spot.ensures, c.in-Pointer.ensures.ticks, c.push-in-Pointer.ensures, c.unwrap_or-in-Pointer.ensures)
    (gathers_pointer c.places.invariant c.in-Pointer.target (sym c.in-Pointer.ensures.place))
