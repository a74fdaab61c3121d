use Rattle.zone_wire.proofs.Common.{arith}
use Rattle.zone_wire.proofs.Names.Walking.{name_bounds, refused_few, walk_names}
use Rattle.zone_wire.proofs.name.name_at.Goals as goal

pub returns-in-Ok-clause-found : goal.returns-in-Ok-clause-found
returns-in-Ok-clause-found c =
    let is = walk_names c.args.message.now c.args.offset _ (λ i. omega (arith, c.type_inv.message i)) c.in-Ok.ensures.1 in
    rw (c.to_name.ensures, c.lend.ensures) (c.in-Ok.ensures.0, is)

pub returns-in-Ok-clause-within : goal.returns-in-Ok-clause-within
returns-in-Ok-clause-within c =
    let is = walk_names c.args.message.now c.args.offset _ (λ i. omega (arith, c.type_inv.message i)) c.in-Ok.ensures.1 in
    let bounds = name_bounds c.args.message.now c.args.offset _ is in
    (bounds.start, bounds.end)

pub returns-in-Ok-clause-few : goal.returns-in-Ok-clause-few
returns-in-Ok-clause-few c =
    let is = walk_names c.args.message.now c.args.offset _ (λ i. omega (arith, c.type_inv.message i)) c.in-Ok.ensures.1 in
    (name_bounds c.args.message.now c.args.offset _ is).steps

pub returns-in-Err-clause-few : goal.returns-in-Err-clause-few
returns-in-Err-clause-few c = refused_few c.args.message.now c.args.offset _ _ c.in-Err.ensures
