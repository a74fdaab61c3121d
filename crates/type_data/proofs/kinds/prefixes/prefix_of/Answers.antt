use Rattle.type_data.proofs.OfKinds.Prefixes.Once.{no_address, no_bits_of, no_family, no_length}
use Rattle.type_data.proofs.kinds.prefixes.prefix_of.Goals as goal

pub returns-in_err-front-clause-none : goal.returns-in_err-front-clause-none
returns-in_err-front-clause-none c = rw c.from_residual.ensures (no_length c.args.text.now c.in_err-front.ensures.none)

pub returns-in_err-family-clause-none : goal.returns-in_err-family-clause-none
returns-in_err-family-clause-none c = rw c.from_residual-in_err-family.ensures (no_family c.args.text.now c.in_ok-front.front.now _ c.in_ok-front.len.now _ c.in_ok-front.ensures.found c.after_mark-negated.ensures c.in_err-family.ensures.none)

pub returns-in_err-address-clause-none : goal.returns-in_err-address-clause-none
returns-in_err-address-clause-none c = rw c.from_residual-in_err-address.ensures (no_address c.args.text.now c.in_ok-front.front.now _ c.in_ok-family.family.now c.in_ok-family.address.now c.in_ok-front.len.now _ c.in_ok-front.ensures.found c.after_mark-negated.ensures c.in_ok-family.ensures.found c.in_err-address.ensures.none)

pub returns-in_err-bits-clause-none : goal.returns-in_err-bits-clause-none
returns-in_err-bits-clause-none c = rw c.from_residual-in_err-bits.ensures (no_bits_of c.args.text.now c.in_ok-front.front.now _ c.in_ok-family.family.now c.in_ok-family.address.now c.in_ok-front.len.now _ c.in_ok-address.address c.in_ok-front.ensures.found c.after_mark-negated.ensures c.in_ok-family.ensures.found c.in_ok-address.ensures.found c.in_err-bits.ensures.none)
