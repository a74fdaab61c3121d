use Rattle.type_data.proofs.Common.{subst, ℕ, ◌<◌, ◌∙◌, length}
use Rattle.type_data.proofs.OfKinds.Address.Printed.{address_front, no_address}
use Rattle.type_data.proofs.Printed.PassedNone.{none_passed}
use Rattle.type_data.proofs.kinds.address.print_address.Goals as goal

pub returns-clause-printed : goal.returns-clause-printed
returns-clause-printed c = address_front c.args.version c.args.octets.now c.in_ok-address.rest.now _ _ c.in_ok-address.address.now (λ i. (c.type_inv.octets i).fits) c.in_ok-address.ensures.whole (c.in_ok-address.ensures.front ∙ c.len_of.ensures) c.in_ok-push_address.ensures

pub returns-in_err-address-clause-none : goal.returns-in_err-address-clause-none
returns-in_err-address-clause-none c = none_passed c.from_residual.result c.in_err-address.field-0.0 _ _ c.from_residual.ensures.1 (λ short. no_address c.args.version c.args.octets.now (subst (λ (n : ℕ). length c.args.octets.now < n) c.len_of.ensures short)) c.in_err-address.ensures.short
