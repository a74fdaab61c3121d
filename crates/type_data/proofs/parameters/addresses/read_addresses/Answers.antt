use Rattle.type_data.proofs.OfParameters.Lists.{addresses_more, addresses_all, addresses_stop, addresses_stop_last}
use Rattle.type_data.proofs.Common.{IsAddressOf, fault_passed}
use Rattle.type_data.proofs.parameters.addresses.read_addresses.Goals as goal

pub returns-in_err-read_address-clause-fault : goal.returns-in_err-read_address-clause-fault
returns-in_err-read_address-clause-fault c = fault_passed c.from_residual.result c.in_err-read_address.field-0.0 _ _ c.from_residual.ensures.1 (λ fault none. (none.0, addresses_stop (IsAddressOf c.args.version) c.args.text.now c.loop-address.rest.now c.in-Some.address.now c.in-Some.after.now c.args.out.now.items c.loop-address.out.items c.loop-address.invariant c.in-Some.ensures.found none.1)) c.in_err-read_address.ensures.fault

pub loop-address-preserved : goal.loop-address-preserved
loop-address-preserved c = addresses_more (IsAddressOf c.args.version) c.args.text.now c.loop-address.rest.now c.in-Some.address.now c.in-Some.after.now c.args.out.now.items c.loop-address.out.items c.read_address.new.out.items c.loop-address.invariant c.in-Some.ensures.found c.in_ok-read_address.ensures.stated

pub returns-in_err-read_address-2-clause-fault : goal.returns-in_err-read_address-2-clause-fault
returns-in_err-read_address-2-clause-fault c = fault_passed c.from_residual-in_err-read_address-2.result c.in_err-read_address-2.field-0.0 _ _ c.from_residual-in_err-read_address-2.ensures.1 (λ fault none. (none.0, addresses_stop_last (IsAddressOf c.args.version) c.args.text.now c.loop-address.rest.now c.args.out.now.items c.loop-address.out.items c.loop-address.invariant c.in_default.ensures.none none.1)) c.in_err-read_address-2.ensures.fault

pub returns-clause-stated : goal.returns-clause-stated
returns-clause-stated c = addresses_all (IsAddressOf c.args.version) c.args.text.now c.loop-address.rest.now c.args.out.now.items c.loop-address.out.items c.read_address-2.new.out.items c.loop-address.invariant c.in_default.ensures.none c.in_ok-read_address-2.ensures.stated
