use Rattle.type_data.proofs.Common.{arith, fault_passed}
use Rattle.type_data.proofs.OfKinds.HostIdentity.Lengths.{key_fails, key_too_long}
use Rattle.type_data.proofs.kinds.host_identity.read_public_key.Goals as goal

pub returns-in_err-push_decoded-clause-fault : goal.returns-in_err-push_decoded-clause-fault
returns-in_err-push_decoded-clause-fault c = fault_passed c.from_residual.result c.in_err-push_decoded.field-0.0 _ _ c.from_residual.ensures.1 (λ fault. key_fails c.args.text.now fault) c.in_err-push_decoded.ensures.fault

pub returns-then-len-gt-MOST-clause-fault : goal.returns-then-len-gt-MOST-clause-fault
returns-then-len-gt-MOST-clause-fault c = key_too_long c.args.text.now _ _ c.new-key.ensures.items (omega (arith, c.len.ensures, c.if-len-gt-MOST.true)) c.in_ok-push_decoded.ensures.states
