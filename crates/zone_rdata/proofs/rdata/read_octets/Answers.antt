use Rattle.zone_rdata.proofs.Common.{in_generic_form, malformed, if_fault_passed}
use Rattle.zone_rdata.proofs.Items.Forms.{form_value}
use Rattle.zone_rdata.proofs.rdata.read_octets.Goals as goal

pub returns-in_err-read_generic-clause-fault : goal.returns-in_err-read_generic-clause-fault
returns-in_err-read_generic-clause-fault c = if_fault_passed c.from_residual.result c.in_err-read_generic.field-0.0 _ _ c.from_residual.ensures.1 (λ fault bad. in_generic_form fault (malformed fault bad)) c.in_err-read_generic.ensures.fault

pub returns-in_err-octets-clause-fault : goal.returns-in_err-octets-clause-fault
returns-in_err-octets-clause-fault c =
    if_fault_passed c.from_residual-in_err-octets.result c.in_err-octets.field-0.0 _ _ c.from_residual-in_err-octets.ensures.1
    (λ fault bad. in_generic_form fault (form_value _ _ _ _ _ fault c.in-Some-layout.is c.in_ok-read_generic.ensures.found c.deref.ensures.value bad))
    c.in_err-octets.ensures.fault
