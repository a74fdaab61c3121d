use Rattle.type_data.proofs.Common.{arith}
use Rattle.type_data.proofs.OfKinds.Gateway.Printed.{type_front}
use Rattle.type_data.proofs.kinds.gateway.print_address_type.Goals as goal

pub returns-clause-printed : goal.returns-clause-printed
returns-clause-printed c =
    type_front c.args.optional c.in_ok-octet.octet c.discovery_bit-bit.result _ _ _ _ c.in_ok-octet.ensures.whole c.discovery_bit-bit.ensures.value (omega arith) (omega arith)
    (cc (c.in_ok-print_decimal.ensures.ok, c.from.ensures))
