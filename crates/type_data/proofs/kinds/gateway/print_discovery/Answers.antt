use Rattle.type_data.proofs.Common.{arith, slice_index, ◌/◌, ◌∙◌, ◌≡◌}
use Rattle.type_data.proofs.OfKinds.Gateway.Printed.{discovery_front, empty_bit}
use Rattle.type_data.proofs.kinds.gateway.print_discovery.Goals as goal
use Rattle.type_data.proofs.kinds.gateway.print_discovery.Goals.{In_ok-print_decimal, in-empty, in-len1-up}

-- the bit is the octet's highest
bit_is : (c : In_ok-print_decimal) → c.if-octets-lt1.bit ≡ slice_index c.args.octets.now 0 / 128
bit_is c =
    elim c.if-octets-lt1.branch [ in-empty w ↦ w.bit-is ∙ empty_bit c.args.octets.now w.in-empty.len_below | in-len1-up w ↦ w.bit-is ]

pub returns-clause-printed : goal.returns-clause-printed
returns-clause-printed c =
    let octet = c.type_inv.octets 0 in
    discovery_front c.from.result c.args.octets.now c.args.out.now.items c.print_decimal.new.out.items (omega (arith, octet, bit_is c, c.from.ensures)) c.in_ok-print_decimal.ensures.ok

pub returns-clause-text : goal.returns-clause-text
returns-clause-text c = cc (bit_is c, c.from.ensures, c.in_ok-print_decimal.ensures.ok)
