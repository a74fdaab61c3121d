use Rattle.type_data.proofs.Common.{on_ok_weaker}
use Rattle.type_data.proofs.OfKinds.Gateway.Ipseckey.{ipseckey_none, ipseckey_printed, ipseckey_short}
use Rattle.type_data.proofs.PrintedKinds.{none_weaker}
use Rattle.type_data.proofs.printed_data.print_ipseckey.Goals as goal

pub returns-clause-printed : goal.returns-clause-printed
returns-clause-printed c =
    on_ok_weaker c.print_fields.result
    (ipseckey_printed _ c.args.octets.now c.args.out.now.items c.print_fields.new.out.items c.from.result c.from-2.result c.ipseckey_by-fields.ensures c.from.ensures c.from-2.ensures c.requires) c.print_fields.ensures.printed

pub returns-clause-none : goal.returns-clause-none
returns-clause-none c =
    none_weaker c.print_fields.result _ _ (ipseckey_none _ c.args.octets.now c.from.result c.from-2.result c.ipseckey_by-fields.ensures c.from.ensures c.from-2.ensures) c.print_fields.ensures.none

pub returns-in_default-clause-none : goal.returns-in_default-clause-none
returns-in_default-clause-none c = ipseckey_short c.args.octets.now c.in_default.len_below
