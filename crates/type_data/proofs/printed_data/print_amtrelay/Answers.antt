use Rattle.type_data.proofs.Common.{on_ok_weaker, refl}
use Rattle.type_data.proofs.Printed.PassedNone.{none_passed}
use Rattle.type_data.proofs.OfKinds.Gateway.Relays.{amtrelay_always, amtrelay_empty, amtrelay_none, amtrelay_printed, amtrelay_short, last_two}
use Rattle.type_data.proofs.PrintedKinds.{none_weaker}
use Rattle.type_data.proofs.printed_data.print_amtrelay.Goals as goal

pub returns-clause-printed : goal.returns-clause-printed
returns-clause-printed c =
    let fields = last_two c.amtrelay_by-fields.result _ _ _ c.from.result c.from-2.result refl c.amtrelay_by-fields.ensures c.from.ensures c.from-2.ensures in
    on_ok_weaker c.print_fields.result
    (amtrelay_printed _ c.args.octets.now c.in_ok-rest.rest.now c.in_ok-octet.field-0-1.now c.args.out.now.items c.push.new.self.items c.print_u8.new.out.items c.push-2.new.self.items c.print_discovery.new.out.items c.print_fields.new.out.items c.in_ok-octet.octet c.in_ok-push.ensures.items c.in_ok-rest.ensures.printed c.in_ok-push-2.ensures.items c.in_ok-print_discovery.ensures.text c.in_ok-octet.ensures.whole c.in_ok-octet.ensures.few fields c.requires)
    c.print_fields.ensures.printed

pub returns-clause-none : goal.returns-clause-none
returns-clause-none c =
    none_weaker c.print_fields.result _ _ (amtrelay_none _ c.args.octets.now c.in_ok-rest.rest.now c.in_ok-octet.field-0-1.now c.push.new.self.items c.print_u8.new.out.items c.in_ok-octet.octet c.in_ok-rest.ensures.printed c.in_ok-octet.ensures.whole (last_two c.amtrelay_by-fields.result _ _ _ c.from.result c.from-2.result refl c.amtrelay_by-fields.ensures c.from.ensures c.from-2.ensures)) c.print_fields.ensures.none

pub returns-in_err-rest-clause-none : goal.returns-in_err-rest-clause-none
returns-in_err-rest-clause-none c = none_passed c.from_residual-in_err-rest.result c.in_err-rest.field-0.0 _ _ c.from_residual-in_err-rest.ensures.1 (amtrelay_empty c.args.octets.now) c.in_err-rest.ensures.none

pub returns-in_err-print_discovery-clause-none : goal.returns-in_err-print_discovery-clause-none
returns-in_err-print_discovery-clause-none c = none_passed c.from_residual-in_err-print_discovery.result c.in_err-print_discovery.field-0.0 _ _ c.from_residual-in_err-print_discovery.ensures.1 (amtrelay_always c.args.octets.now c.in_ok-rest.rest.now) c.in_err-print_discovery.ensures.none

pub returns-in_err-octet-clause-none : goal.returns-in_err-octet-clause-none
returns-in_err-octet-clause-none c = none_passed c.from_residual-in_err-octet.result c.in_err-octet.field-0.0 _ _ c.from_residual-in_err-octet.ensures.1 (amtrelay_short c.args.octets.now c.in_ok-rest.rest.now c.push.new.self.items c.print_u8.new.out.items c.in_ok-rest.ensures.printed) c.in_err-octet.ensures.short
