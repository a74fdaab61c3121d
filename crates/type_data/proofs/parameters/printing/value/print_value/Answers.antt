use Rattle.type_data.proofs.Common.{Alpn, DohPath, Ech, Ipv4Hint, Ipv6Hint, Mandatory, Port}
use Rattle.type_data.proofs.OfParameters.PrintedValues.{no_ipv4_value, no_ipv6_value, no_keys_value, quoted_printed, stops_answered, unquoted_printed}
use Rattle.type_data.specs.Parameters.Machine.Printed.{all_sent}
use Rattle.type_data.proofs.parameters.printing.value.print_value.Goals as goal

pub returns-in-Mandatory-clause-printed : goal.returns-in-Mandatory-clause-printed
returns-in-Mandatory-clause-printed c = unquoted_printed c.print_mandatory.result (all_sent c.args.parameters.now) c.args.key Mandatory _ c.args.value.now c.args.out.now.items c.print_mandatory.new.out.items c.in-Mandatory.is (λ text is. is) c.print_mandatory.ensures.printed

pub returns-in-Mandatory-clause-none : goal.returns-in-Mandatory-clause-none
returns-in-Mandatory-clause-none c = stops_answered c.print_mandatory.result (all_sent c.args.parameters.now) c.args.key Mandatory _ c.args.value.now c.args.out.now.items c.print_mandatory.new.out.items c.in-Mandatory.is (no_keys_value (all_sent c.args.parameters.now) c.args.value.now) c.print_mandatory.ensures.none

pub returns-in-Alpn-clause-printed : goal.returns-in-Alpn-clause-printed
returns-in-Alpn-clause-printed c = quoted_printed c.print_protocols.result (all_sent c.args.parameters.now) c.args.key Alpn _ c.args.value.now c.args.out.now.items c.print_protocols.new.out.items c.in-Alpn.is (λ text is. is) c.print_protocols.ensures.printed

pub returns-in-Port-clause-printed : goal.returns-in-Port-clause-printed
returns-in-Port-clause-printed c = unquoted_printed c.print_port.result (all_sent c.args.parameters.now) c.args.key Port _ c.args.value.now c.args.out.now.items c.print_port.new.out.items c.in-Port.is (λ text is. is) c.print_port.ensures.printed

pub returns-in-Ipv4Hint-clause-printed : goal.returns-in-Ipv4Hint-clause-printed
returns-in-Ipv4Hint-clause-printed c = unquoted_printed c.print_addresses.result (all_sent c.args.parameters.now) c.args.key Ipv4Hint _ c.args.value.now c.args.out.now.items c.print_addresses.new.out.items c.in-Ipv4Hint.is (λ text is. is) c.print_addresses.ensures.printed

pub returns-in-Ipv4Hint-clause-none : goal.returns-in-Ipv4Hint-clause-none
returns-in-Ipv4Hint-clause-none c = stops_answered c.print_addresses.result (all_sent c.args.parameters.now) c.args.key Ipv4Hint _ c.args.value.now c.args.out.now.items c.print_addresses.new.out.items c.in-Ipv4Hint.is (no_ipv4_value (all_sent c.args.parameters.now) c.args.value.now) c.print_addresses.ensures.none

pub returns-in-Ech-clause-printed : goal.returns-in-Ech-clause-printed
returns-in-Ech-clause-printed c = unquoted_printed c.print_ech.result (all_sent c.args.parameters.now) c.args.key Ech _ c.args.value.now c.args.out.now.items c.print_ech.new.out.items c.in-Ech.is (λ text is. is) c.print_ech.ensures.printed

pub returns-in-Ipv6Hint-clause-printed : goal.returns-in-Ipv6Hint-clause-printed
returns-in-Ipv6Hint-clause-printed c = unquoted_printed c.print_addresses-in-Ipv6Hint.result (all_sent c.args.parameters.now) c.args.key Ipv6Hint _ c.args.value.now c.args.out.now.items c.print_addresses-in-Ipv6Hint.new.out.items c.in-Ipv6Hint.is (λ text is. is) c.print_addresses-in-Ipv6Hint.ensures.printed

pub returns-in-Ipv6Hint-clause-none : goal.returns-in-Ipv6Hint-clause-none
returns-in-Ipv6Hint-clause-none c = stops_answered c.print_addresses-in-Ipv6Hint.result (all_sent c.args.parameters.now) c.args.key Ipv6Hint _ c.args.value.now c.args.out.now.items c.print_addresses-in-Ipv6Hint.new.out.items c.in-Ipv6Hint.is (no_ipv6_value (all_sent c.args.parameters.now) c.args.value.now) c.print_addresses-in-Ipv6Hint.ensures.none

pub returns-in-DohPath-clause-printed : goal.returns-in-DohPath-clause-printed
returns-in-DohPath-clause-printed c = quoted_printed c.print_path.result (all_sent c.args.parameters.now) c.args.key DohPath _ c.args.value.now c.args.out.now.items c.print_path.new.out.items c.in-DohPath.is (λ text is. is) c.print_path.ensures.printed
