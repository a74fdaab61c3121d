use Rattle.type_data.proofs.Common.{take, ◌++◌, ◌≡◌}
use Rattle.zone_rdata.specs.Strings.{inside_text}
use Rattle.type_data.specs.Parameters.Value.{escaped_item}
use Rattle.type_data.proofs.parameters.printing.protocols.print_listed.Given as goal

abbrev pub invariant-loop-octet : goal.invariant-loop-octet
invariant-loop-octet l = l.out.items ≡ l.fn.out.items ++ inside_text (escaped_item (take l.octet-index l.item))
