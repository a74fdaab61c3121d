use Rattle.type_data.proofs.Common.{get_or, take, ◌++◌, ◌∷◌, ◌≡◌}
use Rattle.type_data.specs.Kinds.Eui.{eui_text}
use Rattle.type_data.proofs.kinds.eui.print_pairs.Given as goal

abbrev pub invariant-loop-octet : goal.invariant-loop-octet
invariant-loop-octet l = l.out.items ≡ l.fn.out.items ++ eui_text (get_or l.octets 0 0 ∷ take l.octet-index l.rest)
