-- Prefixes of addresses that are printed aren't the mark of the generic form.
use Rattle.type_data.proofs.Common.{IsGeneric, List, RawItem, [], arith, sym, ℕ, ◌++◌, ◌∙◌, ◌∷◌}
use Rattle.zone_rdata.specs.Item.{bare, quoted}
use Rattle.type_data.specs.Kinds.Prefixes.{StatesPrefixes, mark}
use Rattle.type_data.proofs.Printed.Marks.{no_other, text_marked}

pub prefixes_alone : (alone : List RawItem) (octets : List ℕ) → StatesPrefixes alone octets → IsGeneric alone → ⊥
prefixes_alone [] octets states generic = cc (generic.1)
prefixes_alone (quoted text ∷ alone) octets states generic = cc (generic.1)
prefixes_alone (bare text ∷ alone) octets states generic =
    let spelt = states.2.0.1.0 in
    no_other 47 (mark _ ++ (spelt.family ++ 58 ∷ spelt.address)) spelt.len (omega arith) (omega arith) (sym (text_marked text alone generic.0 generic.1) ∙ spelt.parts)
