use Rattle.zone_name.proofs.Common.{ap, folded_octet, map, ◌∙◌}
use Rattle.zone_name.proofs.Spelling.Folding.{folded_name}
use Rattle.zone_name.proofs.cased.CasedName.folded.Goals as goal

pub holding-requires : goal.holding-requires
holding-requires c =
    let copied = c.holding-octets.ensures ∙ c.as_slice.ensures.value in
    rw c.as_slice-2.ensures.value ((folded_name c.self.inside.octets c.fold.new.self c.self.invariant (c.fold.ensures ∙ ap (map folded_octet) copied)).0)
