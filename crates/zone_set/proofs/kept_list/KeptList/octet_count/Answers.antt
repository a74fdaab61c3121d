use Rattle.zone_set.proofs.Common.{ap, records_of, ◌∙◌}
use Rattle.zone_set.proofs.Lists.Differing.{kept_octets}
use Rattle.zone_set.specs.Bounded.{kept_len}
use Rattle.zone_set.proofs.kept_list.KeptList.octet_count.Goals as goal

pub returns : goal.returns
returns c = c.len.ensures ∙ c.self.inside.octets.ok.0 ∙ kept_octets c.self.invariant ∙ ap (λ ps. kept_len (records_of ps)) c.self.view_is
