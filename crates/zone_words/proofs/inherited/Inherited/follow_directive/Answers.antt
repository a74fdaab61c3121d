use Rattle.zone_words.proofs.Common.{ap, directive_in, map, raw, refl, ◌∙◌}
use Rattle.zone_words.proofs.Following.{origin_follows}
use Rattle.zone_words.proofs.Origins.{origin_once}
use Rattle.zone_words.proofs.inherited.Inherited.follow_directive.Goals as goal

pub returns-in-Origin : goal.returns-in-Origin
returns-in-Origin c origin before entry has states =
    origin_follows origin before entry c.args.self.now _ (map raw c.in-Origin.items.now)
    (states ∙ ap directive_in c.in-Origin.is) refl c.next_origin-self.ensures (origin_once origin before) has
