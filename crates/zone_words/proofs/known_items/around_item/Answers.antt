use Rattle.zone_words.proofs.Common.{ap, take, ◌∙◌}
use Rattle.zone_words.proofs.KnownItems.{stands_around}
use Rattle.zone_words.proofs.known_items.around_item.Goals as goal

pub returns : goal.returns
returns c = stands_around c.args.entry.now c.past_items.result.now c.past_gap-rest.result.now c.split_at.result.0.now c.past_item.result.now c.args.items.now c.args.before _ c.requires c.past_items.ensures c.past_gap-rest.ensures (c.split_at.ensures.front ∙ ap (λ n. take n c.args.entry.now) c.saturating_sub.ensures) c.past_item.ensures
