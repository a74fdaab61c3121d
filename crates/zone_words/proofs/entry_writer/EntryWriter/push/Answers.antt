use Rattle.zone_words.proofs.Common.{ap, map, raw, ◌+◌}
use Rattle.zone_words.proofs.Turns.{entry_pushed}
use Rattle.zone_words.proofs.entry_writer.EntryWriter.push.Goals as goal

pub returns-clause-pushed : goal.returns-clause-pushed
returns-clause-pushed c =
    entry_pushed c.args.entry.now (map raw c.args.items.now) c.args.self.now _ c.form_of-form.result c.in_ok-turn.turn c.turn_of.new.stated
    c.form_of-form.ensures c.follow.ensures c.in_ok-turn.ensures c.in_ok-push.ensures.ok
    (rw (c.refusal.ensures) at c.add.ensures.added) (ap (λ k. c.args.self.now.line + k) c.line_feeds.ensures.count)
