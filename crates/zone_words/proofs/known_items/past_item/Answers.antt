use Rattle.zone_words.proofs.Common.{FollowsItem, ap, drop, raw, subst, sym, ◌∙◌}
use Rattle.zone_words.proofs.KnownItems.{bare_followed, quoted_followed}
use Rattle.zone_words.proofs.known_items.past_item.Goals as goal

pub returns-in-Bare : goal.returns-in-Bare
returns-in-Bare c = subst (λ i. FollowsItem c.args.octets.now (raw i) c.past.result.now) (sym c.in-Bare.is) (bare_followed c.args.octets.now c.past.result.now c.in-Bare.text.now c.past.ensures)

pub returns-in-Quoted : goal.returns-in-Quoted
returns-in-Quoted c = subst (λ i. FollowsItem c.args.octets.now (raw i) c.past-in-Quoted-2.result.now) (sym c.in-Quoted.is) (quoted_followed c.args.octets.now c.past-in-Quoted-2.result.now c.in-Quoted.text.now (c.past-in-Quoted-2.ensures ∙ ap (drop 2) c.past-in-Quoted.ensures))
