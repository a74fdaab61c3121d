use Rattle.zone_words.proofs.KnownItems.{comment_between}
use Rattle.zone_words.proofs.known_items.past_comment.Goals as goal

pub returns-clause-found : goal.returns-clause-found
returns-clause-found c after first = comment_between c.args.octets.now after c.in_ok-_comment.after.now _ first c.in_ok-_comment.ensures.found
