use Rattle.zone_words.proofs.Common.{[]}
use Rattle.zone_words.proofs.Standing.{rewrites_file}
use Rattle.zone_words.proofs.rewriter.rewrite_file.Goals as goal

pub returns : goal.returns
returns c =
    rewrites_file c.args.origin.now c.finish.new.self c.args.octets.now _ _ c.in_ok-finish.ensures.finished c.into_rewritten.ensures.text c.into_rewritten.ensures.refusals
    (c.in_ok-finish.ensures.stands c.args.origin.now c.args.octets.now [] (c.in_ok-feed.ensures.stands c.args.origin.now [] [] c.new-rewriter.ensures.stands))
