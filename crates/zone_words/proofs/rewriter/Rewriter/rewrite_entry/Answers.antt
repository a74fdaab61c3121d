use Rattle.zone_words.proofs.Common.{map, raw, refl}
use Rattle.zone_words.proofs.FedTexts.{entry_alone}
use Rattle.zone_words.proofs.Standing.{refused_alone, stands_alone}
use Rattle.zone_words.proofs.rewriter.Rewriter.rewrite_entry.Goals as goal

pub returns-in-Ok-clause-stands : goal.returns-in-Ok-clause-stands
returns-in-Ok-clause-stands c =
    stands_alone c.args.origin.now _ _ c.args.entry.now refl
    (entry_alone c.args.origin.now c.restart.new.self _ c.args.entry.now (map raw c.args.items.now) c.restart.ensures.is c.restart.ensures.going c.restart.ensures.none c.restart.ensures.so_far refl refl c.requires.whole c.in-Ok.ensures.pushed c.push.ensures.at_most_one)

pub returns-clause-in_part : goal.returns-clause-in_part
returns-clause-in_part c =
    refused_alone c.args.origin.now _ c.restart.new.self (record c.restart.new.self { entries = c.push.new.self }) c.args.entry.now c.restart.ensures.so_far c.in-Err.ensures.refusals c.in-Err.ensures.written
