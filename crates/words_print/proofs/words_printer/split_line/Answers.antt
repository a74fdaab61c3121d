use Rattle.std.proofs.Common.{arith}
use Rattle.words_print.proofs.FirstLine.{first_line}
use Rattle.words_print.proofs.words_printer.split_line.Goals as goal

pub returns-clause-found : goal.returns-clause-found
returns-clause-found c =
    rw (c.split_at.ensures.front, c.split_at.ensures.back)
    (first_line c.args.octets.now c.in_ok-feed.feed _ (omega arith) c.in_ok-feed.ensures.0.high c.in_ok-feed.ensures.0.before c.in_ok-feed.ensures.1)
