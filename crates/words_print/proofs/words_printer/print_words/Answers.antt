use Rattle.std.proofs.Common.{[], subst, sym}
use Rattle.words_print.specs.Shown.{IsShownText}
use Rattle.words_print.proofs.words_printer.print_words.Goals as goal

pub returns : goal.returns
returns c = subst (IsShownText c.args.octets.now) (sym c.into_written.ensures) (c.in_ok-finish.ensures.text c.args.octets.now [] (c.in_ok-feed.ensures.stands [] [] c.new-printer.ensures.stands))
