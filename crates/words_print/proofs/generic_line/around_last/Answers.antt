use Rattle.words_print.proofs.Cuts.{around_last_at}
use Rattle.words_print.proofs.generic_line.around_last.Goals as goal

pub returns-clause-some : goal.returns-clause-some
returns-clause-some c =
    around_last_at c.args.octet c.args.octets.now _ _ _ c.in_ok-place.place c.split_at.ensures.front c.split_at.ensures.back c.split_at-2.ensures.back
    c.in_ok-place.ensures.0.high c.in_ok-place.ensures.0.after c.in_ok-place.ensures.1
