use Rattle.std.proofs.Common.{◌≡◌, false, true}
use Rattle.words_print.proofs.Read.{not_read_as, read_as}
use Rattle.words_print.proofs.line_printer.is_rewritten.Goals as goal

pub returns-clause-yes : goal.returns-clause-yes
returns-clause-yes c = λ yes.
    let is : c.has_read.result ≡ true = cc yes in
    let read = c.has_read.ensures.yes is in
    read_as c.args.origin.now c.rewrite_entry.new.self c.args.text.now c.args.wanted.now
    c.in_ok-rewrite_entry.ensures.stands
    c.in_ok-rewrite_entry.ensures.finished read.0 read.1

pub returns-clause-no : goal.returns-clause-no
returns-clause-no c = λ no.
    let isnt : c.has_read.result ≡ false = cc no in
    not_read_as c.args.origin.now c.rewrite_entry.new.self c.args.text.now c.args.wanted.now
    c.in_ok-rewrite_entry.ensures.stands
    c.in_ok-rewrite_entry.ensures.finished (c.has_read.ensures.no isnt)
