use Rattle.std.proofs.Common.{Ok, ap, sym, ◌++◌, ◌∙◌}
use Rattle.words_print.proofs.Fitting.{no_octets, other_octets}
use Rattle.words_print.proofs.line_printer.LinePrinter.find_octets.Goals as goal

pub returns-then-not-branch-clause-no : goal.returns-then-not-branch-clause-no
returns-then-not-branch-clause-no c = λ _. no_octets c.args.line.now c.args.found.now c.requires (c.in_ok-push_octets_of_hex.ensures.no (ap Ok c.if-not-branch.true))

pub returns-clause-no : goal.returns-clause-no
returns-clause-no c =
    λ no. let grown = c.in_ok-push_octets_of_hex.ensures.yes (ap Ok c.if-not-branch.false) in
    let read = grown.stated ∙ ap Ok (sym (grown.written ∙ ap (λ l. l ++ grown.value) c.clear.ensures.items)) in
    other_octets c.args.line.now c.args.found.now c.push_octets_of_hex.new.out.items c.requires read (c.has_octets.ensures.no no)
