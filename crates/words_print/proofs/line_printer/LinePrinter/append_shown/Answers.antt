use Rattle.std.proofs.Common.{Ok, ap}
use Rattle.words_print.proofs.Told.{appended}
use Rattle.words_print.specs.Shown.{IsShownLine}
use Rattle.words_print.proofs.line_printer.LinePrinter.append_shown.Goals as goal

pub returns-then-branch-clause-shown : goal.returns-then-branch-clause-shown
returns-then-branch-clause-shown c =
    appended c.extend_from_slice.result (IsShownLine c.args.line.now) c.args.out.now.items c.extend_from_slice.new.self.items c.shows.new.self.shown.items
    (rw c.deref.ensures.value at c.extend_from_slice.ensures.items) (c.in_ok-shows.ensures.yes (ap Ok c.if-branch.true))

pub returns-else-branch-clause-shown : goal.returns-else-branch-clause-shown
returns-else-branch-clause-shown c =
    appended c.extend_from_slice-else-branch.result (IsShownLine c.args.line.now) c.args.out.now.items c.extend_from_slice-else-branch.new.self.items c.args.line.now
    c.extend_from_slice-else-branch.ensures.items (c.in_ok-shows.ensures.no (ap Ok c.if-branch.false))
