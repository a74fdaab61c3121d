use Rattle.std.proofs.Common.{Ok, ap, inl}
use Rattle.words_print.proofs.line_printer.LinePrinter.fits.Goals as goal

pub returns-then-is_canonical-clause-yes : goal.returns-then-is_canonical-clause-yes
returns-then-is_canonical-clause-yes c = λ _. c.requires.canonical (c.is_canonical.ensures c.if-is_canonical.true)

pub returns-clause-yes : goal.returns-clause-yes
returns-clause-yes c = λ yes _. rw c.deref.ensures.value at (c.is_in_words.ensures.yes yes)

pub returns-clause-no : goal.returns-clause-no
returns-clause-no c = λ no. inl ((c.in_ok-class_stated.ensures.yes (ap Ok c.in-Yes.is)).states, rw c.deref.ensures.value at (c.is_in_words.ensures.no no))
