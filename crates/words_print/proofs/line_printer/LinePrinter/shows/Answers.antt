use Rattle.std.proofs.Common.{Ok, [], ap, refl, ◌++◌, ◌∙◌, ◌∷◌}
use Rattle.words_print.proofs.Fitting.{fits_if_canonical, line_shown, line_stays}
use Rattle.words_print.specs.Shown.{no_data, no_words}
use Rattle.type_data.specs.Table.{further_of}
use Rattle.words_print.proofs.line_printer.LinePrinter.shows.Goals as goal

pub returns-then-not-branch-clause-no : goal.returns-then-not-branch-clause-no
returns-then-not-branch-clause-no c = λ _. no_data (c.in_ok-find_octets.ensures.no (ap Ok c.if-not-branch.true)) refl

pub find_words-requires : goal.find_words-requires
find_words-requires c = record { further = further_of c.in-Some.found.further.now; row = c.in-Some.ensures.some.row; are = refl }

pub returns-then-not-branch-2-clause-no : goal.returns-then-not-branch-2-clause-no
returns-then-not-branch-2-clause-no c = λ _.
    no_words (c.in-Some.found.stem.now ++ 32 ∷ []) (further_of c.in-Some.found.further.now) c.find_octets.new.self.octets.items c.in-Some.found.end.now
    (c.in_ok-find_octets.ensures.yes (ap Ok c.if-not-branch.false)) (c.in_ok-find_words.ensures.no (ap Ok c.if-not-branch-2.true)) refl

pub fits-requires : goal.fits-requires
fits-requires c = record {
  canonical = fits_if_canonical c.args.line.now c.put_shown.new.self.shown.items c.find_words.new.self.words.items c.in-Some.found c.find_octets.new.self.octets.items (c.in_ok-find_words.ensures.yes (ap Ok c.if-not-branch-2.false))
      c.a_line_in_words_is_rewritten.ensures.entry c.a_line_in_words_is_rewritten.ensures.rewritten c.the_words_of_data.ensures c.in-Some.ensures.some
      (c.in_ok-find_octets.ensures.yes (ap Ok c.if-not-branch.false)) c.in_ok-put_shown.ensures.shown;
}

pub returns-clause-yes : goal.returns-clause-yes
returns-clause-yes c = λ yes.
    line_shown c.args.line.now c.fits.new.self.shown.items c.find_words.new.self.words.items c.in-Some.found c.find_octets.new.self.octets.items (c.in_ok-find_words.ensures.yes (ap Ok c.if-not-branch-2.false))
    (c.in_ok-find_octets.ensures.yes (ap Ok c.if-not-branch.false)) (c.fits.ensures.shown ∙ c.in_ok-put_shown.ensures.shown) (c.fits.ensures.yes yes)

pub returns-clause-no : goal.returns-clause-no
returns-clause-no c = λ no.
    line_stays c.args.line.now c.put_shown.new.self.shown.items c.find_words.new.self.words.items c.in-Some.found c.find_octets.new.self.octets.items (c.in_ok-find_words.ensures.yes (ap Ok c.if-not-branch-2.false))
    (c.in_ok-find_octets.ensures.yes (ap Ok c.if-not-branch.false)) c.in_ok-put_shown.ensures.shown (c.fits.ensures.no no)
