use Rattle.std.proofs.Common.{[], Ok, ap, subst, sym}
use Rattle.std.proofs.lemmas.Bool.{false≢true}
use Rattle.zone_words.specs.Entry.{IsRewriting}
use Rattle.words_print.proofs.Told.{not_told}
use Rattle.words_print.proofs.line_printer.is_in_words.Goals as goal

pub returns-in_default : goal.returns-in_default
returns-in_default c = record {
  yes = λ bad. absurd (false≢true (cc bad));
  no = λ _. not_told c.in_ok-class_stated.field-0 c.args.wanted.now c.args.text.now c.in_default.not-Yes (λ e. c.in_ok-class_stated.ensures.no (ap Ok e)) (λ e. c.in_ok-class_stated.ensures.untold (ap Ok e)) c.requires;
}

pub returns-then-not-branch-clause-no : goal.returns-then-not-branch-clause-no
returns-then-not-branch-clause-no c = λ _ r. c.in_ok-is_rewritten.ensures.no (ap Ok c.if-not-branch.true) (subst (λ o. IsRewriting o c.args.text.now c.args.wanted.now []) (sym c.root.ensures) r.under_root)

pub returns-clause-yes : goal.returns-clause-yes
returns-clause-yes c = λ yes. record {
  states = (c.in_ok-class_stated.ensures.yes (ap Ok c.in-Yes.is)).states;
  under_root = subst (λ o. IsRewriting o c.args.text.now c.args.wanted.now []) c.root.ensures (c.in_ok-is_rewritten.ensures.yes (ap Ok c.if-not-branch.false));
  under_another = subst (λ o. IsRewriting o c.args.text.now c.args.wanted.now []) c.other_origin.ensures (c.is_rewritten-2.ensures.yes yes);
}

pub returns-clause-no : goal.returns-clause-no
returns-clause-no c = λ no r. c.is_rewritten-2.ensures.no no (subst (λ o. IsRewriting o c.args.text.now c.args.wanted.now []) (sym c.other_origin.ensures) r.under_another)
