use Rattle.std.proofs.Common.{◌≡◌, ◌∙◌, false, sym, true}
use Rattle.std.proofs.lemmas.Bool.{false≢true}
use Rattle.std.proofs.lemmas.Slice.Eq.{bytes_eq-Decides}
use Rattle.words_print.proofs.Fitting.{wanted_line}
use Rattle.words_print.specs.Machine.Found.{with_octets}
use Rattle.words_print.proofs.line_printer.LinePrinter.has_octets.Goals as goal

whole : (c : goal.After-eq) → c.extend_from_slice-2.new.self.items ≡ with_octets c.args.found.now c.args.self.now.octets.items
whole c =
    wanted_line c.args.found.now.stem.now c.clear.new.self.items c.extend_from_slice.new.self.items c.push.new.self.items c.push_generic.new.out.items c.extend_from_slice-2.new.self.items _ c.args.found.now.end.now
    c.clear.ensures.items c.in_ok-extend_from_slice.ensures.items c.in_ok-push.ensures.items (rw c.deref.ensures.value at c.in_ok-push_generic.ensures) c.in_ok-extend_from_slice-2.ensures.items

pub returns-clause-yes : goal.returns-clause-yes
returns-clause-yes c = λ yes.
    let is : c.eq.result ≡ true = cc yes in
    sym ((bytes_eq-Decides c.as_slice.result.now c.args.line.now).0 (sym c.eq.ensures ∙ is)) ∙ c.as_slice.ensures.value ∙ whole c

pub returns-clause-no : goal.returns-clause-no
returns-clause-no c = λ no same.
    let isnt : c.eq.result ≡ false = cc no in
    false≢true (sym isnt ∙ c.eq.ensures ∙ (bytes_eq-Decides c.as_slice.result.now c.args.line.now).1 (c.as_slice.ensures.value ∙ whole c ∙ sym same))
