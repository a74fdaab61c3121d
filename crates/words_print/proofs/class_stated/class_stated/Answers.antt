use Rattle.std.proofs.Common.{◌∙◌, ap, arith, length, map, sym}
use Rattle.std.proofs.lemmas.List.{length-map}
use Rattle.zone_rdata.specs.Item.{raw}
use Rattle.zone_text.specs.Stated.{statement_in}
use Rattle.words_print.proofs.Classed.{broken_not_classed, classed, more_behind, not_classed, open_not_classed}
use Rattle.words_print.proofs.class_stated.class_stated.Goals as goal

pub returns-else-has_class-clause-no : goal.returns-else-has_class-clause-no
returns-else-has_class-clause-no c = λ _. not_classed c.args.octets.now c.in-Whole.len (map raw c.first_entry.new.items.items) (statement_in c.statement_of.result) (rw c.in-Whole.is at c.in_ok-len.ensures.found) (omega (arith, c.if-len-octets.false)) (omega (arith, length-map c.first_entry.new.items.items raw, c.len.ensures, c.if-len-ge-MOST_ITEMS.false, c.deref.ensures.len, ap length c.deref.ensures.value)) (rw c.deref.ensures.value at c.statement_of.ensures) (sym c.has_class.ensures ∙ c.if-has_class.false)

pub returns-in-Open-clause-no : goal.returns-in-Open-clause-no
returns-in-Open-clause-no c = λ _. open_not_classed c.args.octets.now (rw c.in-Open.is at c.in_ok-len.ensures.found).0

pub returns-in-BadEscape-clause-no : goal.returns-in-BadEscape-clause-no
returns-in-BadEscape-clause-no c = λ _. broken_not_classed c.args.octets.now _ (rw c.in-BadEscape.is at c.in_ok-len.ensures.found).0

pub returns-in-UnbalancedParenthesis-clause-no : goal.returns-in-UnbalancedParenthesis-clause-no
returns-in-UnbalancedParenthesis-clause-no c = λ _. broken_not_classed c.args.octets.now _ (rw c.in-UnbalancedParenthesis.is at c.in_ok-len.ensures.found).0

pub returns-then-len-octets-clause-no : goal.returns-then-len-octets-clause-no
returns-then-len-octets-clause-no c = λ _. more_behind c.args.octets.now c.in-Whole.len (map raw c.first_entry.new.items.items) (rw c.in-Whole.is at c.in_ok-len.ensures.found) c.if-len-octets.true

pub returns-then-has_class-clause-yes : goal.returns-then-has_class-clause-yes
returns-then-has_class-clause-yes c = λ _. classed c.args.octets.now c.in-Whole.len (map raw c.first_entry.new.items.items) (statement_in c.statement_of.result) (rw c.in-Whole.is at c.in_ok-len.ensures.found) (omega (arith, c.if-len-octets.false)) (omega (arith, length-map c.first_entry.new.items.items raw, c.len.ensures, c.if-len-ge-MOST_ITEMS.false, c.deref.ensures.len, ap length c.deref.ensures.value)) (rw c.deref.ensures.value at c.statement_of.ensures) (sym c.has_class.ensures ∙ c.if-has_class.true)
