use Rattle.faulty_items.proofs.Common.{arith}
use Rattle.type_data.specs.Table.{further_of}
use Rattle.faulty_items.proofs.EntryParts.{not_in_class}
use Rattle.faulty_items.proofs.entry.further_in.Goals as goal

pub returns-then-number-ne1-clause-none : goal.returns-then-number-ne1-clause-none
returns-then-number-ne1-clause-none c =
    not_in_class c.args.class c.args.word.now (further_of c.in_ok-further.further.now) c.a_word_is_one_further_type.ensures c.in_ok-further.ensures.found c.if-further.true
    (λ e. grind (arith, c.if-number-ne1.true, c.number.ensures.value, e))
