use Rattle.words_print.proofs.Heads.{each_plain, plain_bare}
use Rattle.words_print.proofs.canonical_head.is_plain_word.Goals as goal
use Rattle.std.proofs.Common.{arith, length, sym, ◌∙◌}
use Rattle.std.proofs.lemmas.Bool.{eqb-false}

pub returns-then-not-is_empty : goal.returns-then-not-is_empty
returns-then-not-is_empty c = λ is. plain_bare c.args.text.now (omega (arith, eqb-false (length c.args.text.now) 0 (sym c.is_empty.ensures ∙ c.if-not-is_empty.true))) (each_plain c.args.text.now (c.are_plain.ensures is))
