use Rattle.std.proofs.Common.{subst, sym, ◌∙◌}
use Rattle.std.proofs.lemmas.Bool.{false≢true}
use Rattle.zone_rdata.specs.Words.{IsClassWord}
use Rattle.words_print.proofs.DataEnds.{found_in, no_class, no_cut_no_data, no_such_class, no_type}
use Rattle.words_print.proofs.generic_line.generic_line.Goals as goal
use Rattle.words_print.proofs.generic_line.generic_line.Goals.{else-further-via-then-further+else-number-ne1, else-further-via-else-further}

pub returns-in_err-cut-clause-none : goal.returns-in_err-cut-clause-none
returns-in_err-cut-clause-none c = rw c.from_residual.ensures (no_cut_no_data c.args.line.now c.in_err-cut.ensures.none)

pub returns-in_err-class_of-clause-none : goal.returns-in_err-class_of-clause-none
returns-in_err-class_of-clause-none c =
    rw c.from_residual-in_err-class_of.ensures
    (no_class c.args.line.now c.in_ok-cut.cut.stem.now c.split_class.result.1.now c.in_ok-cut.cut.word.now c.in_ok-cut.cut.form.now c.in_ok-cut.cut.end.now c.split_class.result.0.now c.in_ok-cut.ensures.some c.split_class.ensures.parted c.split_class.ensures.at_a_word c.split_class.ensures.none c.in_err-class_of.ensures.none)

pub returns-in_err-further-clause-none : goal.returns-in_err-further-clause-none
returns-in_err-further-clause-none c =
    rw c.from_residual-in_err-further.ensures
    (no_type c.args.line.now c.in_ok-cut.cut.stem.now c.split_class.result.1.now c.in_ok-cut.cut.word.now c.in_ok-cut.cut.form.now c.in_ok-cut.cut.end.now c.split_class.result.0.now c.in_ok-cut.ensures.some c.split_class.ensures.parted c.split_class.ensures.at_a_word c.split_class.ensures.none c.in_err-further.ensures.none)

pub returns-then-number-ne1-clause-none : goal.returns-then-number-ne1-clause-none
returns-then-number-ne1-clause-none c =
    no_such_class c.args.line.now c.in_ok-cut.cut.stem.now c.split_class.result.1.now c.in_ok-cut.cut.word.now c.in_ok-cut.cut.form.now c.in_ok-cut.cut.end.now c.split_class.result.0.now c.in_ok-cut.ensures.some c.split_class.ensures.parted c.split_class.ensures.at_a_word c.split_class.ensures.none c.number-number.result _ (subst (IsClassWord c.split_class.result.1.now) (sym c.number-number.ensures.value) c.in_ok-class_of.ensures.some) c.in_ok-further.ensures.found c.if-further.true c.if-number-ne1.true

pub returns-clause-some : goal.returns-clause-some
returns-clause-some c =
    found_in c.args.line.now c.in_ok-cut.cut.word.now c.in_ok-cut.cut.form.now _ c.number-number.result c.in_ok-cut.ensures.some c.split_class.ensures.parted c.split_class.ensures.at_a_word c.split_class.ensures.none (subst (IsClassWord c.split_class.result.1.now) (sym c.number-number.ensures.value) c.in_ok-class_of.ensures.some) c.number-number.ensures.class c.in_ok-further.ensures.found
    (λ alone. elim c.else-further.branch [
      | else-further-via-then-further+else-number-ne1 w ↦ w.if-number-ne1.false
      | else-further-via-else-further w ↦ absurd (false≢true (sym w.if-further.false ∙ alone))
    ])
    c.digits_of.ensures
