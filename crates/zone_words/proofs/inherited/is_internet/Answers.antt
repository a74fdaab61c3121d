use Rattle.zone_words.proofs.Common.{IsClass, arith, class_word_once, in_class, subst, sym}
use Rattle.zone_words.proofs.Classes.{is_in}
use Rattle.zone_words.proofs.inherited.is_internet.Goals as goal

pub returns-in-Ok-Some : goal.returns-in-Ok-Some
returns-in-Ok-Some c = is_in c.args.word.now c.in-Ok-Some.class c.number.result (rw c.in-Ok-Some.field-0-is at c.in-Ok-Some.ensures.found) c.number.ensures.value

pub returns-in-Ok-None : goal.returns-in-Ok-None
returns-in-Ok-None c = (λ e. absurd cc, λ is. absurd ((rw c.in-Ok-None.field-0-is at c.in-Ok-None.ensures.none) in_class is))

pub returns-in-Err : goal.returns-in-Err
returns-in-Err c = let bad = c.in-Err.ensures.err in (λ e. absurd cc, λ one. absurd (bad.1.1.1 (subst IsClass (sym (class_word_once c.args.word.now bad.1.0 in_class bad.1.1.0 one)) (record { short = omega arith; not_zero = λ e. absurd cc; not_none = λ e. absurd cc; not_any = λ e. absurd cc }))))
