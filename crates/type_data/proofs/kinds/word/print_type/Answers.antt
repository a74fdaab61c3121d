use Rattle.type_data.proofs.Common.{IsKind, IsTypeWord, refl, subst, w16, ◌≡◌}
use Rattle.type_data.proofs.Printed.Fronts.{number_printed}
use Rattle.type_data.specs.Kinds.Word.{type_word}
use Rattle.type_data.proofs.kinds.word.print_type.Goals as goal

pub returns-clause-printed : goal.returns-clause-printed
returns-clause-printed c =
    number_printed w16 (λ text n. (text ≡ type_word n) × IsKind n) IsTypeWord c.in_ok-number.number _ _ _ _ (type_word c.in-Some.kind) (λ n. refl) c.in_ok-number.ensures.few c.in_ok-number.ensures.whole
    (cc (c.in-Some.ensures.found.0, c.from.ensures), subst IsKind c.from.ensures c.in-Some.ensures.found.1) c.in_ok-print_type_word.ensures
