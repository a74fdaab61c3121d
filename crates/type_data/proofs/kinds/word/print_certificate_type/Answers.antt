use Rattle.type_data.proofs.Common.{IsNumberOrMnemonic, certificate_types, refl, w16, ◌≡◌}
use Rattle.type_data.proofs.Printed.Fronts.{number_printed}
use Rattle.type_data.specs.Kinds.Word.{certificate_word}
use Rattle.type_data.proofs.kinds.word.print_certificate_type.Goals as goal

pub returns-clause-printed : goal.returns-clause-printed
returns-clause-printed c =
    number_printed w16 (λ text n. text ≡ certificate_word n) (IsNumberOrMnemonic certificate_types) c.in_ok-number.number _ _ _ _ _ (λ n. refl) c.in_ok-number.ensures.few c.in_ok-number.ensures.whole refl c.in_ok-print_certificate_word.ensures
