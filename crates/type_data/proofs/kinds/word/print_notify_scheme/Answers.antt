use Rattle.type_data.proofs.Common.{IsNumberOrMnemonic, notify_schemes, refl, w8, ◌≡◌}
use Rattle.type_data.proofs.Printed.Fronts.{number_printed, one_octet}
use Rattle.type_data.specs.Kinds.Word.{notify_scheme_word}
use Rattle.type_data.proofs.kinds.word.print_notify_scheme.Goals as goal

pub returns-clause-printed : goal.returns-clause-printed
returns-clause-printed c =
    number_printed w8 (λ text n. text ≡ notify_scheme_word n) (IsNumberOrMnemonic notify_schemes) c.in_ok-number.number _ _ _ _ _ (λ n. refl) c.in_ok-number.ensures.few (one_octet c.in_ok-number.number _ _ c.in_ok-number.ensures.few c.in_ok-number.ensures.whole) refl c.in_ok-print_notify_scheme_word.ensures
