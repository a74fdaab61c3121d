use Rattle.type_data.proofs.Common.{[], ap, append_assoc, arith, nat_tests, refl, ◌++◌, ◌∙◌, ◌∷◌, ◌≡◌}
use Rattle.base64.specs.Engines.{standard}
use Rattle.base64.specs.GeneralPurpose.{encode_of}
use Rattle.type_data.proofs.Printed.PassedNone.{none_passed}
use Rattle.type_data.specs.Parameters.Machine.Printed.{StopsAs}
use Rattle.type_data.proofs.parameters.printing.value.print_ech.Goals as goal

pub returns-in_err-print_base64-clause-none : goal.returns-in_err-print_base64-clause-none
returns-in_err-print_base64-clause-none c = none_passed c.from_residual-in_err-print_base64.result c.in_err-print_base64.field-0.0 ⊥ (StopsAs (c.args.value.now ≡ []) c.args.out.now.items c.print_base64.new.out.items) c.from_residual-in_err-print_base64.ensures.1 (λ never. absurd never) c.in_err-print_base64.ensures.err

pub returns-clause-printed : goal.returns-clause-printed
returns-clause-printed c = record {
  text = encode_of standard c.args.value.now;
  printed = (grind (arith, nat_tests, c.is_empty.ensures, c.if-is_empty.false), refl);
  appended = c.in_ok-print_base64.ensures.printed ∙ ap (λ t. t ++ encode_of standard c.args.value.now) c.in_ok-extend_from_slice.ensures.items ∙ append_assoc c.args.out.now.items (61 ∷ []) (encode_of standard c.args.value.now);
}
