use Rattle.type_data.proofs.Common.{[], ap, append_assoc, arith, nat_tests, refl, ◌++◌, ◌∙◌, ◌∷◌}
use Rattle.zone_rdata.specs.Strings.{inside_text, string_text}
use Rattle.type_data.specs.Parameters.Printed.{in_quotes}
use Rattle.type_data.proofs.parameters.printing.value.print_opaque.Goals as goal

pub returns : goal.returns
returns c = record {
  text = in_quotes (inside_text c.args.value.now);
  printed = (grind (arith, nat_tests, c.is_empty.ensures, c.if-is_empty.false), refl);
  appended = c.in_ok-push_string_text.ensures.ok ∙ ap (λ t. t ++ string_text c.args.value.now) c.in_ok-extend_from_slice.ensures.items ∙ append_assoc c.args.out.now.items (61 ∷ []) (string_text c.args.value.now);
}
