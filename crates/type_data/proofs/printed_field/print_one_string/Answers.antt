use Rattle.std.proofs.lemmas.Result.{IfOk-weaker}
use Rattle.type_data.proofs.PrintedFields.{string_printed, string_unprinted}
use Rattle.type_data.proofs.PrintedKinds.{none_weaker}
use Rattle.type_data.proofs.printed_field.print_one_string.Goals as goal

pub returns-clause-printed : goal.returns-clause-printed
returns-clause-printed c = IfOk-weaker c.print_string.result _ _ (λ rest h. string_printed c.args.octets.now rest.now c.args.out.now.items c.push.new.self.items c.print_string.new.out.items c.in_ok-push.ensures.items h) c.print_string.ensures.printed

pub returns-clause-none : goal.returns-clause-none
returns-clause-none c = none_weaker c.print_string.result _ _ (λ h. string_unprinted c.args.octets.now h) c.print_string.ensures.none
