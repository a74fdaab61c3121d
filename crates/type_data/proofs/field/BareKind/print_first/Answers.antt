use Rattle.std.proofs.lemmas.Result.{IfOk-weaker}
use Rattle.type_data.proofs.PrintedFields.{first_printed, first_unprinted}
use Rattle.type_data.proofs.PrintedKinds.{none_weaker}
use Rattle.type_data.proofs.field.BareKind.print_first.Goals as goal

pub returns-clause-printed : goal.returns-clause-printed
returns-clause-printed c = IfOk-weaker c.print.result _ _ (λ rest h. first_printed c.args.self c.args.octets.now rest.now c.args.out.now.items c.push.new.self.items c.print.new.out.items c.in_ok-push.ensures.items h) c.print.ensures.printed

pub returns-clause-none : goal.returns-clause-none
returns-clause-none c = none_weaker c.print.result _ _ (λ h. first_unprinted c.args.self c.args.octets.now h) c.print.ensures.none
