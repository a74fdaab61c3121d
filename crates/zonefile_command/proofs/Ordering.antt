-- From a call of one of the commands to the order, or to why there is none.
use Rattle.std.proofs.Common.{◌≡◌, List, Ok, Err, sym, subst}
use Rattle.std.specs.Prelude.{Result, IfErr, IsErrAnd}
use Rattle.clap.specs.Words.{Text}
use Rattle.command_line.specs.Calls.{Called, Calls, IsNoCall}
use Rattle.zonefile_command.specs.Machine.Ordering.{IsOfAction}
use Rattle.zonefile_command.specs.Order.{IsNoOrder, commands}
use Rattle.zonefile_command.specs.declared.no_order.NoOrder.{NoOrder}
use Rattle.zonefile_command.specs.declared.no_order.NoOrder.TheVariants.{BadMost, BadOrigin, NoCall}

module _ (words : List Text) (call : Called) (calls : Calls commands words call) where
  of_action : (why : NoOrder) → IsOfAction call why → IsNoOrder words why
  of_action BadOrigin refuses = (call, calls, refuses)
  of_action BadMost refuses = (call, calls, refuses)
  of_action (NoCall no_call) is = subst (IsNoCall commands words) (sym is) tt

  pub no_order : {T : Type 0} (r : Result T NoOrder) (why : NoOrder) → IsErrAnd r (λ e. e ≡ why) → IsOfAction call why → IfErr r (IsNoOrder words)
  no_order (Ok x) why is of = tt
  no_order (Err e) why is of = subst (IsNoOrder words) (sym is) (of_action why of)
