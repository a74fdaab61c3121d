use Rattle.type_data.proofs.Common.{StatesPath, arith, fault_passed, nat_tests}
use Rattle.type_data.proofs.OfParameters.Escapes.{path_empty, path_wrong}
use Rattle.type_data.proofs.parameters.single.read_path.Goals as goal

pub returns-then-is_empty-clause-fault : goal.returns-then-is_empty-clause-fault
returns-then-is_empty-clause-fault c = rw c.into.ensures (path_empty c.args.text.now (grind (arith, nat_tests, c.is_empty.ensures, c.if-is_empty.true)))

pub returns-in_err-push_unescaped-clause-fault : goal.returns-in_err-push_unescaped-clause-fault
returns-in_err-push_unescaped-clause-fault c = fault_passed c.from_residual.result c.in_err-push_unescaped.field-0.0 _ _ c.from_residual.ensures.1 (λ fault is. path_wrong StatesPath c.args.text.now fault is) c.in_err-push_unescaped.ensures.fault
