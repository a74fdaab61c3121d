use Rattle.type_data.proofs.Common.{arith, subst, ℕ, ◌+◌, ◌≡◌}
use Rattle.type_data.proofs.Printed.PassedNone.{none_passed}
use Rattle.type_data.proofs.OfKinds.Types.Printed.{bit_of, no_bit_of, none_between, one_between, then_between}
use Rattle.type_data.specs.Kinds.Types.Machine.{IsInOctet, PrintsBetween}
use Rattle.type_data.proofs.kinds.types.print_octet.Goals as goal
use Rattle.type_data.proofs.kinds.types.print_octet.Goals.{then-octet-place-eq1+in_ok-print_kind, else-octet-place-eq1}

pub returns-in_err-print_kind-clause-none : goal.returns-in_err-print_kind-clause-none
returns-in_err-print_kind-clause-none c =
    none_passed c.from_residual.result c.in_err-print_kind.field-0.0 _ _ c.from_residual.ensures.1 (λ other. (c.args.first + c.loop-place.place, (omega arith, omega arith, bit_of c.args.first c.args.octet c.loop-place.place c.if-octet-place-eq1.true, other))) c.in_err-print_kind.ensures.none

pub loop-place-preserved : goal.loop-place-preserved
loop-place-preserved c =
    then_between (IsInOctet c.args.first c.args.octet) c.args.first (c.args.first + c.loop-place.place) _ c.args.out.now.items c.loop-place.out.items _ (omega arith) (omega arith) c.loop-place.invariant (elim c.if-octet-place-eq1.branch [
      | then-octet-place-eq1+in_ok-print_kind w ↦ one_between _ _ _ _ _ (omega arith) (bit_of c.args.first c.args.octet c.loop-place.place w.if-octet-place-eq1.true) w.in_ok-print_kind.ensures.kind (let is = w.out-is in let p = w.in_ok-print_kind.ensures.printed in cc)
      | else-octet-place-eq1 w ↦ rw w.out-is (none_between _ _ _ _ (λ n low high. no_bit_of c.args.first c.args.octet c.loop-place.place n w.if-octet-place-eq1.false (omega arith)))
    ])

pub returns-clause-printed : goal.returns-clause-printed
returns-clause-printed c =
    let all : c.loop-place.place ≡ 8 = omega arith in
    subst (λ (n : ℕ). PrintsBetween (IsInOctet c.args.first c.args.octet) c.args.first (c.args.first + n) c.args.out.now.items c.loop-place.out.items) all c.loop-place.invariant
