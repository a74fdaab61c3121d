use Rattle.zone_wire.proofs.Common.{ap, arith, asked, found_by, map, u16_at, ◌≡◌}
use Rattle.zone_wire.proofs.Records.Pending.{has_one_question, question_of_name}
use Rattle.zone_wire.proofs.message.Message.question.Goals as goal

pub u16_at-requires-in-Ok : goal.u16_at-requires-in-Ok
u16_at-requires-in-Ok c =
    let some : u16_at c.self.inside.octets.now 4 ≡ 0 → ⊥ = rw c.u16_at.ensures at c.if-u16_at-eq0.false in
    let is = question_of_name c.self.inside.octets.now _ (has_one_question c.self.inside.octets.now _ c.self.invariant.message some) (found_by c.in-Ok.field-0 c.in-Ok.ensures.found.0) c.in-Ok.ensures.found.1 in
    omega (arith, is.1.inside)

pub u16_at-requires-in-Ok-2 : goal.u16_at-requires-in-Ok-2
u16_at-requires-in-Ok-2 c =
    let some : u16_at c.self.inside.octets.now 4 ≡ 0 → ⊥ = rw c.u16_at.ensures at c.if-u16_at-eq0.false in
    let is = question_of_name c.self.inside.octets.now _ (has_one_question c.self.inside.octets.now _ c.self.invariant.message some) (found_by c.in-Ok.field-0 c.in-Ok.ensures.found.0) c.in-Ok.ensures.found.1 in
    omega (arith, is.1.inside)

pub unreachable-requires : goal.unreachable-requires
unreachable-requires c =
    let some : u16_at c.self.inside.octets.now 4 ≡ 0 → ⊥ = rw c.u16_at.ensures at c.if-u16_at-eq0.false in
    let one = has_one_question c.self.inside.octets.now _ c.self.invariant.message some in
    let none = c.in-Err.ensures.only one.is.found one.is.name in
    cc

pub returns : goal.returns
returns c =
    let some : u16_at c.self.inside.octets.now 4 ≡ 0 → ⊥ = rw c.u16_at.ensures at c.if-u16_at-eq0.false in
    let is = question_of_name c.self.inside.octets.now _ (has_one_question c.self.inside.octets.now _ c.self.invariant.message some) (found_by c.in-Ok.field-0 c.in-Ok.ensures.found.0) c.in-Ok.ensures.found.1 in
    rw (c.u16_at-in-Ok.ensures, c.u16_at-in-Ok-2.ensures, ← c.self.view_is) (ap (map asked) is.0)
