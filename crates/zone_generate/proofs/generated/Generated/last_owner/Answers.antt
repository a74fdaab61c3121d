use Rattle.std.proofs.Common.{◌+◌, ◌-◌, ◌*◌, ◌<◌, ◌≡◌, ◌∙◌, [], ap, arith, sym}
use Rattle.zone_generate.proofs.ValueLines.{appended_last, last_said, no_values}
use Rattle.zone_generate.specs.Entry.{Generation}
use Rattle.zone_generate.specs.Lines.{Templates, last_owner}
use Rattle.zone_generate.specs.Template.{expanded}
use Rattle.zone_generate.proofs.generated.Generated.last_owner.Goals as goal

pub returns-then-self-eq0 : goal.returns-then-self-eq0
returns-then-self-eq0 c =
    let none : c.args.self.now.values ≡ [] = ap (λ (g : Generation). g.values) (sym c.self.view_is) ∙ no_values _ _ _ c.if-self-eq0.true in
    sym (ap (last_owner c.args.self.now.templates) none)

pub returns-in-Ok : goal.returns-in-Ok
returns-in-Ok c =
    let left = c.self.inside.left in
    let some : 0 < left.count = omega (arith, c.if-self-eq0.false) in
    let own : Templates = record { owner = c.self.inside.owner.items; middle = c.self.inside.middle.items; rdata = c.self.inside.rdata.items } in
    appended_last _ _ _ c.new-owner.ensures.items c.in-Ok.ensures.written
    ∙ ap (expanded (left.start + (left.count - 1) * left.step)) c.deref.ensures.value
    ∙ sym (last_said own left.count left.step left.start some)
    ∙ ap (λ (g : Generation). last_owner g.templates g.values) c.self.view_is

pub returns-in-Err-SaysNothing : goal.returns-in-Err-SaysNothing
returns-in-Err-SaysNothing c =
    let left = c.self.inside.left in
    let some : 0 < left.count = omega (arith, c.if-self-eq0.false) in
    let own : Templates = record { owner = c.self.inside.owner.items; middle = c.self.inside.middle.items; rdata = c.self.inside.rdata.items } in
    sym (rw c.in-Err-SaysNothing.field-0-is at c.in-Err-SaysNothing.ensures.fault)
    ∙ ap (expanded (left.start + (left.count - 1) * left.step)) c.deref.ensures.value
    ∙ sym (last_said own left.count left.step left.start some)
    ∙ ap (λ (g : Generation). last_owner g.templates g.values) c.self.view_is
