use Rattle.std.proofs.Common.{◌<◌, ◌≡◌, ◌∙◌, ap, arith, refl, sym}
use Rattle.zone_generate.proofs.ValueLines.{at_fault, no_values, values_more}
use Rattle.zone_generate.specs.Entry.{Generation}
use Rattle.zone_generate.specs.Lines.{Templates}
use Rattle.zone_generate.proofs.generated.Generated.next_line.Goals as goal

pub returns-then-self-eq0-clause-none : goal.returns-then-self-eq0-clause-none
returns-then-self-eq0-clause-none c = (ap (λ (g : Generation). g.values) (sym c.self.view_is) ∙ no_values _ _ _ c.if-self-eq0.true, refl, refl)

pub returns-in-Err-clause-fault : goal.returns-in-Err-clause-fault
returns-in-Err-clause-fault c =
    let left = c.self.inside.left in
    let some : 0 < left.count = omega (arith, c.if-self-eq0.false) in
    let t : Templates = record { owner = c.deref.result.now; middle = c.deref-2.result.now; rdata = c.deref-3.result.now } in
    let own : Templates = record { owner = c.self.inside.owner.items; middle = c.self.inside.middle.items; rdata = c.self.inside.rdata.items } in
    let lent : t ≡ own = λ i. record { owner = c.deref.ensures.value i; middle = c.deref-2.ensures.value i; rdata = c.deref-3.ensures.value i } in
    at_fault c.in-Err.failing c.args.self.now t left.start _
    (lent ∙ ap (λ (g : Generation). g.templates) c.self.view_is)
    (ap (λ (g : Generation). g.values) (sym c.self.view_is) ∙ values_more left.count left.step left.start some) c.in-Err.ensures.fault
