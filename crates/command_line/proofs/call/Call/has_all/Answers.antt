use Rattle.std.proofs.Common.{◌∙◌, arith, refl, sym}
use Rattle.std.proofs.lemmas.Bool.{false≢true}
use Rattle.command_line.proofs.Rows.{all_at, all_before, all_past}
use Rattle.command_line.proofs.call.Call.has_all.Goals as goal

pub loop-argument-init : goal.loop-argument-init
loop-argument-init c = λ all. all

pub loop-argument-preserved : goal.loop-argument-preserved
loop-argument-preserved c =
    λ all. c.loop-argument.invariant (all_before _ c.args.arguments.now c.loop-argument.argument-index _ c.loop-argument-test.true (c.has.ensures.0 c.if-not-has.false) all)

pub returns-then-not-has : goal.returns-then-not-has
returns-then-not-has c =
    (λ e. absurd (false≢true e), λ all. sym c.if-not-has.true ∙ c.has.ensures.1 (all_at _ c.args.arguments.now c.loop-argument.argument-index _ c.loop-argument-test.true all))

pub returns : goal.returns
returns c =
    (λ e. c.loop-argument.invariant (all_past _ c.args.arguments.now c.loop-argument.argument-index (omega (arith, c.loop-argument-test.false))), λ all. refl)
