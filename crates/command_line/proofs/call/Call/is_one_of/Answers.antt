use Rattle.std.proofs.Common.{◌∙◌, arith, refl, sym}
use Rattle.std.proofs.lemmas.Bool.{false≢true}
use Rattle.command_line.proofs.Rows.{none_later, one_at, one_later}
use Rattle.command_line.proofs.call.Call.is_one_of.Goals as goal

pub loop-row-init : goal.loop-row-init
loop-row-init c = λ one. one

pub loop-row-preserved : goal.loop-row-preserved
loop-row-preserved c =
    λ one. one_later _ c.args.commands.now c.loop-row.row-index _ c.loop-row-test.true (λ here. false≢true (sym c.if-is_of.false ∙ c.is_of.ensures.1 here)) (c.loop-row.invariant one)

pub returns-then-is_of : goal.returns-then-is_of
returns-then-is_of c =
    (λ e. one_at _ c.args.commands.now c.loop-row.row-index _ c.loop-row-test.true (c.is_of.ensures.0 c.if-is_of.true), λ one. refl)

pub returns : goal.returns
returns c =
    (λ e. absurd (false≢true e), λ one. absurd (none_later _ c.args.commands.now c.loop-row.row-index (omega (arith, c.loop-row-test.false)) (c.loop-row.invariant one)))
