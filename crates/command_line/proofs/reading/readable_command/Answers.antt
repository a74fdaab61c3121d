use Rattle.std.proofs.Common.{◌∙◌, List, ap, arith, map}
use Rattle.std.proofs.lemmas.List.{take_all}
use Rattle.command_line.specs.Calls.{command_with}
use Rattle.command_line.specs.Program.{rule_of_argument}
use Rattle.command_line.specs.declared.program.Argument.{Argument}
use Rattle.command_line.proofs.Adding.{one_argument_more}
use Rattle.command_line.proofs.reading.readable_command.Goals as goal

pub loop-argument-preserved : goal.loop-argument-preserved
loop-argument-preserved c = one_argument_more _ c.args.row.now.arguments.now c.loop-argument.argument-index _ c.loop-argument.command _ c.readable_argument.result c.loop-argument-test.true c.loop-argument.invariant c.readable_argument.ensures.rule c.readable_argument.ensures.local c.in_ok-command.ensures

pub returns-clause-app : goal.returns-clause-app
returns-clause-app c =
    c.with_texts.ensures.app ∙ c.loop-argument.invariant.is
    ∙ ap (λ (rows : List Argument). command_with c.args.row.now.word.now (map rule_of_argument rows)) (take_all c.loop-argument.argument-index c.args.row.now.arguments.now (omega (arith, c.loop-argument-test.false)))
