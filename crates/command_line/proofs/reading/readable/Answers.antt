use Rattle.std.proofs.Common.{◌∙◌, List, ap, arith, map, true}
use Rattle.std.proofs.lemmas.List.{take_all}
use Rattle.clap.specs.Simple.{app_of_fields}
use Rattle.clap.specs.Words.{App, app_of, with_subcommand}
use Rattle.command_line.specs.Calls.{program_of}
use Rattle.command_line.specs.Program.{app_of_command}
use Rattle.command_line.specs.declared.program.ProgramCommand.{ProgramCommand}
use Rattle.command_line.proofs.Adding.{one_command_more}
use Rattle.command_line.proofs.reading.readable.Goals as goal

pub loop-row-preserved : goal.loop-row-preserved
loop-row-preserved c = one_command_more _ c.args.program.now.commands.now c.loop-row.row-index _ c.loop-row.command c.in_ok-command.command c.loop-row-test.true c.loop-row.invariant (c.in_ok-command.ensures.shape c.in_ok-readable_command.ensures.local ∙ ap (λ (app : App). with_subcommand (app_of c.loop-row.command) app.top) c.in_ok-readable_command.ensures.app)

pub returns-clause-app : goal.returns-clause-app
returns-clause-app c =
    c.with_texts.ensures.app ∙ ap app_of_fields c.version-command.ensures
    ∙ ap (λ (app : App). record app { top = record app.top { has_version = true } }) c.loop-row.invariant
    ∙ ap (λ (rows : List ProgramCommand). program_of c.args.program.now.name.now (map app_of_command rows)) (take_all c.loop-row.row-index c.args.program.now.commands.now (omega (arith, c.loop-row-test.false)))
