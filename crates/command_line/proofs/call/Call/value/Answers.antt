use Rattle.std.proofs.Common.{◌∙◌, ap}
use Rattle.clap.proofs.WalkLemmas.{first_value-rows}
use Rattle.clap.specs.Words.{found_of}
use Rattle.command_line.specs.Calls.{Called, text_of}
use Rattle.command_line.proofs.call.Call.value.Goals as goal

pub returns : goal.returns
returns c =
    c.get_str.ensures ∙ first_value-rows (found_of c.self.inside.found) c.args.id.now
    ∙ ap (λ (call : Called). text_of call c.args.id.now) c.self.view_is
