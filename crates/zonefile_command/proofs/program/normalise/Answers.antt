use Rattle.std.proofs.Common.{refl}
use Rattle.std.specs.Prelude.{string_bytes}
use Rattle.zonefile_command.proofs.Running.{gives_none, normalises}
use Rattle.zonefile_command.proofs.program.normalise.Goals as goal

pub returns-in-Ok-write_text : goal.returns-in-Ok-write_text
returns-in-Ok-write_text g c =
    normalises _ _ _ _ (g.E.OctetWriter.state c.args.errors.now) (g.E.OctetWriter.state c.args.errors.now) c.args.source.now _ _ (string_bytes c.args.source.now.file) refl c.args.notation c.in-Ok.zone c.in-Ok.ensures.zone c.in-Ok-write_text.ensures.text c.in-Ok-write_text.ensures.works

pub returns : goal.returns
returns g c =
    gives_none _ _ (g.W.OctetWriter.state c.args.output.now) (g.W.OctetWriter.state c.args.output.now) (g.E.OctetWriter.state c.args.errors.now) _ c.args.source.now _ _ c.as_str.result.now c.as_str.ensures.value c.args.notation c.in-Err.stop _ c.in-Err.ensures.none c.tell_stop.ensures
