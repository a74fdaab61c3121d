use Rattle.words_command.proofs.Halting.{refl, part_then}
use Rattle.zone_engine.proofs.Lines.{on_any_err, part_first}
use Rattle.words_command.proofs.filtering.write_both.Goals as goal

pub returns-in_err-write_octets-clause-part : goal.returns-in_err-write_octets-clause-part
returns-in_err-write_octets-clause-part g c =
    on_any_err _ _ (part_first _ _ _ c.args.octets.now c.args.others.now refl c.in_err-write_octets.ensures.part)

pub returns-in_err-write_octets-2-clause-part : goal.returns-in_err-write_octets-2-clause-part
returns-in_err-write_octets-2-clause-part g c =
    on_any_err _ _ (part_then _ _ _ _ c.args.octets.now c.args.others.now refl c.in_ok-write_octets.ensures.written c.in_err-write_octets-2.ensures.part)
