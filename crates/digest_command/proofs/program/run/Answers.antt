use Rattle.std.proofs.Common.{ℕ, List, subst}
use Rattle.std.proofs.KnownBytes.{Keeps-refl}
use Rattle.std.specs.Io.KnownBytes.{Appends}
use Rattle.zone_print.specs.Writing.{AppendsPart}
use Rattle.digest_command.specs.Run.{done, stopped}
use Rattle.digest_command.proofs.Answering.{few_read, not_written, stopped_by}
use Rattle.digest_command.proofs.Statuses.{tells_known}
use Rattle.digest_command.proofs.program.run.Goals as goal

pub returns-in-Err-clause-ran : goal.returns-in-Err-clause-ran
returns-in-Err-clause-ran g c =
    stopped c.in-Err.stop c.report.result (stopped_by c.args.order.now _ _ c.in-Err.stop c.in-Err.ensures.stopped (Keeps-refl _, λ w. w)) c.report.ensures

pub returns-in-Err-clause-few : goal.returns-in-Err-clause-few
returns-in-Err-clause-few g c = few_read _ _ _ c.in-Err.stop c.in-Err.ensures.stopped

pub returns-in-Ok-write_octets-clause-ran : goal.returns-in-Ok-write_octets-clause-ran
returns-in-Ok-write_octets-clause-ran g c =
    done c.in-Ok.answer.text.items c.in-Ok.answer.status c.in-Ok.ensures.answered c.in-Ok.ensures.read (subst (λ (t : List ℕ). Appends (g.W.OctetWriter.state c.args.output.now).octets (g.W.OctetWriter.state c.write_octets.new.writer).octets t) c.as_slice.ensures.value c.in-Ok-write_octets.ensures.written) c.in-Ok-write_octets.ensures.works (Keeps-refl _, λ w. w)

pub returns-clause-ran : goal.returns-clause-ran
returns-clause-ran g c =
    stopped c.in-Err-write_octets.stop c.report-in-Err-write_octets.result
    (not_written c.args.order.now _ _ c.in-Err-write_octets.stop c.in-Ok.answer.text.items c.in-Ok.answer.status c.in-Ok.ensures.answered c.in-Ok.ensures.read (subst (λ (t : List ℕ). AppendsPart (g.W.OctetWriter.state c.args.output.now).octets (g.W.OctetWriter.state c.write_octets.new.writer).octets t) c.as_slice.ensures.value c.in-Err-write_octets.ensures.part) c.in-Err-write_octets.ensures.failed) c.report-in-Err-write_octets.ensures

pub returns-in-Err-clause-told : goal.returns-in-Err-clause-told
returns-in-Err-clause-told g c = tells_known c.one_zone.ensures c.no_zone_of_a_refused_input.ensures c.args.order.now _ _ _ (returns-in-Err-clause-ran g c)

pub returns-in-Ok-write_octets-clause-told : goal.returns-in-Ok-write_octets-clause-told
returns-in-Ok-write_octets-clause-told g c = tells_known c.one_zone.ensures c.no_zone_of_a_refused_input.ensures c.args.order.now _ _ _ (returns-in-Ok-write_octets-clause-ran g c)

pub returns-clause-told : goal.returns-clause-told
returns-clause-told g c = tells_known c.one_zone.ensures c.no_zone_of_a_refused_input.ensures c.args.order.now _ _ _ (returns-clause-ran g c)
