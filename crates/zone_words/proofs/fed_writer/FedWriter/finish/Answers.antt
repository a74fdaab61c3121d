use Rattle.zone_words.proofs.Common.{none_left, refl, some_left}
use Rattle.zone_words.proofs.FedTexts.{end_breaks, end_broken, end_last, end_none, on_err, refused_in_part}
use Rattle.zone_words.proofs.fed_writer.FedWriter.finish.Goals as goal
use Rattle.zone_words.proofs.fed_writer.FedWriter.finish.Goals.{then-self-via-then-self, then-self-via-else-self+then-is_empty}

pub returns-then-self-clause-all : goal.returns-then-self-clause-all
returns-then-self-clause-all c = elim c.then-self.branch [
  | then-self-via-then-self w ↦ end_broken _ w.if-self.true
  | then-self-via-else-self+then-is_empty w ↦ end_none _ w.if-self.false (rw (w.octets.ensures) at (none_left w.octets.result.now _ w.is_empty.result refl w.is_empty.ensures w.if-is_empty.true))
]

pub returns-in_err-end_entry-in-None-clause-in_part : goal.returns-in_err-end_entry-in-None-clause-in_part
returns-in_err-end_entry-in-None-clause-in_part c = on_err c.from_residual.result (refused_in_part _ _ c.in_err-end_entry-in-None.ensures.told c.in_err-end_entry-in-None.ensures.written)

pub returns-in_err-break_off-in-Some-clause-in_part : goal.returns-in_err-break_off-in-Some-clause-in_part
returns-in_err-break_off-in-Some-clause-in_part c = on_err c.from_residual-in_err-break_off-in-Some.result (refused_in_part _ _ c.in_err-break_off-in-Some.ensures.told c.in_err-break_off-in-Some.ensures.written)

pub returns-in_ok-end_entry-in-None-clause-all : goal.returns-in_ok-end_entry-in-None-clause-all
returns-in_ok-end_entry-in-None-clause-all c =
    end_last _ _ c.end_fault.result c.if-self.false (rw (c.octets.ensures) at (some_left c.octets.result.now _ c.is_empty.result refl c.is_empty.ensures c.if-is_empty.false)) (c.end_fault.ensures.open c.requires.is.state) c.in-None.is c.in_ok-end_entry-in-None.ensures.pushed

pub returns-in_ok-break_off-in-Some-clause-all : goal.returns-in_ok-break_off-in-Some-clause-all
returns-in_ok-break_off-in-Some-clause-all c =
    end_breaks _ _ c.end_fault.result _ c.if-self.false (c.end_fault.ensures.open c.requires.is.state) c.in-Some.is c.in_ok-break_off-in-Some.ensures.told c.in_ok-break_off-in-Some.ensures.pushed
