-- The writer took all but the lines in the buffer and those to come, or a part of them.
use Rattle.zone_print.proofs.Common.{◌++◌, [], sym, ap, ◌∙◌, err_from_is_err_and, MatchResult-weaker}
use Rattle.zone_print.proofs.Front.{left_less, left_none, part_left, part_more}
use Rattle.zone_print.proofs.Lines.{line_moves, line_ends, line_to_come}
use Rattle.zone_print.proofs.print.write_lines.Goals as goal

pub returns-in_err-push_record-clause-part : goal.returns-in_err-push_record-clause-part
returns-in_err-push_record-clause-part g c =
    let p = err_from_is_err_and c.from_residual.result c.from_residual.ensures.1 in
    rw p.1 (part_left _ _ _ _ c.loop-rr.invariant.left (line_to_come c.loop-rr.buffer _ _ _ c.in-Some.ensures.steps))

pub returns-in_err-write_octets-clause-part : goal.returns-in_err-write_octets-clause-part
returns-in_err-write_octets-clause-part g c =
    let p = err_from_is_err_and c.from_residual-in_err-write_octets.result c.from_residual-in_err-write_octets.ensures.1 in
    let moved = line_moves c.loop-rr.buffer c.as_slice.result.now _ _ _ c.in-Some.ensures.steps (c.as_slice.ensures.value ∙ c.in_ok-push_record.ensures) in
    rw p.1 (part_more _ _ _ _ _ _ _ c.loop-rr.invariant.left moved c.in_err-write_octets.ensures.part)

pub loop-rr-preserved-then-len-ge-WRITE_LEN : goal.loop-rr-preserved-then-len-ge-WRITE_LEN
loop-rr-preserved-then-len-ge-WRITE_LEN g c =
    let moved = line_moves c.loop-rr.buffer c.as_slice.result.now _ _ _ c.in-Some.ensures.steps (c.as_slice.ensures.value ∙ c.in_ok-push_record.ensures) in
    record {
      left = rw c.clear.ensures.items (left_less _ _ _ _ _ _ _ c.loop-rr.invariant.left moved c.in_ok-write_octets.ensures.written);
      works = λ worked. c.in_ok-write_octets.ensures.works (c.loop-rr.invariant.works worked);
    }

pub returns-clause-part : goal.returns-clause-part
returns-clause-part g c =
    let whole = line_ends c.loop-rr.buffer _ c.in-None.ensures.steps.0 ∙ ap (λ l. l ++ []) (sym c.as_slice-2.ensures.value) in
    MatchResult-weaker c.write_octets-2.result c.write_octets-2.ensures.part (λ x h. h) (λ stop. part_more _ _ _ _ _ _ _ c.loop-rr.invariant.left whole)

pub returns-clause-text : goal.returns-clause-text
returns-clause-text g c =
    let whole = line_ends c.loop-rr.buffer _ c.in-None.ensures.steps.0 ∙ ap (λ l. l ++ []) (sym c.as_slice-2.ensures.value) in
    MatchResult-weaker c.write_octets-2.result c.write_octets-2.ensures.written (λ x taken. left_none _ _ _ _ _ _ c.loop-rr.invariant.left whole taken) (λ stop h. h)
