use Rattle.std.proofs.lemmas.Result.{on_ok_weaker}
use Rattle.zone_print.proofs.Common.{◌∙◌, ◌≡◌, ◌++◌}
use Rattle.zone_rdata.specs.Lent.{record_of}
use Rattle.zone_print.proofs.Lines.{line_pushed}
use Rattle.zone_print.proofs.line_buffer.LineBuffer.push_record.Goals as goal

pub returns : goal.returns
returns c =
    let owner = c.as_slice.ensures.value ∙ c.in-Ok.ensures.owner in
    let middle = c.as_slice-2.ensures.value ∙ c.in-Ok.ensures.middle.whole in
    let first : c.push.new.self ≡ c.args.self.now ++ c.as_slice.result.now =
    rw (← c.self.view_is) c.in_ok-push.ensures.ok in
    on_ok_weaker c.push_data.result
    (line_pushed _ _ _ _ _ _ (record_of c.args.rr) owner middle first c.in_ok-push-2.ensures.ok)
    c.push_data.ensures
