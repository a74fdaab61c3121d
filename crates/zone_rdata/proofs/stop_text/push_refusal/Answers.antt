use Rattle.zone_rdata.proofs.Common.{arith, append_assoc, length, length-append, on_ok_weaker, takes_both, ◌≤◌}
use Rattle.zone_rdata.specs.StopText.{place_words}
use Rattle.zone_rdata.proofs.Texts.StopTexts.{line_short}
use Rattle.zone_rdata.proofs.stop_text.push_refusal.Goals as goal
use Rattle.zone_rdata.proofs.stop_text.push_refusal.Goals.{in-Line+in_ok-push_number-in-Line, in-Message+in_ok-push_number-in-Message+in_ok-push_number-in-Message-2, in-Whole+in_ok-push-in-Whole}

pub returns-clause-text : goal.returns-clause-text
returns-clause-text g c =
    let joins = g.met.S.Sink.joins in
    let placed : g.S.Sink.takes c.push_fault.new.out (place_words c.args.place) c.match-place.out = elim c.match-place.branch [
      | in-Line+in_ok-push_number-in-Line w ↦ rw (w.out-is, w.in-Line.is) w.in_ok-push_number-in-Line.ensures.text
      | in-Message+in_ok-push_number-in-Message+in_ok-push_number-in-Message-2 w ↦ rw w.out-is (takes_both _ joins _ _ _ _ _ _ w.in_ok-push_number-in-Message.ensures.text w.in_ok-push_number-in-Message-2.ensures.text (grind (arith, append_assoc, w.in-Message.is)))
      | in-Whole+in_ok-push-in-Whole w ↦ rw (w.out-is, w.in-Whole.is) w.in_ok-push-in-Whole.ensures.ok
    ] in
    let before = joins _ _ _ _ _ (joins _ _ _ _ _ c.in_ok-push_fault.ensures.text placed) c.in_ok-push.ensures.ok in
    on_ok_weaker c.push-3.result (λ took. takes_both _ joins _ _ _ _ _ _ before took (grind (arith, c.as_bytes.ensures, c.text.ensures))) c.push-3.ensures.ok

pub returns-clause-short : goal.returns-clause-short
returns-clause-short g c =
    let few : length (place_words c.args.place) ≤ 128 = elim c.match-place.branch [
      | in-Line+in_ok-push_number-in-Line w ↦ grind (arith, length-append, w.in-Line.is, w.in_ok-push_number-in-Line.ensures.short)
      | in-Message+in_ok-push_number-in-Message+in_ok-push_number-in-Message-2 w ↦ grind (arith, length-append, w.in-Message.is, w.in_ok-push_number-in-Message.ensures.short, w.in_ok-push_number-in-Message-2.ensures.short)
      | in-Whole+in_ok-push-in-Whole w ↦ grind (arith, w.in-Whole.is)
    ] in
    on_ok_weaker c.push-3.result (λ took. line_short c.args.fault.now c.args.place c.in_ok-push_fault.ensures.short few) c.push-3.ensures.ok
