use Rattle.std.proofs.Common.{◌≡◌, ◌++◌, ap, arith, length, length-append, refl, sym, take-append-drop, ◌∙◌}
use Rattle.record_places.proofs.Reading.{read_more, read_none}
use Rattle.record_places.proofs.first_lines.read.Goals as goal

pub pieces-init : goal.pieces-init
pieces-init c = record { read = read_none c.args.source.now c.args.lines.now c.args.sorted.now c.args.octets.now; counted = refl; goes_on = c.requires.open }

pub pieces-preserved : goal.pieces-preserved
pieces-preserved c =
    let piece = c.split_at.result.0.now in
    let others = c.split_at.result.1.now in
    let cut : c.pieces.rest.now ≡ piece ++ others = sym (take-append-drop c.min.result c.pieces.rest.now) ∙ (λ i. (sym c.split_at.ensures.front) i ++ (sym c.split_at.ensures.back) i) in
    record {
      read = read_more c.args.source.now c.pieces.source c.feed.new.self c.take.new.source c.args.lines.now c.pieces.lines c.take.new.lines c.args.sorted.now c.args.octets.now c.pieces.rest.now piece others
          cut c.in-Ok.ensures.stands c.take.ensures.finds c.pieces.invariant.read;
      counted = omega (arith, ap (λ h. h.fed) c.take.ensures.held, c.in-Ok.ensures.feeds.count, ap length cut, length-append piece others, c.pieces.invariant.counted);
      goes_on = ap (λ h. h.finished) c.take.ensures.held ∙ c.in-Ok.ensures.feeds.goes_on;
    }
