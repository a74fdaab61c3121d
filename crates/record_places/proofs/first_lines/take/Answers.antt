use Rattle.std.proofs.Common.{ap, sym, ◌∙◌}
use Rattle.std.specs.Prelude.{option_map}
use Rattle.zone_rdata.specs.Lent.{placed_of}
use Rattle.record_places.proofs.Reading.{found_more}
use Rattle.record_places.proofs.first_lines.take.Goals as goal

pub records-preserved : goal.records-preserved
records-preserved c =
    let p = placed_of c.in-Some.placed in
    record {
      finds = λ origin fed was. found_more origin c.records.source c.skip.new.self p fed c.args.sorted.now c.records.lines c.note.new.lines
          (λ given. c.an_answer_is_given.ensures.some origin c.records.source c.skip.new.self p fed given)
          (ap (option_map placed_of) (sym c.in-Some.is) ∙ c.first.ensures) c.skip.ensures.left c.skip.ensures.beside
          c.note.ensures (c.records.invariant.finds origin fed was);
      held = c.skip.ensures.beside ∙ c.records.invariant.held;
    }
