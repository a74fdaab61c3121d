use Rattle.std.proofs.Common.{◌≡◌, ◌∙◌, [], ap, arith, length, subst, sym, true}
use Rattle.std.specs.Prelude.{replicate}
use Rattle.zone_name.specs.Name.{folded}
use Rattle.record_places.specs.FirstLines.{AreFirstLines}
use Rattle.record_places.specs.Machine.SoFar.{Finds}
use Rattle.record_places.proofs.Reading.{lines_of_all, started, written_back}
use Rattle.record_places.proofs.first_lines.record_lines.Goals as goal

pub returns : goal.returns
returns c =
    let origin = c.args.origin.now in
    let octets = c.args.octets.now in
    let generic = c.in_ok-generic.generic in
    let sorted = c.in_ok-sorted.sorted in
    let name = c.folded.result in
    let fed = c.deref.result.now in
    let n = c.in_ok-lines.lines.len in
    let zeros = c.in_ok-lines.lines.items in
    let start : Finds name c.new-source.result [] sorted c.deref_mut.result.now = started name c.new-source.result sorted c.deref_mut.result.now c.new-source.ensures.stands
    (c.deref_mut.ensures.value ∙ c.in_ok-lines.ensures.items_if_clones_equal (λ y is. is) ∙ ap (λ k. replicate k 0) c.len.ensures) in
    let read : Finds name c.read.new.source fed sorted c.read.new.lines = c.in_ok-read.ensures.finds name [] start in
    let ended : Finds name c.finish.new.self fed sorted c.read.new.lines = record { given = read.given; stands = c.in-Ok.ensures.stands name fed read.given read.stands; so_far = read.so_far } in
    let read_len : length c.read.new.lines ≡ n = omega (arith, c.read.auto.lines, ap length c.deref_mut.ensures.value, c.in_ok-lines.lines.ok.0) in
    let back : c.deref_mut-2.result.now ≡ c.read.new.lines = c.deref_mut-2.ensures.value ∙ written_back n c.read.new.lines zeros read_len in
    let taken : Finds name c.take.new.source fed sorted c.take.new.lines = c.take.ensures.finds name fed (subst (λ ls. Finds name c.finish.new.self fed sorted ls) (sym back) ended) in
    let taken_len : length c.take.new.lines ≡ n = omega (arith, c.take.auto.lines, ap length back, read_len) in
    let finished : c.take.new.source.held.finished ≡ true = ap (λ h. h.finished) c.take.ensures.held ∙ c.in-Ok.ensures.finishes.finished in
    λ denotes.
    subst (AreFirstLines origin octets c.args.zone.now.records) (sym (written_back n c.take.new.lines _ taken_len))
    (lines_of_all origin octets generic.text.items generic.refusals c.args.zone.now name fed sorted c.take.new.source c.take.new.lines
    (λ told placed. c.a_rewriting_states_the_files_records.ensures origin (folded origin) octets generic.text.items told placed)
    (λ placed. c.a_file_states_what_is_read.ensures (folded origin) generic.text.items placed)
    (λ a b e f. c.a_file_has_one_reading.ensures (folded origin) generic.text.items a b e f)
    c.in_ok-generic.ensures c.folded.ensures c.deref.ensures.value c.in_ok-sorted.ensures finished c.take.ensures.all taken denotes)
