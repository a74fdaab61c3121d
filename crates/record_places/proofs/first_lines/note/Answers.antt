use Rattle.std.proofs.Common.{◌∷◌, ◌++◌, [], arith, get_or, refl, subst}
use Rattle.std.proofs.lemmas.List.{set-get_or}
use Rattle.zone_rdata.specs.Lent.{placed_of}
use Rattle.record_places.specs.Machine.SoFar.{EachSoFar}
use Rattle.record_places.proofs.Lines.{given_on_lines, last_line, last_on_line, line_at, line_found, line_kept, line_put, others_kept}
use Rattle.record_places.proofs.first_lines.note.Goals as goal

pub returns-in_default : goal.returns-in_default
returns-in_default c = λ given each on.
    let p = placed_of c.args.placed.now in
    others_kept given p c.args.sorted.now c.args.lines.now (c.in_default.ensures.none refl) (each (given_on_lines given p on))

pub returns-in_default-place : goal.returns-in_default-place
returns-in_default-place c = λ given each on.
    let (line, is, some) = last_on_line given (placed_of c.args.placed.now) on in
    absurd (c.in_default-place.not-Line line is)

pub returns-then-index-lines : goal.returns-then-index-lines
returns-then-index-lines c = λ given each on.
    let p = placed_of c.args.placed.now in
    let within = line_at given p c.args.sorted.now c.args.lines.now c.in-Some.index p.rr c.in-Some.ensures.found (each (given_on_lines given p on)) in
    absurd (omega (arith, within))

pub returns-then-lines-index-eq0 : goal.returns-then-lines-index-eq0
returns-then-lines-index-eq0 c = λ given each on.
    let p = placed_of c.args.placed.now in
    line_put given p c.args.sorted.now c.args.lines.now c.in-Some.index c.in-Line.line c.in-Some.ensures.up c.in-Some.ensures.found
    (line_found given p (get_or c.args.lines.now c.in-Some.index 0) c.in-Line.line c.if-lines-index-eq0.true c.in-Line.is (last_line given p c.in-Line.line c.in-Line.is on))
    (each (given_on_lines given p on))

pub returns-else-lines-index-eq0 : goal.returns-else-lines-index-eq0
returns-else-lines-index-eq0 c = λ given each on.
    let p = placed_of c.args.placed.now in
    let lines = c.args.lines.now in
    subst (EachSoFar (given ++ p ∷ []) c.args.sorted.now) (set-get_or lines c.in-Some.index 0)
    (line_put given p c.args.sorted.now lines c.in-Some.index (get_or lines c.in-Some.index 0) c.in-Some.ensures.up c.in-Some.ensures.found
    (line_kept given p (get_or lines c.in-Some.index 0) c.if-lines-index-eq0.false)
    (each (given_on_lines given p on)))
