-- Lines that are written piece by piece.
use Rattle.zone_engine.proofs.Common.{◌≡◌, ℕ, List, ◌++◌, append_assoc, refl, subst, sym, Option, Ok, Err, WorksOn, Result, OnErr, OnOk, Appends, Appends-trans, AppendsPart, Device, Fails, IsFailedWrite, Stop, WritesLine, WritesPartOfLine, arith}
use Rattle.zone_engine.specs.Telling.{TellsLine}
use Rattle.zone_engine.specs.Telling as telling
use Rattle.std.specs.Prelude.{IfErr, IsErr, IsOk}
use Rattle.zone_print.proofs.Front.{some_more}

-- a part of the front of a text is a part of the text
pub part_first : (old new : Option (List ℕ)) (piece front back : List ℕ) → piece ≡ front → AppendsPart old new piece → AppendsPart old new (front ++ back)
part_first old new piece front back is (taken, rest, some, split, appended) = grind (arith, some_more rest back some, append_assoc taken rest back)

-- so is the beginning and a part of what follows it
pub part_then : (old mid new : Option (List ℕ)) (piece front back : List ℕ) → piece ≡ front → Appends old mid piece → AppendsPart mid new back → AppendsPart old new (front ++ back)
part_then old mid new piece front back is whole (taken, rest, some, split, appended) = grind (arith, append_assoc piece taken rest, Appends-trans old mid new piece taken whole appended)

pub part_as : (old new : Option (List ℕ)) (piece text : List ℕ) → piece ≡ text → AppendsPart old new piece → AppendsPart old new text
part_as old new piece text is part = subst (λ (t : List ℕ). AppendsPart old new t) is part

-- two pieces that were written whole
pub both_written : (a b c : Option (List ℕ)) (piece other text others : List ℕ) → piece ≡ text → other ≡ others → Appends a b piece → Appends b c other → Appends a c (text ++ others)
both_written a b c piece other text others is are h k = Appends-trans a b c text others (subst (λ (t : List ℕ). Appends a b t) is h) (subst (λ (t : List ℕ). Appends b c t) are k)

pub on_err : {X Y : Type 0} (r : Result X Y) (P Q : Type 0) → (P → Q) → OnErr r P → OnErr r Q
on_err r P Q then h = grind arith

pub on_any_err : {X Y : Type 0} (r : Result X Y) (P : Type 0) → P → OnErr r P
on_any_err r P h = grind arith

-- words and digits that were written make this line, and part of them part of it
pub this_line_on_ok : {X Y : Type 0} (r : Result X Y) (text line : List ℕ) (old new : Device) → text ≡ line → OnOk r (WritesLine text old new) → OnOk r (WritesLine line old new)
this_line_on_ok r text line old new is h = subst (λ (t : List ℕ). OnOk r (WritesLine t old new)) is h

pub part_of_line_on_err : {X Y : Type 0} (r : Result X Y) (text line : List ℕ) (old new : Device) → text ≡ line → OnErr r (WritesPartOfLine text old new) → OnErr r (WritesPartOfLine line old new)
part_of_line_on_err r text line old new is h = subst (λ (t : List ℕ). OnErr r (WritesPartOfLine t old new)) is h

-- a write that failed
pub failed_write : (old new : Device) (stop : Stop) → IsFailedWrite old new stop → Fails old new
failed_write old new stop h = grind arith

-- a line that was written whole, or not, is told so
pub tells_line : (line : List ℕ) (old new : Device) (r : Result (Unit {0}) Stop) (status answer : ℕ) → OnOk r (WritesLine line old new) → OnErr r (WritesPartOfLine line old new) → OnOk r (WorksOn old new) → IfErr r (IsFailedWrite old new) → (IsOk r → answer ≡ status) → (IsErr r → answer ≡ 4) → TellsLine line status old new answer
tells_line line old new (Ok u) status answer written rest works failed ok err = subst (λ (n : ℕ). TellsLine line status old new n) (sym (ok refl)) (telling.whole written works)
tells_line line old new (Err stop) status answer written rest works failed ok err = subst (λ (n : ℕ). TellsLine line status old new n) (sym (err refl)) (telling.part rest (failed_write old new stop failed))
