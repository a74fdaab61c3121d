-- That the reading of files ends: by each step the number of those that may be left falls.
use Rattle.std.proofs.Common.{◌≡◌, ℕ, zero, suc, ◌+◌, ◌-◌, ◌*◌, ◌<◌, ◌≤◌, ◌⊎◌, inl, inr, List, [], ◌∷◌, ◌++◌, length, Bool, true, false, refl, sym, ap, subst, ◌∙◌, arith, length-append}
use Rattle.std.specs.Prelude.{◌^◌}
use Rattle.zone_print.specs.Canonical.{text_limit}
use Rattle.zone_files.specs.FileExpander.{ExpanderState, HasFewerLines, IsOver, lines_left}
use Rattle.zone_files.specs.IncludeStack.{BeginsInner, EndsInnermost, MakesLines, StackState}
use Rattle.zone_files.specs.Machine.OpenReading.{ClosesFile, IsNew, another, main_file}
use Rattle.zone_files.specs.Machine.StepsLeft.{ClosesSome, IsAligned, StepsOn, open_rooms, room, rooms, steps_left, units_left}
use Rattle.zone_files.specs.Turns.{EndsFile, GoesAfterLines, IsTaking, TakesSome, turns_by, turns_left}
use Rattle.zone_files.specs.declared.expansion.progress.FileStatus.{FileStatus}
use Rattle.zone_files.specs.declared.expansion.progress.FileStatus.TheVariants as statuses
use Rattle.zone_files.specs.declared.files.files_reader.FilesReader.{FilesReader}
use Rattle.zone_files.specs.declared.files.open_file.OpenFile.{OpenFile}
use Rattle.zone_files.specs.declared.files.open_files.OpenFiles.{OpenFiles}

-- ---- turns

turns_below : (status : FileStatus) (last : Bool) (lines : ℕ) → lines < 2 ^ 64 → turns_by status last lines < 2 ^ 66
turns_below statuses.Going last lines few = omega arith
turns_below statuses.Broken last lines few = omega arith
turns_below statuses.Generating true lines few = omega (arith, few)
turns_below statuses.Generating false lines few = omega (arith, few)
turns_below statuses.Including last lines few = omega arith
turns_below statuses.Ended last lines few = omega arith
turns_below statuses.BrokenOff last lines few = omega arith
turns_below (statuses.Faulty fault) last lines few = omega arith
turns_below (statuses.FaultyAt value) last lines few = omega arith
turns_below statuses.Failed last lines few = omega arith

taking_turns : (s : ExpanderState) → IsTaking s.status → turns_left s ≡ 2 ^ 64 + 1
taking_turns s (inl e) = ap (λ status. turns_by status s.last (lines_left s.generated)) e
taking_turns s (inr e) = ap (λ status. turns_by status s.last (lines_left s.generated)) e

-- after the end of a file
turns_at_end : (status : FileStatus) (last : Bool) (lines : ℕ) → IsOver status → (status ≡ statuses.Generating → last ≡ true) → lines < 2 ^ 64 → turns_by status last lines < 2 ^ 64 + 1
turns_at_end statuses.Going last lines over ends few = absurd (over.0 refl)
turns_at_end statuses.Broken last lines over ends few = absurd (over.1 refl)
turns_at_end statuses.Generating true lines over ends few = omega (arith, few)
turns_at_end statuses.Generating false lines over ends few = let no_way : false ≡ true = ends refl in absurd (cc)
turns_at_end statuses.Including last lines over ends few = omega arith
turns_at_end statuses.Ended last lines over ends few = omega arith
turns_at_end statuses.BrokenOff last lines over ends few = omega arith
turns_at_end (statuses.Faulty fault) last lines over ends few = omega arith
turns_at_end (statuses.FaultyAt value) last lines over ends few = omega arith
turns_at_end statuses.Failed last lines over ends few = omega arith

pub turns_end : (old new : ExpanderState) → IsTaking old.status → IsOver new.status → EndsFile old new → lines_left new.generated < 2 ^ 64 → turns_left new < turns_left old
turns_end old new taking over ends few = rw (taking_turns old taking) (turns_at_end new.status new.last (lines_left new.generated) over (ends taking) few)

-- after lines
turns_after : (status : FileStatus) (was last : Bool) (before lines : ℕ) → (status ≡ statuses.Generating → lines < before) → (status ≡ statuses.Generating → last ≡ was) → (IsTaking status → was ≡ false) → turns_by status last lines < turns_by statuses.Generating was before
turns_after statuses.Going true last before lines fewer same going = let no_way : true ≡ false = going (inl refl) in absurd (cc)
turns_after statuses.Going false last before lines fewer same going = omega arith
turns_after statuses.Broken true last before lines fewer same going = let no_way : true ≡ false = going (inr refl) in absurd (cc)
turns_after statuses.Broken false last before lines fewer same going = omega arith
turns_after statuses.Generating true true before lines fewer same going = omega (arith, fewer refl)
turns_after statuses.Generating false false before lines fewer same going = omega (arith, fewer refl)
turns_after statuses.Generating true false before lines fewer same going = let no_way : false ≡ true = same refl in absurd (cc)
turns_after statuses.Generating false true before lines fewer same going = let no_way : true ≡ false = same refl in absurd (cc)
turns_after statuses.Including true last before lines fewer same going = omega arith
turns_after statuses.Including false last before lines fewer same going = omega arith
turns_after statuses.Ended true last before lines fewer same going = omega arith
turns_after statuses.Ended false last before lines fewer same going = omega arith
turns_after statuses.BrokenOff true last before lines fewer same going = omega arith
turns_after statuses.BrokenOff false last before lines fewer same going = omega arith
turns_after (statuses.Faulty fault) true last before lines fewer same going = omega arith
turns_after (statuses.Faulty fault) false last before lines fewer same going = omega arith
turns_after (statuses.FaultyAt value) true last before lines fewer same going = omega arith
turns_after (statuses.FaultyAt value) false last before lines fewer same going = omega arith
turns_after statuses.Failed true last before lines fewer same going = omega arith
turns_after statuses.Failed false last before lines fewer same going = omega arith

pub turns_lines : (old new : ExpanderState) → old.status ≡ statuses.Generating → HasFewerLines old new → GoesAfterLines old new → turns_left new < turns_left old
turns_lines old new generating fewer goes =
    subst (λ status. turns_left new < turns_by status old.last (lines_left old.generated)) (sym generating)
    (turns_after new.status old.last new.last (lines_left old.generated) (lines_left new.generated) fewer goes.last goes.going)

-- ---- steps

less_room : (n k : ℕ) → n ≡ k + 1 → n ≤ 10000 → (10000 - n) * (text_limit + 2) + (text_limit + 2) ≡ (10000 - k) * (text_limit + 2)
less_room n k is few = omega (arith, is, few)

falls_by_units : (units was turns before : ℕ) → units < was → turns < 2 ^ 66 → units * 2 ^ 66 + turns < was * 2 ^ 66 + before
falls_by_units units was turns before fewer few = omega (arith, fewer, few)

falls_by_turns : (units was turns before : ℕ) → units ≤ was → turns < before → units * 2 ^ 66 + turns < was * 2 ^ 66 + before
falls_by_turns units was turns before no_more fewer = omega (arith, no_more, fewer)

module _ {F : Type 0} where
  steps_by_units : (old new : FilesReader F) → IsAligned new → units_left new < units_left old → StepsOn old new
  steps_by_units old new aligned fewer = record {
    aligned = aligned;
    fewer = λ few. falls_by_units (units_left new) (units_left old) (turns_left new.stack.innermost) (turns_left old.stack.innermost) fewer (turns_below new.stack.innermost.status new.stack.innermost.last (lines_left new.stack.innermost.generated) few);
  }

  steps_by_turns : (old new : FilesReader F) → IsAligned new → units_left new ≤ units_left old → (lines_left new.stack.innermost.generated < 2 ^ 64 → turns_left new.stack.innermost < turns_left old.stack.innermost) → StepsOn old new
  steps_by_turns old new aligned no_more fewer = record {
    aligned = aligned;
    fewer = λ few. falls_by_turns (units_left new) (units_left old) (turns_left new.stack.innermost) (turns_left old.stack.innermost) no_more (fewer few);
  }

  units_by : (old new : FilesReader F) → new.included ≡ old.included → open_rooms new.«open» < open_rooms old.«open» → units_left new < units_left old
  units_by old new included fewer = let same : (10000 - new.included) * (text_limit + 2) ≡ (10000 - old.included) * (text_limit + 2) = ap (λ n. (10000 - n) * (text_limit + 2)) included in omega (arith, same, fewer)

  units_same : (old new : FilesReader F) → new.included ≡ old.included → open_rooms new.«open» ≤ open_rooms old.«open» → units_left new ≤ units_left old
  units_same old new included fewer = let same : (10000 - new.included) * (text_limit + 2) ≡ (10000 - old.included) * (text_limit + 2) = ap (λ n. (10000 - n) * (text_limit + 2)) included in omega (arith, same, fewer)

  rooms_both : (xs ys : List (OpenFile F)) → rooms (xs ++ ys) ≡ rooms xs + rooms ys
  rooms_both [] ys = omega arith
  rooms_both (x ∷ xs) ys = let rest = rooms_both xs ys in omega (arith, rest)

  -- ---- the innermost file

  -- octets were read
  pub steps_read : (old mid new : FilesReader F) → mid.stack ≡ old.stack → mid.included ≡ old.included → mid.«open».outer ≡ old.«open».outer → room mid.«open».innermost ≤ room old.«open».innermost → StepsOn mid new → StepsOn old new
  steps_read old mid new stack included outer no_more steps = record {
    aligned = steps.aligned;
    fewer = λ few.
        let rooms_are : rooms mid.«open».outer.items ≡ rooms old.«open».outer.items = ap (λ files. rooms files.items) outer in
        let units : units_left mid ≤ units_left old = units_same old mid included (omega (arith, rooms_are, no_more)) in
        let turns : turns_left mid.stack.innermost ≡ turns_left old.stack.innermost = ap (λ (s : StackState). turns_left s.innermost) stack in
        let before = steps.fewer few in
        omega (arith, before, units, turns);
  }

  -- octets were taken
  pub steps_fed : (old new : FilesReader F) (left : List ℕ) → TakesSome old.stack.innermost.status old.«open».innermost.piece left → IsTaking old.stack.innermost.status → 0 < length old.«open».innermost.piece → IsAligned old → new.stack.outer ≡ old.stack.outer → new.included ≡ old.included → new.«open».outer ≡ old.«open».outer → new.«open».innermost.piece ≡ left → new.«open».innermost.count ≡ old.«open».innermost.count → StepsOn old new
  steps_fed old new left takes taking some aligned stack included outer piece count =
      let rooms_are : rooms new.«open».outer.items ≡ rooms old.«open».outer.items = ap (λ files. rooms files.items) outer in
      let less : length new.«open».innermost.piece < length old.«open».innermost.piece = subst (λ l. length l < length old.«open».innermost.piece) (sym piece) (takes taking some) in
      steps_by_units old new (ap (λ files. length files.items) outer ∙ aligned ∙ ap length (sym stack))
      (units_by old new included (omega (arith, rooms_are, less, count)))

  -- ---- files that are closed

  pub closes_one : (old new : FilesReader F) → length old.stack.outer < length old.«open».outer.items → new.stack ≡ old.stack → new.included ≡ old.included → ClosesFile old.«open» new.«open» → (units_left new < units_left old) × (suc (length new.«open».outer.items) ≡ length old.«open».outer.items)
  closes_one old new more stack included (main_file none) = absurd (omega (arith, ap length none))
  closes_one old new more stack included (another parts) =
      let both = rooms_both new.«open».outer.items (new.«open».innermost ∷ []) in
      let are : rooms old.«open».outer.items ≡ rooms (new.«open».outer.items ++ new.«open».innermost ∷ []) = ap rooms parts in
      let len : length old.«open».outer.items ≡ length (new.«open».outer.items ++ new.«open».innermost ∷ []) = ap length parts in
      (units_by old new included (omega (arith, both, are)), omega (arith, len, length-append new.«open».outer.items (new.«open».innermost ∷ [])))

-- files were closed since a start, or none
pub record CloseSoFar {F : Type 0} (start now : FilesReader F) : Type 0 where
  pub stack : now.stack ≡ start.stack
  pub included : now.included ≡ start.included
  pub least : length start.stack.outer ≤ length start.«open».outer.items → length start.stack.outer ≤ length now.«open».outer.items
  pub units : (now.«open» ≡ start.«open») ⊎ (units_left now < units_left start)

module _ {F : Type 0} where
  pub closes_none : (start : FilesReader F) → CloseSoFar start start
  closes_none start = record { stack = refl; included = refl; least = λ h. h; units = inl refl }

  fewer_units : (start old new : FilesReader F) → old.included ≡ start.included → (old.«open» ≡ start.«open») ⊎ (units_left old < units_left start) → units_left new < units_left old → units_left new < units_left start
  fewer_units start old new included (inl same) fewer =
      let no_more : units_left old ≤ units_left start = units_same start old included (subst (λ files. open_rooms files ≤ open_rooms start.«open») (sym same) (omega arith)) in
      omega (arith, no_more, fewer)
  fewer_units start old new included (inr less) fewer = omega (arith, less, fewer)

  pub closes_more : (start old new : FilesReader F) → CloseSoFar start old → length old.stack.outer < length old.«open».outer.items → new.stack ≡ old.stack → new.included ≡ old.included → ClosesFile old.«open» new.«open» → CloseSoFar start new
  closes_more start old new far more stack included closes =
      let one = closes_one old new more stack included closes in
      let outer : length old.stack.outer ≡ length start.stack.outer = ap (λ (s : StackState). length s.outer) far.stack in
      let count : suc (length new.«open».outer.items) ≡ length old.«open».outer.items = one.1 in
      record {
        stack = stack ∙ far.stack;
        included = included ∙ far.included;
        least = λ h. omega (arith, outer, more, count);
        units = inr (fewer_units start old new far.included far.units one.0);
      }

  same_at_end : (start now : FilesReader F) → (now.«open» ≡ start.«open») ⊎ (units_left now < units_left start) → length start.stack.outer < length start.«open».outer.items → length now.«open».outer.items ≤ length start.stack.outer → units_left now < units_left start
  same_at_end start now (inl same) more few = absurd (let len : length now.«open».outer.items ≡ length start.«open».outer.items = ap (λ (files : OpenFiles F). length files.outer.items) same in omega (arith, len, more, few))
  same_at_end start now (inr less) more few = less

  pub closes_all : (start now : FilesReader F) → CloseSoFar start now → length now.«open».outer.items ≤ length now.stack.outer → ClosesSome start now
  closes_all start now far few =
      let outer : length now.stack.outer ≡ length start.stack.outer = ap (λ (s : StackState). length s.outer) far.stack in
      record {
        aligned = λ h. let least = far.least h in omega (arith, outer, few, least);
        fewer = λ more. same_at_end start now far.units more (omega (arith, outer, few));
        no_more = no_more_units far.units;
      }
    where
      no_more_units : (now.«open» ≡ start.«open») ⊎ (units_left now < units_left start) → units_left now ≤ units_left start
      no_more_units (inl same) = units_same start now far.included (subst (λ files. open_rooms files ≤ open_rooms start.«open») (sym same) (omega arith))
      no_more_units (inr less) = omega (arith, less)

  -- ---- a file that has ended, and lines

  module _ (old mid new : FilesReader F) (files : mid.«open» ≡ old.«open») (included : mid.included ≡ old.included) (same : new.stack ≡ mid.stack) (closes : ClosesSome mid new) (aligned : IsAligned old) where
    mid_units : units_left mid ≤ units_left old
    mid_units = units_same old mid included (subst (λ os. open_rooms os ≤ open_rooms old.«open») (sym files) (omega arith))

    mid_outer : length mid.«open».outer.items ≡ length old.stack.outer
    mid_outer = ap (λ (os : OpenFiles F). length os.outer.items) files ∙ aligned

    steps_fewer : (ended : ℕ) → length old.stack.outer ≡ ended + length mid.stack.outer → length mid.stack.outer < length old.stack.outer → StepsOn old new
    steps_fewer ended outer fewer =
        let no_more = mid_units in
        let count = mid_outer in
        let units : units_left new < units_left mid = closes.fewer (omega (arith, count, fewer)) in
        steps_by_units old new (closes.aligned (omega (arith, count, fewer))) (omega (arith, no_more, units))

    steps_turned : (ended : ℕ) → length old.stack.outer ≡ ended + length mid.stack.outer → (lines_left mid.stack.innermost.generated < 2 ^ 64 → turns_left mid.stack.innermost < turns_left old.stack.innermost) → StepsOn old new
    steps_turned ended outer turns =
        let no_more = mid_units in
        let count = mid_outer in
        let units = closes.no_more in
        steps_by_turns old new (closes.aligned (omega (arith, count, outer))) (omega (arith, no_more, units))
        (subst (λ (s : StackState). lines_left s.innermost.generated < 2 ^ 64 → turns_left s.innermost < turns_left old.stack.innermost) (sym same) turns)

    pub steps_ended : (before after : List ℕ) → EndsInnermost old.stack mid.stack before after → EndsFile old.stack.innermost mid.stack.innermost ⊎ (length mid.stack.outer < length old.stack.outer) → IsTaking old.stack.innermost.status → StepsOn old new
    steps_ended before after ends last taking = by ends.over last
      where
        by : IsOver mid.stack.innermost.status ⊎ (1 ≤ ends.ended) → EndsFile old.stack.innermost mid.stack.innermost ⊎ (length mid.stack.outer < length old.stack.outer) → StepsOn old new
        by over (inr fewer) = steps_fewer ends.ended ends.outer fewer
        by (inr some) (inl ended) = steps_fewer ends.ended ends.outer (omega (arith, ends.outer, some))
        by (inl over) (inl ended) = steps_turned ends.ended ends.outer (turns_end old.stack.innermost mid.stack.innermost taking over ended)

    pub steps_made : (before after : List ℕ) → MakesLines old.stack mid.stack before after → GoesAfterLines old.stack.innermost mid.stack.innermost ⊎ (length mid.stack.outer < length old.stack.outer) → old.stack.innermost.status ≡ statuses.Generating → StepsOn old new
    steps_made before after makes goes generating = by (makes.fewer generating) goes
      where
        by : HasFewerLines old.stack.innermost mid.stack.innermost ⊎ (1 ≤ makes.ended) → GoesAfterLines old.stack.innermost mid.stack.innermost ⊎ (length mid.stack.outer < length old.stack.outer) → StepsOn old new
        by fewer (inr less) = steps_fewer makes.ended makes.outer less
        by (inr some) (inl after) = steps_fewer makes.ended makes.outer (omega (arith, makes.outer, some))
        by (inl fewer) (inl after) = steps_turned makes.ended makes.outer (λ few. turns_lines old.stack.innermost mid.stack.innermost generating fewer after)

  -- ---- a file is opened

  pub steps_begun : (old new : FilesReader F) (reader : F) → BeginsInner old.stack new.stack → IsNew reader new.«open».innermost → new.«open».outer.items ≡ old.«open».outer.items ++ old.«open».innermost ∷ [] → new.included ≡ old.included + 1 → new.included ≤ 10000 → IsAligned old → StepsOn old new
  steps_begun old new reader begins is outer included few aligned =
      let both = rooms_both old.«open».outer.items (old.«open».innermost ∷ []) in
      let are : rooms new.«open».outer.items ≡ rooms (old.«open».outer.items ++ old.«open».innermost ∷ []) = ap rooms outer in
      let fresh : room new.«open».innermost ≡ text_limit + 1 = rw (is.nothing, is.none) refl in
      let less = less_room new.included old.included included few in
      let len : length new.«open».outer.items ≡ length (old.«open».outer.items ++ old.«open».innermost ∷ []) = ap length outer in
      steps_by_units old new (omega (arith, len, length-append old.«open».outer.items (old.«open».innermost ∷ []), aligned, ap length begins.outer))
      (omega (arith, both, are, fresh, less))
