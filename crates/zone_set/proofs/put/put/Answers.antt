use Rattle.zone_set.proofs.Common.{err_from_is_err_and, inl, inr, ◌≡◌, ℕ, List, [], ◌∷◌, ◌++◌, map, MatchOption, refl, sym, ap, ◌∙◌, subst, arith, AllByRecursion, IfSome, AllByRecursion-back, AllByRecursion-front, Record, OtherTtl, all_records, entry_record, HasOtherTtl, HoldsEntries, IsComparable, IsEntry, stored, Ascends, record_of, Has, Entry}
use Rattle.sorted_chunks.specs.Chunks.{after, before, joined}
use Rattle.zone_set.proofs.Holding.Adding.{on_err}
use Rattle.zone_set.proofs.Ordering.Between.{copied, first_has, first_neighbour, last_has, last_neighbour, one_ttl, told_by, Ascends-between, IsNeighbour, Parts}
use Rattle.zone_set.proofs.Holding.Putting.{all_comparable, each_comparable, each_put, parts_at, was_put}
use Rattle.zone_set.proofs.Storage.Storing.{each_kept, records_kept}
use Rattle.zone_set.proofs.put.put.Goals as goal
use Rattle.zone_set.proofs.put.put.Goals.{After-copied-first}

pub place_of-position-requires : goal.place_of-position-requires
place_of-position-requires c = (
  omega arith,
  rw c.as_slice.ensures.value (all_comparable c.args.base.now c.args.octets.now.items (record_of c.args.rr.now) c.hint_of-hint.result c.requires.whole c.hint_of-hint.ensures (joined c.args.entries.now) c.requires.holds.each),
)

-- what holds of the octets that are lent, holds of the octets
moved : (c : After-copied-first) (P : List ℕ → Type 0) → P c.as_slice.result.now → P c.args.octets.now.items
moved c P holds = subst P c.as_slice.ensures.value holds

abbrev first_part : After-copied-first → List Entry
first_part c = before c.args.entries.now c.place_of-position.result

abbrev last_part : After-copied-first → List Entry
last_part c = after c.args.entries.now c.place_of-position.result

abbrev record_for : After-copied-first → Entry → Record
record_for c = entry_record c.args.rr.now.class c.as_slice.result.now

holds : (c : After-copied-first) → HoldsEntries c.args.base.now c.args.rr.now.class c.as_slice.result.now (joined c.args.entries.now)
holds c = rw c.as_slice.ensures.value c.requires.holds

parts : (c : After-copied-first) → Parts (all_records c.args.rr.now.class c.as_slice.result.now (joined c.args.entries.now)) (map (record_for c) (first_part c)) (map (record_for c) (last_part c)) (record_of c.args.rr.now)
parts c = parts_at c.args.base.now c.as_slice.result.now (record_of c.args.rr.now) (joined c.args.entries.now) (first_part c) (last_part c) (holds c) c.place_of-position.ensures.whole c.place_of-position.ensures.parts

last_is : (c : After-copied-first) → MatchOption c.copied-last.result (first_part c ≡ []) (λ e. (front : List Entry) × (first_part c ≡ front ++ e ∷ []))
last_is c = copied (first_part c ≡ []) (λ e. (front : List Entry) × (first_part c ≡ front ++ e ∷ [])) c.last_before.result c.copied-last.result c.copied-last.ensures c.last_before.ensures

first_is : (c : After-copied-first) → MatchOption c.copied-first.result (last_part c ≡ []) (λ e. (rest : List Entry) × (last_part c ≡ e ∷ rest))
first_is c = copied (last_part c ≡ []) (λ e. (rest : List Entry) × (last_part c ≡ e ∷ rest)) c.first_after.result c.copied-first.result c.copied-first.ensures c.first_after.ensures

abbrev Comparable : After-copied-first → Entry → Type 0
Comparable c = IsComparable c.as_slice.result.now c.hint_of-hint.result (record_of c.args.rr.now)

comparable : (c : After-copied-first) → AllByRecursion (Comparable c) (first_part c ++ last_part c)
comparable c = rw c.place_of-position.ensures.whole (each_comparable c.args.base.now c.as_slice.result.now (record_of c.args.rr.now) c.hint_of-hint.result c.requires.whole c.hint_of-hint.ensures (joined c.args.entries.now) (holds c).each)

first_comparable : (c : After-copied-first) → IfSome c.copied-first.result (Comparable c)
first_comparable c = first_has (Comparable c) (last_part c) (AllByRecursion-back (Comparable c) (first_part c) (last_part c) (comparable c)) c.copied-first.result (first_is c)

pub is_of_other_ttl-requires : goal.is_of_other_ttl-requires
is_of_other_ttl-requires c =
    let p = (goal.at.is_of_other_ttl-requires c).After-copied-first in
    last_has (Comparable p) (first_part p) (AllByRecursion-front (Comparable p) (first_part p) (last_part p) (comparable p)) c.copied-last.result (last_is p)

pub is_of_other_ttl-requires-2 : goal.is_of_other_ttl-requires-2
is_of_other_ttl-requires-2 c = first_comparable (goal.at.is_of_other_ttl-requires-2 c).After-copied-first

pub is_equal-requires : goal.is_equal-requires
is_equal-requires c = first_comparable (goal.at.is_equal-requires c).After-copied-first

abbrev held : After-copied-first → List Record
held c = all_records c.args.rr.now.class c.as_slice.result.now (joined c.args.entries.now)

near_last : (c : After-copied-first) → MatchOption c.copied-last.result (first_part c ≡ []) (IsNeighbour (record_for c) (held c) (first_part c) (record_of c.args.rr.now))
near_last c = last_neighbour (record_for c) (first_part c) (last_part c) (parts c) c.copied-last.result (last_is c)

near_first : (c : After-copied-first) → MatchOption c.copied-first.result (last_part c ≡ []) (IsNeighbour (record_for c) (held c) (last_part c) (record_of c.args.rr.now))
near_first c = first_neighbour (record_for c) (first_part c) (last_part c) (parts c) c.copied-first.result (first_is c)

pub returns-then-is_of_other_ttl-clause-refused : goal.returns-then-is_of_other_ttl-clause-refused
returns-then-is_of_other_ttl-clause-refused c =
    let p = (goal.at.returns-then-is_of_other_ttl-clause-refused c).After-copied-first in
    let found = told_by (record_for p) (held p) (first_part p) (record_of c.args.rr.now) (λ e. HasOtherTtl (record_for p e) (record_of c.args.rr.now)) c.copied-last.result (near_last p) c.is_of_other_ttl.result c.is_of_other_ttl.ensures c.if-is_of_other_ttl.true in
    inr (refl, moved p (λ octs. OtherTtl (all_records c.args.rr.now.class octs (joined c.args.entries.now)) (record_of c.args.rr.now)) (record_for p found.0, found.1, found.2.0, found.2.1))

pub returns-then-is_of_other_ttl-2-clause-refused : goal.returns-then-is_of_other_ttl-2-clause-refused
returns-then-is_of_other_ttl-2-clause-refused c =
    let p = (goal.at.returns-then-is_of_other_ttl-2-clause-refused c).After-copied-first in
    let found = told_by (record_for p) (held p) (last_part p) (record_of c.args.rr.now) (λ e. HasOtherTtl (record_for p e) (record_of c.args.rr.now)) c.copied-first.result (near_first p) c.is_of_other_ttl-2.result c.is_of_other_ttl-2.ensures c.if-is_of_other_ttl-2.true in
    inr (refl, moved p (λ octs. OtherTtl (all_records c.args.rr.now.class octs (joined c.args.entries.now)) (record_of c.args.rr.now)) (record_for p found.0, found.1, found.2.0, found.2.1))

pub returns-in_err-at-clause-refused : goal.returns-in_err-at-clause-refused
returns-in_err-at-clause-refused c =
    let told = err_from_is_err_and c.from_residual.result c.from_residual.ensures.1 in
    rw (told.1, told.2) (inl refl)

pub returns-in_err-insert-clause-refused : goal.returns-in_err-insert-clause-refused
returns-in_err-insert-clause-refused c =
    let told = err_from_is_err_and c.from_residual-in_err-insert.result c.from_residual-in_err-insert.ensures.1 in
    rw (told.1, told.2) (inl refl)

pub returns-then-is_equal-clause-told : goal.returns-then-is_equal-clause-told
returns-then-is_equal-clause-told c =
    let p = (goal.at.returns-then-is_equal-clause-told c).After-copied-first in
    let found = told_by (record_for p) (held p) (last_part p) (record_of c.args.rr.now) (λ e. record_for p e ≡ record_of c.args.rr.now) c.copied-first.result (near_first p) c.is_equal.result c.is_equal.ensures c.if-is_equal.true in
    (refl, moved p (λ octs. Has (all_records c.args.rr.now.class octs (joined c.args.entries.now)) (record_of c.args.rr.now)) (subst (Has (held p)) found.2 found.1))

pub returns-then-is_equal-clause-one_ttl : goal.returns-then-is_equal-clause-one_ttl
returns-then-is_equal-clause-one_ttl c =
    let p = (goal.at.returns-then-is_equal-clause-one_ttl c).After-copied-first in
    moved p (λ octs. OtherTtl (all_records c.args.rr.now.class octs (joined c.args.entries.now)) (record_of c.args.rr.now) → ⊥)
    (one_ttl (record_for p) (first_part p) (last_part p) (parts p) c.copied-last.result c.copied-first.result (near_last p) (near_first p) c.is_of_other_ttl.result c.is_of_other_ttl-2.result c.is_of_other_ttl.ensures c.if-is_of_other_ttl.false c.is_of_other_ttl-2.ensures c.if-is_of_other_ttl-2.false)

pub returns-clause-one_ttl : goal.returns-clause-one_ttl
returns-clause-one_ttl c =
    let p = (goal.at.returns-clause-one_ttl c).After-copied-first in
    moved p (λ octs. OtherTtl (all_records c.args.rr.now.class octs (joined c.args.entries.now)) (record_of c.args.rr.now) → ⊥)
    (one_ttl (record_for p) (first_part p) (last_part p) (parts p) c.copied-last.result c.copied-first.result (near_last p) (near_first p) c.is_of_other_ttl.result c.is_of_other_ttl-2.result c.is_of_other_ttl.ensures c.if-is_of_other_ttl.false c.is_of_other_ttl-2.ensures c.if-is_of_other_ttl-2.false)

pub returns-in_err-insert-clause-each : goal.returns-in_err-insert-clause-each
returns-in_err-insert-clause-each c =
    subst (λ octs. AllByRecursion (IsEntry c.args.base.now c.args.rr.now.class octs) (joined c.insert.new.self)) (sym c.in_ok-at.ensures.appended)
    (subst (λ chunks. AllByRecursion (IsEntry c.args.base.now c.args.rr.now.class (c.args.octets.now.items ++ stored (record_of c.args.rr.now))) (joined chunks)) (sym c.in_err-insert.ensures.unchanged)
    (each_kept c.args.rr.now.class c.args.octets.now.items (stored (record_of c.args.rr.now)) c.args.base.now (joined c.args.entries.now) c.requires.holds.each))

pub returns-in_err-insert-clause-unchanged : goal.returns-in_err-insert-clause-unchanged
returns-in_err-insert-clause-unchanged c =
    on_err c.from_residual-in_err-insert.result
    (ap (λ octs. all_records c.args.rr.now.class octs (joined c.insert.new.self)) c.in_ok-at.ensures.appended
    ∙ ap (λ chunks. all_records c.args.rr.now.class (c.args.octets.now.items ++ stored (record_of c.args.rr.now)) (joined chunks)) c.in_err-insert.ensures.unchanged
    ∙ records_kept c.args.rr.now.class c.args.octets.now.items (stored (record_of c.args.rr.now)) c.args.base.now (joined c.args.entries.now) c.requires.holds.each)

pub returns-clause-each : goal.returns-clause-each
returns-clause-each c =
    let p = (goal.at.returns-clause-each c).After-copied-first in
    each_put c.args.base.now c.args.octets.now.items (record_of c.args.rr.now) (joined c.args.entries.now) (first_part p) (last_part p) (joined c.insert.new.self) (record { hint = c.hint_of-hint.result; at = c.in_ok-at.at }) c.append.new.octets.items
    c.requires.holds c.place_of-position.ensures.whole c.requires.whole c.in_ok-at.ensures.place c.in_ok-at.ensures.appended c.in_ok-insert.ensures.taken c.hint_of-hint.ensures

pub returns-clause-told : goal.returns-clause-told
returns-clause-told c =
    let p = (goal.at.returns-clause-told c).After-copied-first in
    let agree = one_ttl (record_for p) (first_part p) (last_part p) (parts p) c.copied-last.result c.copied-first.result (near_last p) (near_first p) c.is_of_other_ttl.result c.is_of_other_ttl-2.result c.is_of_other_ttl.ensures c.if-is_of_other_ttl.false c.is_of_other_ttl-2.ensures c.if-is_of_other_ttl-2.false in
    was_put c.args.base.now c.args.octets.now.items (record_of c.args.rr.now) (joined c.args.entries.now) (first_part p) (last_part p) (joined c.insert.new.self) (record { hint = c.hint_of-hint.result; at = c.in_ok-at.at }) c.append.new.octets.items
    c.requires.holds c.place_of-position.ensures.whole c.requires.whole c.in_ok-at.ensures.place c.in_ok-at.ensures.appended c.in_ok-insert.ensures.taken
    (moved p (λ octs. Ascends (map (entry_record c.args.rr.now.class octs) (first_part p) ++ record_of c.args.rr.now ∷ map (entry_record c.args.rr.now.class octs) (last_part p)))
    (Ascends-between (record_for p) (first_part p) (last_part p) (parts p) agree c.copied-first.result (first_is p) c.is_equal.result c.is_equal.ensures c.if-is_equal.false))
