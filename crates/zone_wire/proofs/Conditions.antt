-- Conditions in an order, and the tests that decide them.
use Rattle.zone_wire.proofs.Common.{AllByRecursion, Bool, Err, List, MatchResult, Ok, Option, Result, Some, Unless, [], and_from, and_parts, fails, false, holds, if◌then◌else◌, list_all, refl, subst, true, ◌∷◌, ◌≡◌, arith}

-- conditions have one first fault
pub unless_one : {E Holds : Type 0} {next : E → Type 0} {first e f : E} → ((a b : E) → next a → next b → a ≡ b) → Unless Holds first next e → Unless Holds first next f → e ≡ f
unless_one go b given = grind arith

-- one that holds leaves the fault to those after it
pub unless_holds : {E Holds : Type 0} {own : E} {next : E → Type 0} {e : E} → Holds → Unless Holds own next e → next e
unless_holds is given = grind arith

pub unless_own : {E Holds : Type 0} {own : E} {next : E → Type 0} {e : E} → (Holds → ⊥) → Unless Holds own next e → own ≡ e
unless_own off (fails n) = refl
unless_own off (holds x n) = absurd (off x)

-- what holds of each fault
pub unless_each : {E Holds : Type 0} {own : E} {next : E → Type 0} {e : E} (P : E → Type 0) → P own → (next e → P e) → Unless Holds own next e → P e
unless_each P here later given = grind arith

-- conditions that mean the same
pub unless_same : {E Holds Other : Type 0} {own : E} {next after : E → Type 0} {e : E} → (Holds → Other) → (Other → Holds) → (next e → after e) → Unless Holds own next e → Unless Other own after e
unless_same to from go given = grind (arith, fails, holds)

-- a test, and those after it
pub option_unless : {E Holds : Type 0} {next : E → Type 0} (test : Bool) (own : E) (rest : Option E) (e : E) → (Holds → test ≡ false) → (test ≡ false → Holds) → (Holds → rest ≡ Some e → next e) → (if test then Some own else rest) ≡ Some e → Unless Holds own next e
option_unless {E} {Holds} {next} true own rest e off by go h = let same : own ≡ e = cc in subst (Unless Holds own next) same (fails (λ x. let no = off x in cc))
option_unless false own rest e off by go h = let x = by refl in holds x (go x h)

pub tells_more : {X E : Type 0} (Is : X → Type 0) (Bad Worse : E → Type 0) (r : Result X E) → ((e : E) → Bad e → Worse e) → MatchResult r Is Bad → MatchResult r Is Worse
tells_more Is Bad Worse (Ok x) go is = is
tells_more Is Bad Worse (Err e) go bad = go e bad

pub told_test : {X E Holds : Type 0} (Is : X → Type 0) (next : E → Type 0) (test : Bool) (own : E) (rest : Result X E) → (Holds → test ≡ false) → (test ≡ false → Holds) → (Holds → MatchResult rest Is next) → MatchResult (if test then Err own else rest) Is (Unless Holds own next)
told_test Is next true own rest off by go = fails (λ x. let no = off x in cc)
told_test {Holds = Holds} Is next false own rest off by go = tells_more Is next (Unless Holds own next) rest (λ e bad. holds (by refl) bad) (go (by refl))

-- all elements pass a test of what holds of each
pub all_pass : {X : Type 0} (P : X → Type 0) (test : X → Bool) → ((x : X) → P x → test x ≡ true) → (xs : List X) → AllByRecursion P xs → list_all test xs ≡ true
all_pass P test is [] each = refl
all_pass P test is (x ∷ xs) each = and_from (test x) (list_all test xs) (is x each.0) (all_pass P test is xs each.1)

pub all_by : {X : Type 0} (P : X → Type 0) (test : X → Bool) → ((x : X) → test x ≡ true → P x) → (xs : List X) → list_all test xs ≡ true → AllByRecursion P xs
all_by P test shows [] e = tt
all_by P test shows (x ∷ xs) e = let p = and_parts (test x) (list_all test xs) e in (shows x p.0, all_by P test shows xs p.1)
