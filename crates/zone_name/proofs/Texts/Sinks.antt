-- What a sink took while its printer is under way.
use Rattle.std.proofs.Common.{◌≡◌, ℕ, List, ◌++◌, Result, Ok, Err, OnErr, arith}
use Rattle.zone_name.specs.Sink.{TakesSome}

-- the second law of a sink
abbrev pub Joins : {S : Type 0} → (S → List ℕ → S → Type 0) → Type 0
Joins {S = S} takes = (a b c : S) (x y : List ℕ) → takes a x b → takes b y c → takes a (x ++ y) c

-- two texts, one after the other, are a third
pub takes_both : {S : Type 0} (takes : S → List ℕ → S → Type 0) → Joins takes → (a b c : S) (x y z : List ℕ) → takes a x b → takes b y c → x ++ y ≡ z → takes a z c
takes_both takes joins a b c x y z first second is = grind arith

-- a printer that stops after a text that was taken
pub stops_after : {S T E : Type 0} (answer : Result T E) (takes : S → List ℕ → S → Type 0) → Joins takes → (a b c : S) (x : List ℕ) → takes a x b → TakesSome takes b c → OnErr answer (TakesSome takes a c)
stops_after (Ok r) takes joins a b c x first some = tt
stops_after (Err e) takes joins a b c x first some = (x ++ some.0, joins a b c x some.0 first some.1)

-- a printer whose last call stops
pub stops_last : {S T E : Type 0} (answer : Result T E) (takes : S → List ℕ → S → Type 0) → Joins takes → (a b c : S) (x y : List ℕ) → takes a x b → OnErr answer (takes b y c) → OnErr answer (TakesSome takes a c)
stops_last (Ok r) takes joins a b c x y first some = tt
stops_last (Err e) takes joins a b c x y first some = (x ++ y, joins a b c x y first some)

-- the sink took a text of which something is known
pub record Took {S : Type 0} (takes : S → List ℕ → S → Type 0) (start out : S) (Known : List ℕ → Type 0) : Type 0 where
  pub text : List ℕ
  pub known : Known text
  pub taken : takes start text out

-- a text after it
pub Took-more : {S : Type 0} (takes : S → List ℕ → S → Type 0) → Joins takes → (start out next : S) (Known Next : List ℕ → Type 0) (more : List ℕ) (took : Took takes start out Known) → takes out more next → Next (took.text ++ more) → Took takes start next Next
Took-more takes joins start out next Known Next more took second is = grind arith
