-- From what `clap` found to the call that words are.
use Rattle.std.proofs.Common.{◌≡◌, true, List, [], ap, ◌∙◌, arith, ◌⊎◌, inl, inr}
use Rattle.std.proofs.lemmas.Bool.{and_parts}
use Rattle.std.specs.Prelude.{Option, Some}
use Rattle.clap.specs.Words.{App, IsAmong, Kinds, Text, is_simple, fault_of, is_simple_and_free, subcommand_of}
use Rattle.clap.specs.declared.error.kind.ErrorKind.{ErrorKind}
use Rattle.clap.specs.declared.error.kind.ErrorKind.TheVariants.{Format, OutOfMemory}
use Rattle.command_line.specs.Calls.{Called, Calls, Commands, IsNoCall, IsOneOf, MayAsk, MayFail}
use Rattle.command_line.specs.Machine.Telling.{Answers, EndsWell}
use Rattle.command_line.specs.declared.no_call.NoCall.{NoCall}
use Rattle.command_line.specs.declared.no_call.NoCall.TheVariants.{Shown, Told, Memory}

-- what a command without faults fails by
pub for_memory : (kind : ErrorKind) (kinds : Kinds) → (kind ≡ OutOfMemory) ⊎ IsAmong kind kinds → kinds ≡ [] → kind ≡ OutOfMemory
for_memory kind kinds given none = grind arith

-- what is told is what answers of these kinds may be
abbrev pub Fits : Kinds → NoCall → Type 0
Fits kinds (Shown shown) = MayAsk kinds
Fits kinds (Told told) = MayFail kinds
Fits kinds Memory = Unit {0}

pub fits_kind : (fault : NoCall) (kind : ErrorKind) (kinds : Kinds) → Answers kind fault → (kind ≡ OutOfMemory → fault ≡ Memory) → (kind ≡ OutOfMemory) ⊎ IsAmong kind kinds → Fits kinds fault
fits_kind (Shown shown) kind kinds answers memory (inl out) = let e : Shown shown ≡ Memory = memory out in cc
fits_kind (Shown shown) kind kinds answers memory (inr among) = (kind, among, answers)
fits_kind (Told told) kind kinds answers memory (inl out) = let e : Told told ≡ Memory = memory out in cc
fits_kind (Told told) kind kinds answers memory (inr among) = inr (kind, among, answers)
fits_kind Memory kind kinds answers memory given = tt

-- words without a fault ask for nothing that is shown
pub fits_none : (fault : NoCall) (kinds : Kinds) → Answers Format fault → kinds ≡ [] → Fits kinds fault
fits_none (Shown shown) kinds answers none = absurd answers
fits_none (Told told) kinds answers none = inl none
fits_none Memory kinds answers none = tt

-- what `clap` is asked for is simple
module _ (commands : Commands) (simple : is_simple_and_free commands.app ≡ true) where
  pub is_free : (app : App) → app ≡ commands.app → is_simple_and_free app ≡ true
  is_free app is = ap is_simple_and_free is ∙ simple

  pub is_plain : (app : App) → app ≡ commands.app → is_simple app ≡ true
  is_plain app is = (and_parts _ _ (is_free app is)).0

module _ (commands : Commands) (words : List Text) where
  pub fault_told : (fault : NoCall) → EndsWell fault → Fits (fault_of commands.app words) fault → ((call : Called) → Calls commands words call → fault ≡ Memory) → IsNoCall commands words fault
  fault_told (Shown shown) ends fits memory = (λ call calls. let e : Shown shown ≡ Memory = memory call calls in cc, ends, fits)
  fault_told (Told told) ends fits memory = (λ call calls. let e : Told told ≡ Memory = memory call calls in cc, ends, fits)
  fault_told Memory ends fits memory = tt

  module _ (app : App) (found : Option Called) (is : app ≡ commands.app) (finds : found ≡ subcommand_of app words) where
    pub found_is : found ≡ subcommand_of commands.app words
    found_is = finds ∙ ap (λ (a : App). subcommand_of a words) is

    -- a command that was found is called by nothing if it isn't whole
    pub not_called : ((call : Called) → found ≡ Some call → IsOneOf commands.rows call → ⊥) → (call : Called) → Calls commands words call → ⊥
    not_called none call calls = none call (found_is ∙ calls.stated) calls.whole
