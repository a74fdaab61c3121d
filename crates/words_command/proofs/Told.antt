-- What is told of entries that state no data, and what an order leaves by what it is.
use Rattle.words_command.proofs.Common.{◌≡◌, ℕ, List, [], refl, subst, Global, Some, None, Result, IfErr, IfOk, OnErr, String, string_bytes, Order}
use Rattle.std.specs.Prelude.{Ok, Err}
use Rattle.std.proofs.KnownBytes.{Keeps-refl}
use Rattle.zone_print.specs.Device.{Device}
use Rattle.zone_engine.specs.Telling.{TellsLine}
use Rattle.zone_name.specs.Common.{Labels}
use Rattle.zone_words.specs.Entry.{IsRewriting}
use Rattle.zone_words.specs.Refusal.{AreInShort}
use Rattle.zone_words.specs.Rewriting.{Refused}
use Rattle.zone_words.specs.Stopped.{stopped_line}
use Rattle.zone_words.specs.declared.refusal.Refusal.{Refusal}
use Rattle.zone_words.specs.declared.refusal.Refusals.{Refusals}
use Rattle.words_print.specs.Shown.{IsShownText}
use Rattle.words_command.specs.Filtering.{IsStopped, IsWrittenWhole}
use Rattle.words_command.specs.Run.{CarriesOut, Stops, TellsRefused, failure_line, no_line, rewriting, showing}
use Rattle.words_command.specs.Run as runs
use Rattle.words_command.specs.Telling.{refusals_line}
use Rattle.words_command.specs.declared.failure.Failure.{Failure}
use Rattle.words_command.specs.declared.failure.Failure.TheVariants.{Memory}
use Rattle.words_command.specs.declared.order.Order.TheVariants.{Generic, Words}

-- nothing is told of no entry
pub nothing_told : (short : Refusals) (errors : Device) → short.first ≡ None → TellsRefused short errors errors 0
nothing_told short errors none = runs.nothing none (Keeps-refl _, λ w. w)

-- the line on the first and the others, or that memory was refused for it
pub line_told : {F : Type 0} (short : Refusals) (first : Refusal) (line : Result (String Global) F) (old new : Device) (answer : ℕ)
    → short.first ≡ Some first
    → IfOk line (λ l. string_bytes l ≡ refusals_line first short.count)
    → IfOk line (λ l. TellsLine (string_bytes l) 3 old new answer)
    → OnErr line (TellsLine (failure_line Memory) 4 old new answer)
    → TellsRefused short old new answer
line_told short first (Ok l) old new answer some is told untold = runs.some first answer some (subst (λ (t : List ℕ). TellsLine t 3 old new answer) is told)
line_told short first (Err e) old new answer some is told untold = runs.untold first answer some untold

-- a file to be rewritten, by the origin that the order has
pub generic_done : (order : Order) (input input' output output' : Device) (origin : Labels) (r : Result Refusals Failure) → order ≡ Generic origin
    → IfOk r (λ short. (told : List Refused) × AreInShort told short × IsWrittenWhole (λ octets text. IsRewriting origin octets text told) input input' output output')
    → IfOk r (λ short. (told : List Refused) × AreInShort told short × CarriesOut order input input' output output' told)
generic_done order input input' output output' origin (Ok short) is h = (h.0, h.1, rw is h.2)
generic_done order input input' output output' origin (Err failure) is h = tt

pub generic_stops : (order : Order) (input input' output output' : Device) (origin : Labels) (r : Result Refusals Failure) → order ≡ Generic origin
    → IfErr r (IsStopped (rewriting origin) stopped_line input input' output output')
    → IfErr r (Stops order input input' output output')
generic_stops order input input' output output' origin (Ok short) is h = tt
generic_stops order input input' output output' origin (Err failure) is h = rw is h

-- a text in words, of which nothing is told
pub none_told : (order : Order) (input input' output output' : Device) → order ≡ Words → IsWrittenWhole IsShownText input input' output output'
    → (told : List Refused) × AreInShort told (record { first = None; count = 0 }) × CarriesOut order input input' output output' told
none_told order input input' output output' is h = ([], record { first = refl; count = refl }, rw is (refl, h))

pub shown_stops : (order : Order) (input input' output output' : Device) (failure : Failure) → order ≡ Words → IsStopped showing no_line input input' output output' failure → Stops order input input' output output' failure
shown_stops order input input' output output' failure is h = rw is h
