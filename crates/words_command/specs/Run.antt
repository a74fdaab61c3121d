-- What a run of an order reads, writes and answers (this project's own).
use Rattle.std.specs.Prelude.{◌≡◌, ℕ, List, [], ◌++◌, Some, None}
use Rattle.zone_name.specs.Common.{Labels}
use Rattle.zone_rdata.specs.declared.fault.Stop.TheVariants as stops
use Rattle.zone_print.specs.Device.{Device, IsLeft}
use Rattle.zone_print.specs.Laws.{HasNoFeed}
use Rattle.zone_engine.specs.Telling.{stop_line, TellsLine}
use Rattle.zone_words.specs.Entry.{BecomesUnder, IsRewriting}
use Rattle.zone_words.specs.Rewriting.{IsRewrittenSoFar, Refused}
use Rattle.zone_words.specs.Refusal.{AreInShort}
use Rattle.zone_words.specs.Stopped.{stopped_line}
use Rattle.zone_words.specs.declared.refusal.Refusal.{Refusal}
use Rattle.zone_words.specs.declared.refusal.Refusals.{Refusals}
use Rattle.words_print.specs.Shown.{AreShown, IsShownText}
use Rattle.words_command.specs.Filtering.{Filtering, IsStopped, IsWrittenWhole}
use Rattle.words_command.specs.Telling.{refusals_line}
use Rattle.words_command.specs.declared.order.Order.{Order}
use Rattle.words_command.specs.declared.order.Order.TheVariants.{Generic, Words}
use Rattle.words_command.specs.declared.failure.Failure.{Failure}
use Rattle.words_command.specs.declared.failure.Failure.TheVariants.{Read, Write, Memory}

-- an input, standard output and standard error
pub record Devices : Type 1 where
  pub input : Device
  pub output : Device
  pub errors : Device

abbrev pub devices : Device → Device → Device → Devices
devices input output errors = record { input = input; output = output; errors = errors }

-- what a user is told of a failure
abbrev pub failure_line : Failure → List ℕ
failure_line Read = stop_line stops.Read
failure_line Write = stop_line stops.Write
failure_line Memory = stop_line stops.Memory

-- ---- a master file in the generic form

-- all that is written for the octets of a master file before more of them come
pub record IsFileSoFar (origin : Labels) (octets text : List ℕ) : Type 0 where
  pub waiting : List ℕ
  pub told : List Refused
  pub so_far : IsRewrittenSoFar (BecomesUnder origin) octets waiting text told

-- the rewriting of a file, whatever is told of it
abbrev pub HasRewriting : Labels → List ℕ → List ℕ → Type 0
HasRewriting origin octets text = (told : List Refused) × IsRewriting origin octets text told

-- a file under an origin is rewritten
abbrev pub rewriting : Labels → Filtering
rewriting origin = record { SoFar = IsFileSoFar origin; All = HasRewriting origin }

-- ---- a text in words

-- what is shown for the lines of octets that are ended
pub record IsShownSoFar (octets text : List ℕ) : Type 0 where
  pub done : List ℕ
  pub waiting : List ℕ
  pub whole : octets ≡ done ++ waiting
  pub unended : HasNoFeed waiting
  pub shown : AreShown done text

-- a text in words that isn't whole has no last line to say so
abbrev pub no_line : List ℕ → List ℕ
no_line text = []

-- a text is shown in words
abbrev pub showing : Filtering
showing = record { SoFar = IsShownSoFar; All = IsShownText }

-- ---- orders

-- What is told of the entries that state no data, with the exit status: nothing where there is
-- none; the line on the first of them and how many there are; or want of memory for that line.
pub data TellsRefused (short : Refusals) (old new : Device) : ℕ → Type 0 where
  nothing : short.first ≡ None → IsLeft old new → TellsRefused short old new 0
  some : (first : Refusal) (status : ℕ) → short.first ≡ Some first
      → TellsLine (refusals_line first short.count) 3 old new status
      → TellsRefused short old new status
  untold : (first : Refusal) (status : ℕ) → short.first ≡ Some first
      → TellsLine (failure_line Memory) 4 old new status → TellsRefused short old new status

-- What an order leaves of the input and of standard output that is carried out, with what there is
-- to tell. In a text in words there is nothing.
abbrev pub CarriesOut : Order → Device → Device → Device → Device → List Refused → Type 0
CarriesOut (Generic origin) input input' output output' told =
    IsWrittenWhole (λ octets text. IsRewriting origin octets text told) input input' output output'
CarriesOut Words input input' output output' told =
    (told ≡ []) × IsWrittenWhole IsShownText input input' output output'

-- what an order leaves that failed
abbrev pub Stops : Order → Device → Device → Device → Device → Failure → Type 0
Stops (Generic origin) input input' output output' failure =
    IsStopped (rewriting origin) stopped_line input input' output output' failure
Stops Words input input' output output' failure =
    IsStopped showing no_line input input' output output' failure

-- What a run of an order leaves, with its exit status: it is carried out, and the entries that
-- state no data are told; or it failed, and the line on that is told.
pub data Runs (order : Order) (old new : Devices) : ℕ → Type 0 where
  done : (told : List Refused) (short : Refusals) (status : ℕ)
      → CarriesOut order old.input new.input old.output new.output told
      → AreInShort told short → TellsRefused short old.errors new.errors status
      → Runs order old new status
  stopped : (failure : Failure) (status : ℕ)
      → Stops order old.input new.input old.output new.output failure
      → TellsLine (failure_line failure) 4 old.errors new.errors status
      → Runs order old new status
