-- What a run of an order reads, writes and answers (this project's own).
use Rattle.std.specs.Prelude.{ℕ, List, [], ◌++◌, Option, IfSome}
use Rattle.zone_name.specs.Common.{Labels}
use Rattle.zone_rdata.specs.declared.fault.Stop.{Stop}
use Rattle.zone_rdata.specs.declared.fault.Stop.TheVariants.{Write}
use Rattle.zone_print.specs.Canonical.{text_limit}
use Rattle.zone_print.specs.Device.{Device, WorksOn, Fails, IsLeft}
use Rattle.zone_engine.specs.Compare.{Compares, StopsCompare}
use Rattle.zone_engine.specs.Explain.{Explains, StopsExplain}
use Rattle.zone_engine.specs.Form.{read_as_with}
use Rattle.zone_engine.specs.Normalise.{Normalises, StopsNormalise}
use Rattle.zone_engine.specs.Reading.{ReadsFew, ReadsToEnd, ReadsWhole, StopsReading, TellsRead}
use Rattle.zone_engine.specs.Telling.{stop_line, stop_status, verdict_line, verdict_status, which_words, TellsLine, WritesLine, WritesPartOfLine}
use Rattle.zone_engine.specs.declared.comparison.Verdict.{Verdict}
use Rattle.zone_engine.specs.declared.comparison.Which.{Which}
use Rattle.zone_command.specs.declared.order.Order.{Order}
use Rattle.zone_command.specs.declared.order.Order.TheVariants.{Normalise, Explain, Compare}
use Rattle.zone_command.specs.declared.order.Source.{Source}

-- the second input is that of a comparison
abbrev pub ReadsSecond : Order → Device → Device → Type 0
ReadsSecond (Normalise origin) old new = IsLeft old new
ReadsSecond (Explain origin) old new = IsLeft old new
ReadsSecond (Compare first second) old new = ReadsFew old new

-- two inputs, standard output and standard error
pub record Devices : Type 1 where
  pub first : Device
  pub second : Device
  pub output : Device
  pub errors : Device

abbrev pub devices : Device → Device → Device → Device → Devices
devices first second output errors =
    record { first = first; second = second; output = output; errors = errors }

-- this is the verdict on two inputs of known octets, which were read to their ends
pub record AreCompared (first second : Source) (old new : Devices)
    (verdict : Verdict) : Type 0 where
  pub compared : IfSome old.first.octets (λ octets. IfSome old.second.octets (λ others.
      Compares (read_as_with first.origin octets)
      (read_as_with second.origin others) verdict))
  pub read : ReadsToEnd text_limit old.first new.first
      × ReadsToEnd text_limit old.second new.second

-- What a run leaves that carried its order out with this status: the canonical text of the zone,
-- the line that explains the input, or that of the verdict on two.
pub data CarriesOut (old new : Devices) : Order → ℕ → Type 0 where
  normalised : (origin : Option Labels) (count : ℕ)
      → IfSome old.first.octets (λ octets. Normalises (read_as_with origin octets)
      old.output.octets new.output.octets count)
      → ReadsToEnd text_limit old.first new.first → IsLeft old.second new.second
      → WorksOn old.output new.output
      → CarriesOut old new (Normalise origin) 0
  explained : (origin : Option Labels) (status : ℕ)
      → Explains (read_as_with origin) old.first old.output new.output status
      → ReadsWhole text_limit old.first new.first → WorksOn old.first new.first
      → IsLeft old.second new.second → WorksOn old.output new.output
      → CarriesOut old new (Explain origin) status
  compared : (first second : Source) (verdict : Verdict)
      → AreCompared first second old new verdict
      → WritesLine (verdict_line verdict) old.output new.output → WorksOn old.output new.output
      → CarriesOut old new (Compare first second) (verdict_status verdict)

-- What stopped a run, and what the line on that begins with: of a comparison, the input that
-- stopped it.
pub data IsStopped (old new : Devices) : Order → List ℕ → Stop → Type 0 where
  normalising : (origin : Option Labels) (stop : Stop)
      → StopsNormalise (read_as_with origin) old.first old.output new.output stop
      → StopsReading text_limit (read_as_with origin) old.first new.first stop
      → IsLeft old.second new.second
      → IsStopped old new (Normalise origin) [] stop
  explaining : (origin : Option Labels) (stop : Stop)
      → StopsExplain (read_as_with origin) old.first old.output new.output stop
      → TellsRead old.first new.first stop → IsLeft old.second new.second
      → IsStopped old new (Explain origin) [] stop
  comparing : (first second : Source) (which : Which) (stop : Stop)
      → StopsCompare (read_as_with first.origin) (read_as_with second.origin)
      old.first new.first old.second new.second which stop
      → IsLeft old.output new.output
      → IsStopped old new (Compare first second) (which_words which) stop
  telling : (first second : Source) (verdict : Verdict)
      → AreCompared first second old new verdict
      → WritesPartOfLine (verdict_line verdict) old.output new.output
      → Fails old.output new.output
      → IsStopped old new (Compare first second) [] Write

-- What a run of an order leaves, with its exit status. It is carried out, and standard error is
-- left; or the line on what stopped it is told there.
pub data Runs (order : Order) (old new : Devices) : ℕ → Type 0 where
  done : (status : ℕ) → CarriesOut old new order status → IsLeft old.errors new.errors
      → Runs order old new status
  stopped : (words : List ℕ) (stop : Stop) (status : ℕ) → IsStopped old new order words stop
      → TellsLine (words ++ stop_line stop) (stop_status stop) old.errors new.errors status
      → Runs order old new status
