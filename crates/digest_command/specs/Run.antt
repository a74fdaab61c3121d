-- What a run of an order reads, writes and answers (this project's own).
use Rattle.std.specs.Prelude.{◌≡◌, ℕ, List, Option, IfSome, ◌⊎◌}
use Rattle.std.specs.Int.{from_be_bytes, w32}
use Rattle.std.specs.Io.KnownBytes.{Appends}
use Rattle.zone_name.specs.Common.{Labels, Octets}
use Rattle.zone_rdata.specs.Record.{Record}
use Rattle.zone_rdata.specs.declared.fault.Stop.{Stop}
use Rattle.zone_rdata.specs.declared.fault.Stop.TheVariants.{Write, Memory}
use Rattle.zone_set.specs.Zone.{Zone}
use Rattle.zone_digest.specs.Findings.{AreFindings}
use Rattle.zone_digest.specs.Verdict.{IsSerial, IsVerified}
use Rattle.zone_digest.specs.Wanted.{IsWanted}
use Rattle.zone_digest.specs.declared.algorithm.Algorithm.{Algorithm}
use Rattle.zone_digest.specs.declared.verdict.Finding.{Finding}
use Rattle.zone_print.specs.Canonical.{text_limit}
use Rattle.zone_print.specs.Device.{Device, WorksOn, Fails, IsLeft}
use Rattle.zone_print.specs.Writing.{AppendsPart}
use Rattle.zone_engine.specs.Compare.{IsAccepted}
use Rattle.zone_engine.specs.Form.{read_as_with}
use Rattle.zone_engine.specs.Input.{Input, InputDenotes}
use Rattle.zone_engine.specs.Normalise.{IsOfReading}
use Rattle.zone_engine.specs.Reading.{ReadsToEnd, StopsReading}
use Rattle.zone_engine.specs.Refusal.{IsRefused}
use Rattle.zone_engine.specs.Telling.{stop_line, stop_status, TellsLine}
use Rattle.digest_command.specs.Lines.{findings_text, record_line}
use Rattle.digest_command.specs.declared.notation.Notation.{Notation}
use Rattle.digest_command.specs.declared.order.Order.{Order}
use Rattle.digest_command.specs.declared.order.Order.TheVariants.{Verify, Digest}

-- an input, standard output and standard error
pub record Devices : Type 1 where
  pub input : Device
  pub output : Device
  pub errors : Device

abbrev pub devices : Device → Device → Device → Devices
devices input output errors = record { input = input; output = output; errors = errors }

-- the origin of an order's input, none of a transfer
abbrev pub origin_of : Order → Option Labels
origin_of (Verify origin) = origin
origin_of (Digest origin algorithm notation) = origin

-- the input that octets are for an order
abbrev pub input_for : Order → List ℕ → Input
input_for order octets = read_as_with (origin_of order) octets

-- what is told of a zone's ZONEMD records: the lines of the findings under the SOA's serial
pub record TellsFindings (z : Zone) (text : List ℕ) : Type 0 where
  pub serial : Octets
  pub is_serial : IsSerial z serial
  pub findings : List Finding
  pub are_findings : AreFindings z findings
  pub is_text : text ≡ findings_text (from_be_bytes w32 serial) findings

-- What a zone is answered to an order, with the exit status: that it is verified, 0; why it isn't,
-- 1; or the ZONEMD record that it wants, 0.
pub data IsAnswer (z : Zone) : Order → List ℕ → ℕ → Type 0 where
  verified : (origin : Option Labels) (text : List ℕ) → IsVerified z → TellsFindings z text
      → IsAnswer z (Verify origin) text 0
  not_verified : (origin : Option Labels) (text : List ℕ) → (IsVerified z → ⊥)
      → TellsFindings z text → IsAnswer z (Verify origin) text 1
  digest : (origin : Option Labels) (algorithm : Algorithm) (notation : Notation) (r : Record)
      → IsWanted z algorithm r
      → IsAnswer z (Digest origin algorithm notation) (record_line notation r) 0

-- a zone is answered so, which the octets denote where they are known
pub record IsAnswered (order : Order) (known : Option (List ℕ)) (text : List ℕ)
    (status : ℕ) : Type 0 where
  pub zone : Zone
  pub denoted : IfSome known (λ octets. InputDenotes (input_for order octets) zone)
  pub answer : IsAnswer zone order text status

-- What stopped a run: the input was refused, couldn't be read, or memory was refused for it;
-- memory was refused for the answer; or a proper prefix of the answer was written.
pub data IsStopped (order : Order) (old new : Devices) : Stop → Type 0 where
  reading : (stop : Stop) → IsOfReading stop
      → StopsReading text_limit (input_for order) old.input new.input stop
      → IsLeft old.output new.output → IsStopped order old new stop
  answering : IsAccepted (input_for order) old.input.octets
      → ReadsToEnd text_limit old.input new.input → IsLeft old.output new.output
      → IsStopped order old new Memory
  writing : (text : List ℕ) (status : ℕ) → IsAnswered order old.input.octets text status
      → ReadsToEnd text_limit old.input new.input
      → AppendsPart old.output.octets new.output.octets text → Fails old.output new.output
      → IsStopped order old new Write

-- What a run of an order leaves, with its exit status. The answer was written, and standard error is
-- left; or the line on what stopped it is told there.
pub data Runs (order : Order) (old new : Devices) : ℕ → Type 0 where
  done : (text : List ℕ) (status : ℕ) → IsAnswered order old.input.octets text status
      → ReadsToEnd text_limit old.input new.input
      → Appends old.output.octets new.output.octets text → WorksOn old.output new.output
      → IsLeft old.errors new.errors → Runs order old new status
  stopped : (stop : Stop) (status : ℕ) → IsStopped order old new stop
      → TellsLine (stop_line stop) (stop_status stop) old.errors new.errors status
      → Runs order old new status

-- What a status tells of an input: of an order to verify 0 that it denotes a zone that is verified,
-- and 1 that it denotes one that isn't; of any order 3 that it is refused. An input is one of the
-- three.
pub record TellsInput (order : Order) (input : Input) (status : ℕ) : Type 0 where
  pub verified_zone : (origin : Option Labels) (z : Zone) → order ≡ Verify origin
      → InputDenotes input z → IsVerified z → status ≡ 0
  pub other_zone : (origin : Option Labels) (z : Zone) → order ≡ Verify origin
      → InputDenotes input z → (IsVerified z → ⊥) → status ≡ 1
  pub refused : IsRefused input → status ≡ 3

-- the status does so where the octets of the input are known, but for 4, with which a run failed
abbrev pub TellsKnown : Order → Option (List ℕ) → ℕ → Type 0
TellsKnown order known status =
    IfSome known (λ octets. (status ≡ 4) ⊎ TellsInput order (input_for order octets) status)
