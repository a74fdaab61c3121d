-- The inputs that state records: a master file with its origin (RFC 1035 5), or the octets of a
-- zone transfer as they came over TCP (RFC 5936 2.2), each message after its length (RFC 1035
-- 4.2.2).
use Rattle.std.specs.Prelude.{ℕ, ◌≤◌, List, length, Option}
use Rattle.zone_name.specs.Common.{Labels, AreOctets}
use Rattle.zone_name.specs.Name.{IsName}
use Rattle.zone_rdata.specs.declared.fault.Fault.{Fault}
use Rattle.zone_rdata.specs.declared.fault.Place.{Place}
use Rattle.zone_rdata.specs.declared.record.Placed.{Placed}
use Rattle.zone_text.specs.File.{FileStates}
use Rattle.zone_text.specs.FileReads.{FileReads}
use Rattle.zone_wire.specs.Stream.{StreamReads}
use Rattle.zone_wire.specs.Transfer.{StreamStates}
use Rattle.zone_set.specs.Zone.{Zone}
use Rattle.zone_print.specs.Denotes.{DenotesBy}

pub data Input : Type 0 where
  file : Labels → List ℕ → Input
  transfer : List ℕ → Input

abbrev pub input_octets : Input → List ℕ
input_octets (file origin octets) = octets
input_octets (transfer octets) = octets

-- what can be given as an input: octets, a file's under an origin that is a name
abbrev pub IsInput : Input → Type 0
IsInput (file origin octets) = IsName origin × AreOctets octets
IsInput (transfer octets) = AreOctets octets

-- the records that an input states, in order and with their places
abbrev pub InputStates : Input → List Placed → Type 0
InputStates (file origin octets) placed = FileStates origin octets placed
InputStates (transfer octets) placed = StreamStates octets placed

-- what an input is read as: the records before its first fault, and that fault with its place
abbrev pub InputReads : Input → List Placed → Option (Fault × Place) → Type 0
InputReads (file origin octets) placed ending = FileReads origin octets placed ending
InputReads (transfer octets) placed ending = StreamReads octets placed ending

-- the zone that an input denotes
abbrev pub InputDenotes : Input → Zone → Type 0
InputDenotes input z = DenotesBy (InputStates input) (input_octets input) z

-- the zone that an input denotes which has at most so many octets
abbrev pub InputDenotesWithin : ℕ → Input → Zone → Type 0
InputDenotesWithin limit input z = (length (input_octets input) ≤ limit) × InputDenotes input z
