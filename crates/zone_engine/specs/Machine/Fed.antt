-- The sources of master files and of transfers as sources that are fed.
use Rattle.std.specs.Prelude.{List, ⊤}
use Rattle.zone_name.specs.Common.{Octets}
use Rattle.zone_rdata.specs.FedSource.{Held, SourceState, StandsFor}
use Rattle.zone_rdata.specs.RrSource.{Pending}
use Rattle.zone_rdata.specs.declared.record.Placed.{Placed}
use Rattle.zone_text.specs.TextSource.{FileKept, FileLeaves}
use Rattle.zone_wire.specs.TransferSource.{StreamKept, StreamLeaves}
use Rattle.zone_engine.specs.Input.{InputReads}
use Rattle.zone_engine.specs.Machine.Input.{Decides, ReadAs, as_file, as_transfer, input_of}

-- a source by what it has left to give and what else it holds
abbrev pub source_of : {Kept : Type 0} → Pending → Held Kept → SourceState Kept
source_of pending held = record { pending = pending; held = held }

-- a source of inputs that are read so stands for octets that it was fed, read so, and the records
-- that it has given
pub record StandsForInput {Kept : Type 0} (IsOf : ReadAs → Type 0)
    (Leave : ReadAs → Octets → Kept → Octets → Type 0) (form : ReadAs) (pending : Pending)
    (held : Held Kept) (octets : Octets) (given : List Placed) : Type 0 where
  pub is : IsOf form
  pub stands : StandsFor (Decides (input_of form octets)) (InputReads (input_of form octets))
      (Leave form octets) (source_of pending held) octets given

abbrev pub IsFile : ReadAs → Type 0
IsFile (as_file origin) = ⊤
IsFile as_transfer = ⊥

-- what the octets of a file leave
abbrev pub FileLeave : ReadAs → Octets → FileKept → Octets → Type 0
FileLeave (as_file origin) fed kept unfinished =
    FileLeaves origin fed kept.state kept.line unfinished
FileLeave as_transfer fed kept unfinished = ⊥

abbrev pub IsTransfer : ReadAs → Type 0
IsTransfer (as_file origin) = ⊥
IsTransfer as_transfer = ⊤

-- what the octets of a transfer leave
abbrev pub TransferLeave : ReadAs → Octets → StreamKept → Octets → Type 0
TransferLeave (as_file origin) fed kept unfinished = ⊥
TransferLeave as_transfer fed kept unfinished = StreamLeaves fed kept unfinished
