-- How the octets that a source is fed are taken, frame by frame.
use Rattle.std.specs.Prelude.{◌≡◌, ℕ, ◌+◌, ◌^◌, ◌<◌, ◌≤◌, List, [], ◌++◌, length, slice_index, true, false, Some, IfSome, MatchOption}
use Rattle.zone_rdata.specs.FedSource.{is_failed, is_finished}
use Rattle.zone_rdata.specs.declared.fed.FedStatus.{FedStatus}
use Rattle.zone_rdata.specs.declared.record.Placed.{Placed}
use Rattle.zone_wire.specs.Answers.{handed_on}
use Rattle.zone_wire.specs.Frames.{IsFramed}
use Rattle.zone_wire.specs.Machine.Transferring.{IsAfter}
use Rattle.zone_wire.specs.Message.{u16_at}
use Rattle.zone_wire.specs.Stream.{octets_in, placed_in, AreRead, StreamDecides}
use Rattle.zone_wire.specs.Transfer.{StatedMessage}
use Rattle.zone_wire.specs.declared.transfer.Transfer.{Transfer}

-- octets that end inside a frame
abbrev pub IsCut : List ℕ → Type 0
IsCut octets = length octets < 2 + u16_at octets 0

-- the messages of the frames that came whole were read, and these octets follow them
pub record Going (t : Transfer) (unfinished : List ℕ) (fed : List ℕ)
    (given : List Placed) : Type 0 where
  pub parts : List StatedMessage
  pub framed : IsFramed fed (octets_in parts) unfinished
  pub read : AreRead [] parts
  pub after : IsAfter parts t
  pub handed : given ++ t.decided.placed ≡ handed_on (placed_in parts)

-- what is held follows from the octets fed and the records given
pub record Follow (t : Transfer) (unfinished : List ℕ) (fed : List ℕ)
    (given : List Placed) : Type 0 where
  pub octets : (i : ℕ) → slice_index fed i < 256
  pub state : MatchOption t.decided.ending (Going t unfinished fed given)
      (λ e. StreamDecides fed (given ++ t.decided.placed) (Some e))

-- what a source holds: octets of the unfinished frame alone, none of them after a fault, after the
-- end or once it has failed, and numbers that fit
pub record IsSource (status : FedStatus) (fed : ℕ) (t : Transfer)
    (unfinished : List ℕ) : Type 0 where
  pub cut : IsCut unfinished
  pub messages : is_failed status ≡ false → t.messages ≤ fed
  pub fits : fed + 1 < 2 ^ 64
  pub dropped : IfSome t.decided.ending (λ _. unfinished ≡ [])
  pub none_failed : is_failed status ≡ true → unfinished ≡ []
  pub none_finished : is_finished status ≡ true → unfinished ≡ []
