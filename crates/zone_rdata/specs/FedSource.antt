-- A source of records that is fed an input in pieces: what it holds, what it stands for, and what
-- its calls ensure, whatever the form of the input. This is this project's own: the RFCs speak of
-- whole inputs.
use Rattle.std.specs.Prelude.{◌≡◌, ℕ, ◌+◌, ◌<◌, List, [], ◌++◌, length, slice_index, Bool, true, false, Option, None, IfSome, Result, IfErr, IsOk, OnOk, OnErr}
use Rattle.zone_rdata.specs.RrSource.{Pending}
use Rattle.zone_rdata.specs.declared.fault.Fault.{Fault}
use Rattle.zone_rdata.specs.declared.fault.Place.{Place}
use Rattle.zone_rdata.specs.declared.fault.Stop.{Stop}
use Rattle.zone_rdata.specs.declared.fault.Stop.TheVariants.{Memory}
use Rattle.zone_rdata.specs.declared.fed.FedStatus.{FedStatus}
use Rattle.zone_rdata.specs.declared.fed.FedStatus.TheVariants.{Open, Finished, OutOfMemory}
use Rattle.zone_rdata.specs.declared.record.Placed.{Placed}

-- What a source holds besides what it has left to give: whether the input has ended, the number of
-- octets fed, what it keeps of those that were read, and the octets that were not
pub record Held (Kept : Type 0) : Type 0 where
  pub finished : Bool
  pub fed : ℕ
  pub kept : Kept
  pub unfinished : List ℕ

pub record SourceState (Kept : Type 0) : Type 0 where
  pub pending : Pending
  pub held : Held Kept

abbrev pub is_failed : FedStatus → Bool
is_failed Open = false
is_failed Finished = false
is_failed OutOfMemory = true

abbrev pub is_finished : FedStatus → Bool
is_finished Open = false
is_finished Finished = true
is_finished OutOfMemory = false

-- the source with so many octets more
abbrev pub counted : {Kept : Type 0} → ℕ → SourceState Kept → SourceState Kept
counted more source = record {
  pending = source.pending;
  held = record source.held { fed = source.held.fed + more };
}

-- A source whose input goes on takes a piece of it, and answers.
pub record Feeds {Kept : Type 0} (old : SourceState Kept) (piece : List ℕ)
    (answer : Result (Unit {0}) Stop) (new : SourceState Kept) : Type 0 where
  -- with `Ok` it works, as it did before, and the piece is counted
  pub works : OnOk answer (old.pending.failed ≡ false)
  pub working : OnOk answer (new.pending.failed ≡ false)
  pub count : OnOk answer (new.held.fed ≡ old.held.fed + length piece)
  -- the error is want of memory; one that works answers none once a fault is decided, when it only
  -- counts, and none to a piece without octets, which changes nothing
  pub memory : IfErr answer (λ stop. stop ≡ Memory)
  pub decided : old.pending.failed ≡ false
      → IfSome old.pending.ending (λ _. IsOk answer × (new ≡ counted (length piece) old))
  pub nothing : piece ≡ [] → (new ≡ old) × (old.pending.failed ≡ false → IsOk answer)
  -- after an error it has failed, and the piece isn't counted; after any answer the input goes on
  pub failed : OnErr answer (new.pending.failed ≡ true)
  pub uncounted : OnErr answer (new.held.fed ≡ old.held.fed)
  pub goes_on : new.held.finished ≡ false

-- A source whose input goes on takes its end, and answers.
pub record Finishes {Kept : Type 0} (old : SourceState Kept) (answer : Result (Unit {0}) Stop)
    (new : SourceState Kept) : Type 0 where
  -- with `Ok` it works, as it did before, and the input has ended
  pub works : OnOk answer (old.pending.failed ≡ false)
  pub working : OnOk answer (new.pending.failed ≡ false)
  pub finished : OnOk answer (new.held.finished ≡ true)
  -- the error is want of memory; one that works answers none once a fault is decided, and none
  -- where no octets are unfinished
  pub memory : IfErr answer (λ stop. stop ≡ Memory)
  pub decided : old.pending.failed ≡ false → IfSome old.pending.ending (λ _. IsOk answer)
  pub nothing : old.pending.failed ≡ false → old.held.unfinished ≡ [] → IsOk answer
  -- after an error it has failed, and the input goes on; after any answer the count is as it was
  pub failed : OnErr answer (new.pending.failed ≡ true)
  pub goes_on : OnErr answer (new.held.finished ≡ false)
  pub count : new.held.fed ≡ old.held.fed

-- the source keeps so many octets of the input: those that are unfinished, and none once a fault is
-- decided, the input has ended or the source has failed
pub record KeepsOctets {Kept : Type 0} (source : SourceState Kept) (number : ℕ) : Type 0 where
  pub held : number ≡ length source.held.unfinished
  pub decided : IfSome source.pending.ending (λ _. number ≡ 0)
  pub finished : source.held.finished ≡ true → number ≡ 0
  pub failed : source.pending.failed ≡ true → number ≡ 0

-- The source stands for the octets that it was fed and the records that it has given. Before the
-- end of the input it has left to give what else the octets decide, and while no fault is decided
-- it holds what they leave. From then on it has left to give the rest of what the input is read as.
pub record StandsFor {Kept : Type 0} (Decide Read : List Placed → Option (Fault × Place) → Type 0)
    (Leave : Kept → List ℕ → Type 0) (source : SourceState Kept) (fed : List ℕ)
    (given : List Placed) : Type 0 where
  pub works : source.pending.failed ≡ false
  pub octets : (i : ℕ) → slice_index fed i < 256
  pub count : source.held.fed ≡ length fed
  pub decided : source.held.finished ≡ false
      → Decide (given ++ source.pending.records) source.pending.ending
  pub leave : source.held.finished ≡ false → source.pending.ending ≡ None
      → Leave source.held.kept source.held.unfinished
  pub read : source.held.finished ≡ true
      → Read (given ++ source.pending.records) source.pending.ending

-- the source gives these records next, and stays as it is else
pub record Gives {Kept : Type 0} (old : SourceState Kept) (placed : List Placed)
    (new : SourceState Kept) : Type 0 where
  pub first : old.pending.records ≡ placed ++ new.pending.records
  pub works : new.pending.failed ≡ old.pending.failed
  pub ending : new.pending.ending ≡ old.pending.ending
  pub held : new.held ≡ old.held
