-- From what was taken of the octets that a reader gave to what the reader's octets are read as.
use Rattle.zone_engine.proofs.Common.{◌≡◌, ℕ, ◌<◌, ◌≤◌, ◌+◌, true, List, [], ◌++◌, length, length-append, ap, ◌∙◌, subst, append-nil, arith, ◌==◌, Option, None, IfSome, Consumes, AllByRecursion, Octets, Placed, Held, Pending, Fault, InputTooLong, Place, Whole, Stop, Zone, ReadAs, input_of, input_octets, IsInput, IsForm, all_taken, BeginsAs, IsLoadedOf, ReadsZone, ReadsZoneWithin, RefusesRead, IsOfBytes, IsOfReading, IfRefused, IsRefusalWithin, too_long, reading, common_steps, Consumes-trans, form_of, false, Result, OnOk, Labels, SourceState, as_file, as_transfer, Ok, Err, FileDecides, FileLeave, IsFile, IsTransfer, StandsForInput, TransferLeave}
use Rattle.zone_set.proofs.Lists.Thinning.{Tells-itself}
use Rattle.zone_engine.specs.Form.{read_as}
use Rattle.zone_engine.specs.declared.form.Form.{Form}
use Rattle.zone_text.specs.TextSource.{FileKept, StandsForFile}
use Rattle.zone_wire.specs.TransferSource.{StandsForStream, StreamKept}

pub octets_of_input : (form : ReadAs) (octets : Octets) → input_octets (input_of form octets) ≡ octets
octets_of_input form octets = grind arith

-- ---- what is read

pub within : (limit : ℕ) (form : ReadAs) (octets : Octets) (z : Zone) → AllByRecursion (λ c. c < 256) octets → length octets ≤ limit → ReadsZone (input_of form octets) z → ReadsZoneWithin limit (input_of form octets) z
within limit form octets z each short reads = grind arith

pub refused_within : (limit : ℕ) (form : ReadAs) (octets : Octets) (stop : Stop) → length octets ≤ limit → IfRefused stop (RefusesRead (input_of form octets)) → IfRefused stop (IsRefusalWithin limit (input_of form octets))
refused_within limit form octets stop short refuses = grind (arith, octets_of_input, reading)

-- a reader that gave too many octets has too many
pub too_many : (limit : ℕ) (form : ReadAs) (old new : Option Octets) (given : Octets) → Consumes old new given → limit < length given → IfSome old (λ octets. IsRefusalWithin limit (input_of form octets) InputTooLong Whole)
too_many limit form old new given consumed long = grind (arith, too_long, length, octets_of_input, length-append)

-- what a source begins with is taken of no octets
pub begun : {Kept : Type 0} (IsOf : ReadAs → Type 0) (Leave : ReadAs → Octets → Kept → Octets → Type 0) (form : ReadAs) (pending : Pending) (inside : Held Kept) (listed : List Placed) (refusal : Option (Fault × Place)) → listed ≡ [] → refusal ≡ None → BeginsAs IsOf Leave pending inside form → IsLoadedOf IsOf Leave pending inside listed refusal form []
begun IsOf Leave form pending inside listed refusal none unrefused begins = rw none (all_taken [] unrefused begins.stands (Tells-itself []) begins.nothing)

-- ---- what was read so far

-- The octets that the reader gave, and what was taken of them for each form under which the source
-- began with nothing
pub record HasFed (Began : ReadAs → Type 0) (Taken : ReadAs → Octets → Type 0) (old new : Option Octets) (count fed limit : ℕ) : Type 0 where
  pub given : Octets
  pub consumed : Consumes old new given
  pub counted : length given ≡ count
  pub each : AllByRecursion (λ c. c < 256) given
  pub few : count ≤ limit + 1
  pub fed_few : fed ≤ count
  pub taken : (form : ReadAs) → Began form → Taken form given

pub consumed_none : (a b c : Option Octets) (given more : Octets) → Consumes a b given → Consumes b c more → more ≡ [] → Consumes a c given
consumed_none a b c given more first next none = subst (Consumes a c) (ap (λ os. given ++ os) none ∙ append-nil given) (Consumes-trans a b c given more first next)

-- ---- stops

pub of_reading : (stop : Stop) → IsOfBytes stop → IsOfReading stop
of_reading stop is = grind arith

pub no_octets : (octets : Octets) → (length octets == 0) ≡ true → octets ≡ []
no_octets octets none = grind (arith, common_steps)

-- octets are an input of a form
pub is_input : (form : Form) (octets : Octets) → IsForm (form_of form) → AllByRecursion (λ c. c < 256) (input_octets (read_as form octets)) → IsInput (read_as form octets)
is_input form octets name each = grind arith

-- ---- a source that begins or goes on does so as a source of an input

-- a source of a file that was fed nothing begins
pub file_begins : ((origin : Labels) (placed : List Placed) (ending : Option (Fault × Place)) → FileDecides origin [] placed ending → (placed ≡ []) × (ending ≡ None)) → (origin : Labels) (source : SourceState FileKept) → StandsForFile origin source [] [] → source.held.finished ≡ false → BeginsAs IsFile FileLeave source.pending source.held (as_file origin)
file_begins nothing origin source stands going =
    let none = nothing origin source.pending.records source.pending.ending (stands.decided going) in
    record {
      stands = record { is = tt; stands = stands };
      nothing = grind (arith, stands.works, none.0, none.1);
    }

-- and so does one of a transfer
pub transfer_begins : (source : SourceState StreamKept) → StandsForStream source [] [] → source.pending.records ≡ [] → source.pending.ending ≡ None → BeginsAs IsTransfer TransferLeave source.pending source.held as_transfer
transfer_begins source stands empty whole = grind arith

module _ (old new : SourceState FileKept) (more : Octets → Octets) where
  each_form : ((origin : Labels) (fed : Octets) (given : List Placed) → StandsForFile origin old fed given → StandsForFile origin new (more fed) given) → (form : ReadAs) (octets : Octets) (given : List Placed) → StandsForInput IsFile FileLeave form old.pending old.held octets given → StandsForInput IsFile FileLeave form new.pending new.held (more octets) given
  each_form on (as_file origin) octets given file = record { is = tt; stands = on origin octets given file.stands }
  each_form on as_transfer octets given file = absurd file.is

  pub stands_on : (r : Result (Unit {0}) Stop) → OnOk r ((origin : Labels) (fed : Octets) (given : List Placed) → StandsForFile origin old fed given → StandsForFile origin new (more fed) given) → OnOk r ((form : ReadAs) (octets : Octets) (given : List Placed) → StandsForInput IsFile FileLeave form old.pending old.held octets given → StandsForInput IsFile FileLeave form new.pending new.held (more octets) given)
  stands_on (Ok x) on = each_form on
  stands_on (Err stop) on = tt

module _ (old new : SourceState StreamKept) (more : Octets → Octets) where
  each_transfer : ((fed : Octets) (given : List Placed) → StandsForStream old fed given → StandsForStream new (more fed) given) → (form : ReadAs) (octets : Octets) (given : List Placed) → StandsForInput IsTransfer TransferLeave form old.pending old.held octets given → StandsForInput IsTransfer TransferLeave form new.pending new.held (more octets) given
  each_transfer on (as_file origin) octets given stream = absurd stream.is
  each_transfer on as_transfer octets given stream = record { is = tt; stands = on octets given stream.stands }

  pub transfer_stands_on : (r : Result (Unit {0}) Stop) → OnOk r ((fed : Octets) (given : List Placed) → StandsForStream old fed given → StandsForStream new (more fed) given) → OnOk r ((form : ReadAs) (octets : Octets) (given : List Placed) → StandsForInput IsTransfer TransferLeave form old.pending old.held octets given → StandsForInput IsTransfer TransferLeave form new.pending new.held (more octets) given)
  transfer_stands_on (Ok x) on = each_transfer on
  transfer_stands_on (Err stop) on = tt
