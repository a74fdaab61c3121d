-- From readings to inputs.
use Rattle.zone_engine.proofs.Common.{◌≡◌, ◌⊎◌, ◌↔◌, ℕ, ◌≤◌, ◌<◌, List, [], ◌∷◌, length, refl, subst, inl, inr, ⊎_elim, arith, get_or, Option, Some, None, leb_tells, AllByRecursion, IsName, IsRecord, Fault, InputTooLong, Place, Whole, Placed, FileReads, records_of, Zone, IsZone, SameRecords, text_limit, Input, file, transfer, input_octets, IsInput, InputStates, InputReads, InputDenotes, MakesZone, RefusesReading, IsRefusal, too_long, reading, StreamReads, Labels, each_below}
use Rattle.zone_text.specs.Entries.{Entry, entries_of}
use Rattle.zone_text.specs.File.{FileStates, EntriesState}
use Rattle.zone_wire.specs.Transfer.{StreamStates}

-- what a file states are records
each_fits : (origin : Labels) (before entries : List Entry) (placed : List Placed) → EntriesState origin before entries placed → AllByRecursion IsRecord (records_of placed)
each_fits origin before [] placed none = grind arith
each_fits origin before (entry ∷ entries) placed states = grind (arith, each_fits origin (entry ∷ before) entries)

pub file_fits : (origin : Labels) (octets : List ℕ) (placed : List Placed) → FileStates origin octets placed → AllByRecursion IsRecord (records_of placed)
file_fits origin octets placed states = each_fits origin [] (entries_of states.tokens) placed states.each

-- records with their places are records
pub placed_fit : (placed : List Placed) → AllByRecursion (λ p. IsRecord p.rr) placed → AllByRecursion IsRecord (records_of placed)
placed_fit [] fits = tt
placed_fit (p ∷ placed) fits = (fits.0, placed_fit placed fits.1)

-- what holds of files of octets and of streams of octets holds of inputs
pub of_both_forms : (P : Input → Type 0) → ((origin : Labels) (octets : List ℕ) → IsName origin → AllByRecursion (λ c. c < 256) octets → P (file origin octets)) → ((stream : List ℕ) → ((i : ℕ) → get_or stream i 0 < 256) → P (transfer stream)) → (input : Input) → IsInput input → P input
of_both_forms P files streams input is = grind (arith, each_below)

abbrev OneReadingOf : (List Placed → Option (Fault × Place) → Type 0) → Type 0
OneReadingOf R = (a b : List Placed) (e f : Option (Fault × Place)) → R a e → R b f → (a ≡ b) × (e ≡ f)

-- inputs of both forms have one reading
pub one_reading : ((origin : Labels) (octets : List ℕ) → OneReadingOf (FileReads origin octets)) → ((stream : List ℕ) → OneReadingOf (StreamReads stream)) → (input : Input) → OneReadingOf (InputReads input)
one_reading files streams (file origin octets) = files origin octets
one_reading files streams (transfer stream) = streams stream

-- what inputs of both forms state is read without a fault
pub stated_is_read : ((origin : Labels) (octets : List ℕ) (placed : List Placed) → FileStates origin octets placed ↔ FileReads origin octets placed None) → ((stream : List ℕ) (placed : List Placed) → StreamStates stream placed → StreamReads stream placed None) → (input : Input) (placed : List Placed) → InputStates input placed → InputReads input placed None
stated_is_read files streams (file origin octets) placed states = (files origin octets placed).0 states
stated_is_read files streams (transfer stream) placed states = streams stream placed states

-- inputs of both forms state one list of records
pub one_list : ((origin : Labels) (octets : List ℕ) (a b : List Placed) → FileStates origin octets a → FileStates origin octets b → a ≡ b) → ((stream : List ℕ) (a b : List Placed) → StreamStates stream a → StreamStates stream b → a ≡ b) → (input : Input) (a b : List Placed) → InputStates input a → InputStates input b → a ≡ b
one_list files streams input = grind arith

module _ (input : Input) where
  abbrev IsRead : Type 0
  IsRead = (placed : List Placed) → InputStates input placed → InputReads input placed None

  abbrev OneFault : Type 0
  OneFault = (placed : List Placed) (ending : Option (Fault × Place)) (fault other : Fault) (place elsewhere : Place) → RefusesReading placed ending fault place → RefusesReading placed ending other elsewhere → (fault ≡ other) × (place ≡ elsewhere)

  pub one_refusal : OneFault → OneReadingOf (InputReads input) → (fault other : Fault) (place elsewhere : Place) → IsRefusal input fault place → IsRefusal input other elsewhere → (fault ≡ other) × (place ≡ elsewhere)
  one_refusal one once _ _ _ _ (too_long long) (too_long too) = (refl, refl)
  one_refusal one once _ _ _ _ (too_long long) (reading b f other elsewhere short reads refuses) = absurd (omega arith)
  one_refusal one once _ _ _ _ (reading a e fault place short reads refuses) (too_long long) = absurd (omega arith)
  one_refusal one once _ _ _ _ (reading a e fault place short reads refuses) (reading b f other elsewhere short' reads' refuses') = grind arith

  pub refused_or_denoted : ((placed : List Placed) (fault : Fault) (place : Place) → RefusesReading placed None fault place → (z : Zone) → MakesZone placed z → ⊥) → OneReadingOf (InputReads input) → IsRead → (fault : Fault) (place : Place) → IsRefusal input fault place → (z : Zone) → InputDenotes input z → ⊥
  refused_or_denoted apart once is_read fault place given z denotes = grind arith

  pub one_zone : ((z w : Zone) → IsZone z → IsZone w → SameRecords z.records w.records → z ≡ w) → ((a b : List Placed) → InputStates input a → InputStates input b → a ≡ b) → (z w : Zone) → InputDenotes input z → InputDenotes input w → z ≡ w
  one_zone once lists z w left right =
      let same = subst (λ placed. SameRecords z.records (records_of placed)) (lists left.placed right.placed left.states right.states) left.makes.same in
      once z w left.makes.zone right.makes.zone (λ r. ((λ has. (right.makes.same r).1 ((same r).0 has)), (λ has. (same r).1 ((right.makes.same r).0 has))))

  abbrev pub Outcome : Type 0
  Outcome = ((fault : Fault) × (place : Place) × IsRefusal input fault place) ⊎ ((z : Zone) × InputDenotes input z)

  abbrev WholeOutcome : Type 0
  WholeOutcome = (placed : List Placed) → AllByRecursion IsRecord (records_of placed) → ((fault : Fault) × (place : Place) × RefusesReading placed None fault place) ⊎ ((z : Zone) × MakesZone placed z)

  abbrev BrokenOutcome : Type 0
  BrokenOutcome = (placed : List Placed) (ending : Fault × Place) → (fault : Fault) × (place : Place) × RefusesReading placed (Some ending) fault place

  -- what is read without a fault is stated, and is records
  abbrev IsStated : List Placed → Type 0
  IsStated placed = InputReads input placed None → InputStates input placed × AllByRecursion IsRecord (records_of placed)

  within : WholeOutcome → BrokenOutcome → length (input_octets input) ≤ text_limit → (placed : List Placed) (ending : Option (Fault × Place)) → IsStated placed → InputReads input placed ending → Outcome
  within whole broken short placed None stated reads =
      let (states, fits) = stated reads in
      ⊎_elim (λ (fault, place, refuses). inl (fault, place, reading placed None fault place short reads refuses))
      (λ (z, makes). inr (z, record { short = short; placed = placed; states = states; makes = makes }))
      (whole placed fits)
  within whole broken short placed (Some ending) stated reads =
      let (fault, place, refuses) = broken placed ending in inl (fault, place, reading placed (Some ending) fault place short reads refuses)

  pub refusal_or_zone : WholeOutcome → BrokenOutcome → (placed : List Placed) (ending : Option (Fault × Place)) → IsStated placed → InputReads input placed ending → Outcome
  refusal_or_zone whole broken placed ending stated reads =
      ⊎_elim (λ short. within whole broken short.1 placed ending stated reads) (λ long. inl (InputTooLong, Whole, too_long long.1)) (leb_tells (length (input_octets input)) text_limit)

-- what inputs of both forms are read as without a fault they state
pub read_is_stated : ((origin : Labels) (octets : List ℕ) (placed : List Placed) → FileStates origin octets placed ↔ FileReads origin octets placed None) → ((stream : List ℕ) (placed : List Placed) → ((i : ℕ) → get_or stream i 0 < 256) → StreamReads stream placed None → StreamStates stream placed) → (input : Input) (placed : List Placed) → IsInput input → InputReads input placed None → InputStates input placed
read_is_stated files streams (file origin octets) placed is reads = (files origin octets placed).1 reads
read_is_stated files streams (transfer stream) placed is reads = streams stream placed (each_below 256 stream (omega arith) is) reads

pub ruleset zones_of_inputs = (one_zone, one_list)
